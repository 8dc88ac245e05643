-- Tables of equal records: those that differ by one constant, and no others.
use Prim.Native.Nat.{ℕ, zero, suc, ◌+◌, ◌-◌, ◌*◌, ◌^◌, ◌<◌}
use Rattle.std.specs.Prelude.{◌≡◌, refl, ◌↔◌, length, get_or, take, drop, ℤ, pos, neg_ℤ, ◌+ℤ◌, ◌-ℤ◌}
use Rattle.std.proofs.Math.Path.{sym, ap}
use Rattle.std.proofs.Common.{◌∙◌, ap₂, arith, ext_get_or}
use mathlib.Core.List.{List, map, flat_map}
use Rattle.std.proofs.lemmas.List.{length-map}
use Rattle.std.proofs.Math.IntN.{+ℤ_assoc, +ℤ_comm}
use Rattle.numbers.specs.Answers.{accepted}
use Rattle.numbers.specs.Extremes.{least_of, greatest_of}
use Rattle.numbers.specs.Lists.{numbers_from, keep}
use Rattle.numbers.proofs.Laws.Bools.{yes_or_no}
use Rattle.numbers.proofs.Laws.Integers.{sub_add}
use Rattle.numbers.proofs.Laws.Lists.{get_d_map, map_take, map_drop, map_map, map_same}
use Rattle.numbers.proofs.Laws.Selections.{keep_unseen, flat_map_same}
use Rattle.blocks.specs.Blocks.{block, blocks, first, lower_half, upper_half, differences}
use Rattle.blocks.specs.Classes.{number_in, distinct}
use Rattle.blocks.proofs.Laws.Differences.{differences_more}
use Rattle.diagram.specs.Build.{Summary, build_answer, build_buffer, record_part}
use Rattle.diagram.specs.Records.{branches, kinds, records_below, node, Record, record_of, records_at, records, record_numbers, node_count}
use Rattle.diagram.specs.Walk.{path_weight, record_count}
use Rattle.diagram.specs.Accepted.{Accepted, written}
use Rattle.diagram.proofs.Laws.Builds.{build_admits, build_summary, build_records}
use Rattle.diagram.proofs.Laws.Nodes.{node_branching, node_passing}
use Rattle.diagram.proofs.Laws.Shifts.{shift, branches_shift}
use Rattle.diagram.proofs.Laws.Walks.{root_path}

-- ---- a constant more leaves the records

-- Its blocks are the blocks, each more by the constant.
blocks_shift : (n : ℕ) (c : ℤ) (table : List ℤ) (i : ℕ) → blocks n (shift c table) i ≡ map (shift c) (blocks n table i)
unfolding blocks block
blocks_shift n c table i =
    map_same (block (shift c table) i) (λ j. shift c (block table i j)) (numbers_from 0 (2 ^ (n - i))) (λ j. sym (map_take more (2 ^ i) (drop (j * 2 ^ i) table) ∙ ap (take (2 ^ i)) (map_drop more (j * 2 ^ i) table)))
    ∙ sym (map_map (block table i) (shift c) (numbers_from 0 (2 ^ (n - i))))
  where
    more : ℤ → ℤ
    more v = v +ℤ c

-- The kinds, how many there are below a variable, the nodes and the records stay.
kinds_shift : (n : ℕ) (c : ℤ) (table : List ℤ) (i : ℕ) → kinds n (shift c table) i ≡ kinds n table i
unfolding kinds
kinds_shift n c table i =
    ap (λ bs. distinct (map differences (keep (branches i) bs))) (blocks_shift n c table (suc i))
    ∙ ap (λ bs. distinct (map differences bs)) (keep_unseen (branches i) (shift c) (blocks n table (suc i)) (branches_shift i c))
    ∙ ap distinct (map_map (shift c) differences kept ∙ map_same (λ b. differences (shift c b)) differences kept (λ b. differences_more b c))
  where
    kept : List (List ℤ)
    kept = keep (branches i) (blocks n table (suc i))

below_shift : (n : ℕ) (c : ℤ) (table : List ℤ) (i : ℕ) → records_below n (shift c table) i ≡ records_below n table i
unfolding records_below
below_shift n c table zero = refl
below_shift n c table (suc i) = ap₂ (λ a ks. a + length ks) (below_shift n c table i) (kinds_shift n c table i)

node_shift : (n : ℕ) (c : ℤ) (table : List ℤ) (i : ℕ) (values : List ℤ) → node n (shift c table) i values ≡ node n table i values
unfolding node
node_shift n c table zero values = refl
node_shift n c table (suc i) values =
    yes_or_no (branches i values)
    (λ e.
    node_branching n (shift c table) i values e
    ∙ ap₂ (λ a ks. suc (a + number_in ks (differences values))) (below_shift n c table i) (kinds_shift n c table i)
    ∙ sym (node_branching n table i values e))
    (λ e. node_passing n (shift c table) i values e ∙ node_shift n c table i (lower_half i values) ∙ sym (node_passing n table i values e))

record_shift : (n : ℕ) (c : ℤ) (table : List ℤ) (i : ℕ) (values : List ℤ) → record_of n (shift c table) i values ≡ record_of n table i values
unfolding record_of
record_shift n c table i values =
    ap₂ (λ a b. made a b) (node_shift n c table i (lower_half i values)) (node_shift n c table i (upper_half i values))
  where
    made : ℕ → ℕ → Record
    made a b = record {
      variable = i;
      low = a;
      high = b;
      weight = first (upper_half i values) -ℤ first (lower_half i values);
      least = least_of (differences values);
      greatest = greatest_of (differences values);
    }

-- So all records stay.
pub records_shift : (n : ℕ) (c : ℤ) (table : List ℤ) → records n (shift c table) ≡ records n table
unfolding records records_at
records_shift n c table =
    flat_map_same (records_at n (shift c table)) (records_at n table) (numbers_from 0 n) (λ i.
    ap (map (record_of n (shift c table) i)) (kinds_shift n c table i)
    ∙ map_same (record_of n (shift c table) i) (record_of n table i) (kinds n table i) (record_shift n c table i))

-- ---- equal records, by walking

-- Of equal records, the tables are equally far from their offsets.
same_records_same_steps : (n : ℕ) (left right : List ℤ) → length left ≡ 2 ^ n → length right ≡ 2 ^ n → written n left ≡ written n right → (x : ℕ) → x < 2 ^ n → get_or left x (pos 0) -ℤ first left ≡ get_or right x (pos 0) -ℤ first right
same_records_same_steps n left right sl sr e x h =
    sym (root_path n left sl x h)
    ∙ ap (λ list. path_weight list n (record_count list) x) e
    ∙ root_path n right sr x h

-- From a - b equal to c - d, c is a more by d - b.
across : (a b c d : ℤ) → a -ℤ b ≡ c -ℤ d → c ≡ a +ℤ (d -ℤ b)
across a b c d e =
    sym (sub_add c d)
    ∙ ap (λ z. z +ℤ d) (sym e)
    ∙ +ℤ_assoc a (neg_ℤ b) d
    ∙ ap (λ z. a +ℤ z) (+ℤ_comm (neg_ℤ b) d)

-- Of equal records, one table is the other more by the difference of their offsets.
pub same_records : (n : ℕ) (left right : List ℤ) → length left ≡ 2 ^ n → length right ≡ 2 ^ n → written n left ≡ written n right → right ≡ shift (first right -ℤ first left) left
same_records n left right sl sr e =
    ext_get_or (pos 0) right (shift c left)
    (sr ∙ sym (length-map left (λ v. v +ℤ c) ∙ sl))
    (λ x h.
    across (get_or left x (pos 0)) (first left) (get_or right x (pos 0)) (first right) (same_records_same_steps n left right sl sr e x (omega arith))
    ∙ sym (get_d_map (λ v. v +ℤ c) left x (pos 0) (pos 0) (omega arith)))
  where
    c : ℤ
    c = first right -ℤ first left

-- ---- equal records exactly where a constant is the difference

pub equal_records : (n : ℕ) (f g : List ℤ) → Accepted n f → Accepted n g → (records n f ≡ records n g) ↔ ((c : ℤ) × (g ≡ map (λ v. v +ℤ c) f))
equal_records n f g a b = (
  (λ e. (first g -ℤ first f, same_records n f g a.size b.size (ap (flat_map record_numbers) e))),
  (λ d. sym (ap (records n) d.1 ∙ records_shift n d.0 f)),
)

-- So it is with what Build left in two buffers.
module _ (n : ℕ) (f g buffer buffer' : List ℤ) (s t : Summary) (built_f : build_answer n f (length buffer) ≡ accepted s) (built_g : build_answer n g (length buffer') ≡ accepted t) where
  pub equal_builds : (record_part s.nodes (build_buffer n f buffer) ≡ record_part t.nodes (build_buffer n g buffer')) ↔ ((c : ℤ) × (g ≡ map (λ v. v +ℤ c) f))
  equal_builds = (
    (λ e. (
      first g -ℤ first f,
      same_records n f g (build_admits n f (length buffer) s built_f).0.size (build_admits n g (length buffer') t built_g).0.size
          (sym (build_records n f buffer s built_f) ∙ e ∙ build_records n g buffer' t built_g),
    )),
    (λ d.
        build_records n f buffer s built_f
        ∙ sym (build_records n g buffer' t built_g ∙ ap (written n) d.1 ∙ ap (flat_map record_numbers) (records_shift n d.0 f))),
  )

  -- Then the node counts are equal.
  pub equal_counts : ((c : ℤ) × (g ≡ map (λ v. v +ℤ c) f)) → s.nodes ≡ t.nodes
  unfolding node_count
  equal_counts d =
      ap (λ u. u.nodes) (build_summary n f (length buffer) s built_f)
      ∙ ap (λ rs. suc (length rs)) (sym (ap (records n) d.1 ∙ records_shift n d.0 f))
      ∙ sym (ap (λ u. u.nodes) (build_summary n g (length buffer') t built_g))
