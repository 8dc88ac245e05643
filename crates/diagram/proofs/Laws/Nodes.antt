-- Nodes: they see differences only, a branching block's kind is known, and the table's node is the last record.
use Prim.Native.Nat.{ℕ, zero, suc, ◌+◌, ◌-◌, ◌*◌, ◌/◌, ◌%◌, ◌^◌, ◌≤◌, ◌<◌}
use Rattle.std.specs.Prelude.{◌≡◌, true, false, get_or, ℤ}
use Rattle.std.proofs.Math.Path.{refl, sym, ap}
use Rattle.std.proofs.Common.{◌∙◌}
use mathlib.Core.List.{List, [], map}
use native.Mathlib.Omega.{arith}
use Rattle.std.proofs.Math.Decide.{ℕ_discrete}
use Rattle.std.proofs.Math.ListN.{length}
use Rattle.std.proofs.lemmas.List.{length-map}
use Rattle.numbers.specs.Lists.{keep}
use Rattle.numbers.proofs.Laws.Bools.{yes_or_no}
use Rattle.numbers.proofs.Laws.Lists.{get_d_map}
use Rattle.numbers.proofs.Laws.Selections.{keep_length, kept_passes, kept_from, passed_kept, keep_none}
use Rattle.blocks.specs.Blocks.{block, blocks, lower_half, upper_half, differences}
use Rattle.blocks.specs.Classes.{number_in, distinct, learn_all}
use Rattle.blocks.proofs.Laws.Blocks.{blocks_count}
use Rattle.blocks.proofs.Laws.Differences.{differences_again}
use Rattle.blocks.proofs.Laws.Known.{Among, distinct_known, distinct_seen, distinct_length, distinct_one}
use Rattle.diagram.specs.Records.{branches, kinds, records_below, node}
use Rattle.diagram.proofs.Laws.Alike.{BlockLike, blocks_at, lower_of_block, upper_of_block, like_lower, table_like, table_block, twice_blocks}
use Rattle.diagram.proofs.Laws.Branching.{unbranched_halves}
use Rattle.diagram.proofs.Laws.Shifts.{branches_differences, same_branches, lower_differences, same_lower}

module _ (n : ℕ) (table : List ℤ) where
  -- ---- a node by its block's halves

  -- A branching block has a record.
  pub node_branching : (i : ℕ) (values : List ℤ) → branches i values ≡ true → node n table (suc i) values ≡ suc (records_below n table i + number_in (kinds n table i) (differences values))
  unfolding node
  node_branching i values e = rw (e, node)

  -- Any other is the node of its lower half.
  pub node_passing : (i : ℕ) (values : List ℤ) → branches i values ≡ false → node n table (suc i) values ≡ node n table i (lower_half i values)
  unfolding node
  node_passing i values e = rw (e, node)

  -- A node sees differences only.
  pub node_differences : (i : ℕ) (values : List ℤ) → node n table i (differences values) ≡ node n table i values
  unfolding node
  node_differences zero values = refl
  node_differences (suc i) values =
      yes_or_no (branches i values)
      (λ e.
      node_branching i (differences values) (branches_differences i values ∙ e)
      ∙ ap (λ d. suc (records_below n table i + number_in (kinds n table i) d)) (differences_again values)
      ∙ sym (node_branching i values e))
      (λ e.
      node_passing i (differences values) (branches_differences i values ∙ e)
      ∙ sym (node_differences i (lower_half i (differences values)))
      ∙ ap (node n table i) (lower_differences i values)
      ∙ node_differences i (lower_half i values)
      ∙ sym (node_passing i values e))

  -- Blocks of equal differences share their node.
  pub same_node : (i : ℕ) (left right : List ℤ) → differences left ≡ differences right → node n table i left ≡ node n table i right
  same_node i left right e = sym (node_differences i left) ∙ ap (node n table i) e ∙ node_differences i right

-- ---- the kinds of a height

-- The differences of the branching blocks whose halves have height i, left to right.
abbrev branching : ℕ → List ℤ → ℕ → List (List ℤ)
branching n table i = map differences (keep (branches i) (blocks n table (suc i)))

-- A branching block whose differences are those of kind k.
pub record KindBlock (n : ℕ) (table : List ℤ) (i k : ℕ) : Type 0 where
  pub place : ℕ
  pub inside : place < 2 ^ (n - suc i)
  pub branched : branches i (block table (suc i) place) ≡ true
  pub stands : get_or (kinds n table i) k [] ≡ differences (block table (suc i) place)

-- What the differences of a branching block come from.
branching_from : (n : ℕ) (table : List ℤ) (i k : ℕ) → k < length (branching n table i) → (j : ℕ) × ((j < 2 ^ (n - suc i)) × (branches i (block table (suc i) j) ≡ true) × (get_or (branching n table i) k [] ≡ differences (block table (suc i) j)))
branching_from n table i k h =
    let r = kept_from (branches i) (blocks n table (suc i)) [] k kept in
    let l : r.0 < 2 ^ (n - suc i) = (let p = r.1.0 in omega (arith, blocks_count n table (suc i))) in
    let e : block table (suc i) r.0 ≡ get_or (keep (branches i) (blocks n table (suc i))) k [] = sym (blocks_at n table (suc i) r.0 l) ∙ r.1.1 in (
      r.0,
      (
        l,
        ap (branches i) e ∙ kept_passes (branches i) (blocks n table (suc i)) [] k kept,
        get_d_map differences (keep (branches i) (blocks n table (suc i))) k [] [] kept ∙ ap differences (sym e),
      ),
    )
  where
    kept : k < length (keep (branches i) (blocks n table (suc i)))
    kept = rw (length-map (keep (branches i) (blocks n table (suc i))) differences) at h

-- Each kind is that of some branching block.
pub kind_block : (n : ℕ) (table : List ℤ) (i k : ℕ) → k < length (kinds n table i) → KindBlock n table i k
unfolding kinds Among
kind_block n table i k h =
    let s = distinct_seen (branching n table i) k h in
    let r = branching_from n table i s.0 s.1.0 in
    record { place = r.0; inside = r.1.0; branched = r.1.1; stands = sym s.1.1 ∙ r.1.2 }

-- No more kinds than blocks.
pub kinds_le : (n : ℕ) (table : List ℤ) (i : ℕ) → length (kinds n table i) ≤ 2 ^ (n - suc i)
unfolding kinds
kinds_le n table i =
    let d = distinct_length (branching n table i) in
    let k = keep_length (branches i) (blocks n table (suc i)) in
    omega (arith, length-map (keep (branches i) (blocks n table (suc i))) differences, blocks_count n table (suc i))

-- A branching block's kind is known.
pub kind_known : (n : ℕ) (table : List ℤ) (i : ℕ) (values : List ℤ) → BlockLike n table (suc i) values → branches i values ≡ true → number_in (kinds n table i) (differences values) < length (kinds n table i)
unfolding kinds
kind_known n table i values b e =
    rw (← same) (distinct_known (branching n table i) r.0 (rw (length-map (keep (branches i) (blocks n table (suc i))) differences) r.1.0))
  where
    at_place : get_or (blocks n table (suc i)) b.place [] ≡ block table (suc i) b.place
    at_place = blocks_at n table (suc i) b.place b.inside

    r : (k : ℕ) × ((k < length (keep (branches i) (blocks n table (suc i)))) × (get_or (keep (branches i) (blocks n table (suc i))) k [] ≡ get_or (blocks n table (suc i)) b.place []))
    r =
        passed_kept (branches i) (blocks n table (suc i)) [] b.place
        (let l = b.inside in omega (arith, blocks_count n table (suc i)))
        (ap (branches i) at_place ∙ same_branches i (block table (suc i) b.place) values (sym b.alike) ∙ e)

    same : get_or (branching n table i) r.0 [] ≡ differences values
    same =
        get_d_map differences (keep (branches i) (blocks n table (suc i))) r.0 [] [] r.1.0
        ∙ ap differences (r.1.1 ∙ at_place)
        ∙ sym b.alike

-- ---- how high nodes go

module _ (n : ℕ) (table : List ℤ) (size : length table ≡ 2 ^ n) where
  -- The node of a block of height i is no later than the records of variables below i.
  pub node_below : (i : ℕ) (values : List ℤ) → i ≤ n → BlockLike n table i values → node n table i values ≤ records_below n table i
  unfolding node records_below
  node_below zero values h b = omega arith
  node_below (suc i) values h b =
      let lower = node_below i (lower_half i values) (omega arith) (like_lower n table size i values h b) in
      yes_or_no (branches i values)
      (λ e. rw (node_branching n table i values e) (let k = kind_known n table i values b e in omega arith))
      (λ e. rw (node_passing n table i values e) (omega arith))

  -- Where all blocks of a height have equal differences, those that branch are of one kind.
  one_kind : (i : ℕ) (values : List ℤ) → BlockLike n table (suc i) values → ((j : ℕ) → j < 2 ^ (n - suc i) → differences (block table (suc i) j) ≡ differences values) → branches i values ≡ true → length (kinds n table i) ≡ 1
  unfolding kinds
  one_kind i values b all e =
      distinct_one (differences values) (branching n table i)
      (λ k l. let r = branching_from n table i k l in r.1.2 ∙ all r.0 r.1.0)
      (let k : number_in (distinct (branching n table i)) (differences values) < length (distinct (branching n table i)) = kind_known n table i values b e in let d = distinct_length (branching n table i) in omega arith)

  -- And where none branches, there is no kind.
  no_kind : (i : ℕ) (values : List ℤ) → ((j : ℕ) → j < 2 ^ (n - suc i) → differences (block table (suc i) j) ≡ differences values) → branches i values ≡ false → length (kinds n table i) ≡ 0
  unfolding kinds distinct learn_all
  no_kind i values all e =
      ap (λ l. length (distinct (map differences l)))
      (keep_none (branches i) (blocks n table (suc i)) [] (λ j l.
      let p : j < 2 ^ (n - suc i) = omega (arith, blocks_count n table (suc i)) in
      ap (branches i) (blocks_at n table (suc i) j p) ∙ same_branches i (block table (suc i) j) values (all j p) ∙ e))

  -- Then all their halves have equal differences too.
  all_halves : (i : ℕ) (values : List ℤ) → suc i ≤ n → ((j : ℕ) → j < 2 ^ (n - suc i) → differences (block table (suc i) j) ≡ differences values) → branches i values ≡ false → (j : ℕ) → j < 2 ^ (n - i) → differences (block table i j) ≡ differences (lower_half i values)
  all_halves i values h all e j l = even_or_odd (ℕ_discrete (j % 2) 0)
    where
      within_height : j / 2 < 2 ^ (n - suc i)
      within_height = omega (arith, twice_blocks n i h)

      whole : List ℤ
      whole = block table (suc i) (j / 2)

      lower : differences (lower_half i whole) ≡ differences (lower_half i values)
      lower = same_lower i whole values (all (j / 2) within_height)

      halves : lower_half i whole ≡ upper_half i whole
      halves = unbranched_halves i whole (same_branches i whole values (all (j / 2) within_height) ∙ e)

      even_or_odd : Dec (j % 2 ≡ 0) → differences (block table i j) ≡ differences (lower_half i values)
      even_or_odd (yes p) =
          ap differences (ap (block table i) (let q : j ≡ j / 2 * 2 = omega arith in q) ∙ sym (lower_of_block table i (j / 2))) ∙ lower
      even_or_odd (no p) =
          ap differences (ap (block table i) (let q : j ≡ j / 2 * 2 + 1 = omega arith in q) ∙ sym (upper_of_block n table size i (j / 2) h within_height) ∙ sym halves) ∙ lower

  -- Where all blocks of a height have equal differences, their node is the last so far.
  last_so_far : (i : ℕ) (values : List ℤ) → i ≤ n → BlockLike n table i values → ((j : ℕ) → j < 2 ^ (n - i) → differences (block table i j) ≡ differences values) → node n table i values ≡ records_below n table i
  unfolding node records_below
  last_so_far zero values h b all = refl
  last_so_far (suc i) values h b all =
      yes_or_no (branches i values)
      (λ e.
      node_branching n table i values e
      ∙ (let k = kind_known n table i values b e in let o = one_kind i values b all e in let q : suc (records_below n table i + number_in (kinds n table i) (differences values)) ≡ records_below n table i + length (kinds n table i) = omega arith in q))
      (λ e.
      node_passing n table i values e
      ∙ last_so_far i (lower_half i values) (omega arith) (like_lower n table size i values h b) (all_halves i values h all e)
      ∙ (let o = no_kind i values all e in let q : records_below n table i ≡ records_below n table i + length (kinds n table i) = omega arith in q))

  -- The root is the last record, or node 0 where there is none.
  pub root_last : node n table n table ≡ records_below n table n
  root_last =
      last_so_far n table (omega arith) (table_like n table size)
      (λ j l. ap differences (ap (block table n) (let e : j ≡ 0 = omega (arith, one_block) in e) ∙ table_block n table size))
    where
      one_block : 2 ^ (n - n) ≡ 1
      one_block = ap (λ k. 2 ^ k) (let e : n - n ≡ 0 = omega arith in e)
