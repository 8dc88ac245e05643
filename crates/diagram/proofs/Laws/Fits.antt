-- The records of an accepted table pass Walk's check.
use Rattle.std.specs.Prelude.{ℕ, zero, suc, ◌+◌, ◌-◌, ◌*◌, ◌%◌, ◌^◌, ◌≤◌, ◌<◌, ◌≡◌, refl, Bool, true, ◌&&◌, ◌||◌, List, length, get_or, leb, eqb, ℤ, pos, ◌-ℤ◌}
use Rattle.std.proofs.Common.{sym, ◌∙◌, ap₂, mod-lt, mod-eq_of_lt, arith, pow_mono, lt-ltb, le-leb, eq-eqb}
use Rattle.std.proofs.Math.Path.{ap}
use Rattle.std.proofs.Math.Bool.{or-true}
use Rattle.std.proofs.Math.Pow.{pow_pos}
use Rattle.std.specs.Int.Signed.{lt_z}
use Rattle.numbers.specs.Extremes.{least_of, greatest_of}
use Rattle.numbers.specs.Lists.{numbers_from, every}
use Rattle.numbers.specs.Ranges.{is_value, is_weight, within, eq_z}
use Rattle.numbers.proofs.Laws.Bools.{and_both}
use Rattle.numbers.proofs.Laws.Bounds.{within_pos, difference_weight}
use Rattle.numbers.proofs.Laws.Extremal.{Extreme, leasts, greatests, same_members}
use Rattle.numbers.proofs.Laws.Integers.{eq_z_refl}
use Rattle.numbers.proofs.Laws.Lists.{length_range, get_d_range, every_at, every_from}
use Rattle.numbers.proofs.Laws.Powers.{power_split, part_room}
use Rattle.blocks.specs.Blocks.{block, first, lower_half, upper_half, differences}
use Rattle.blocks.proofs.Laws.Blocks.{block_at}
use Rattle.blocks.proofs.Laws.Differences.{length_differences}
use Rattle.diagram.specs.Records.{records_below, node, records, record_size}
use Rattle.diagram.specs.Build.{node_room}
use Rattle.diagram.specs.Walk.{variable_at, least_at, greatest_at, child_fits, node_values, range_fits, record_fits, record_count, list_fits}
use Rattle.diagram.specs.Accepted.{written}
use Rattle.diagram.proofs.Laws.Checks.{EdgeParts, fits_by_parts, range_left}
use Rattle.diagram.proofs.Laws.Alike.{lower_of_block, upper_of_block, whole_length, twice_blocks}
use Rattle.diagram.proofs.Laws.NodeRanges.{values_length, value_at}
use Rattle.diagram.proofs.Laws.Nodes.{node_below, node_branching}
use Rattle.diagram.proofs.Laws.Numbering.{records_room, written_length, written_whole, written_count, numbered, kind_variable, StandsFor}
use Rattle.diagram.proofs.Laws.RecordBlocks.{RecordBlock, block_of, record_block, height_within, lower_like, upper_like}
use Rattle.diagram.proofs.Laws.Reduced.{record_differences}

-- Build's buffer rule has room for the records.
pub written_room : (n : ℕ) (table : List ℤ) → length (written n table) ≤ node_room n
unfolding node_room record_size
written_room n table = let r = records_room n table in let e = written_length n table in omega arith

-- A list of a whole number of records, not too many, passes where each record does.
pub fits_by_records : (n : ℕ) (list : List ℤ) → length list % record_size ≡ 0 → length list ≤ node_room n → ((k : ℕ) → 1 ≤ k → k ≤ record_count list → record_fits n list k ≡ true) → list_fits n list ≡ true
unfolding list_fits
fits_by_records n list whole room each =
    and_both (eqb (length list % record_size) 0 && leb (length list) (node_room n)) (every (record_fits n list) (numbers_from 1 (record_count list)))
    (and_both (eqb (length list % record_size) 0) (leb (length list) (node_room n)) (eq-eqb (length list % record_size) 0 whole) (le-leb (length list) (node_room n) room))
    (every_from (record_fits n list) (numbers_from 1 (record_count list)) 0 (λ j p.
    let q : j < record_count list = rw length_range at p in
    ap (record_fits n list) (get_d_range 1 (record_count list) j 0 q) ∙ each (1 + j) (omega arith) (omega arith)))

-- A node of a block of height i is a child that fits a record of variable i.
child_fits_lem : (n : ℕ) (table : List ℤ) (m i child : ℕ) → i < n → child ≤ records_below n table i → records_below n table i < m → variable_at (written n table) m ≡ pos i → child_fits (written n table) m (pos child) ≡ true
unfolding child_fits eq_z
child_fits_lem n table m i zero h l k v = and_both (within (pos 0) (pos (m - 1)) (pos 0)) true (within_pos (m - 1) 0 (omega arith)) refl
child_fits_lem n table m i (suc child) h l k v =
    let r = numbered n table i (suc child) (omega arith) l in
    and_both (within (pos 0) (pos (m - 1)) (pos (suc child))) (eqb (suc child) 0 || lt_z (variable_at (written n table) (suc child)) (variable_at (written n table) m))
    (within_pos (m - 1) (suc child) (omega arith))
    (ap (λ b. eqb (suc child) 0 || b)
    (ap₂ (λ a b. lt_z a b) (ap (variable_at (written n table)) r.number ∙ kind_variable n table r.height r.kind (let p = r.lower in omega arith) r.known) v
    ∙ lt-ltb r.height i r.lower)
    ∙ or-true (eqb (suc child) 0))

module _ (n : ℕ) (table : List ℤ) (size : length table ≡ 2 ^ n) (values : every is_value table ≡ true) where
  -- A block begins with a value of the table.
  first_value : (i j : ℕ) → i ≤ n → j < 2 ^ (n - i) → is_value (first (block table i j)) ≡ true
  unfolding first
  first_value i j h l =
      ap is_value (block_at table i j 0 (pow_pos i))
      ∙ every_at is_value table (pos 0) values (j * 2 ^ i + 0) (let r = part_room (2 ^ (n - i)) i j l in omega (arith, power_split n i h, pow_pos i))

  -- The weight of a block is a weight.
  pub block_weight : (i j : ℕ) → suc i ≤ n → j < 2 ^ (n - suc i) → is_weight (first (upper_half i (block table (suc i) j)) -ℤ first (lower_half i (block table (suc i) j))) ≡ true
  block_weight i j h l =
      ap₂ (λ a b. is_weight (first a -ℤ first b)) (upper_of_block n table size i j h l) (lower_of_block table i j)
      ∙ difference_weight (first (block table i (j * 2 + 1))) (first (block table i (j * 2)))
      (first_value i (j * 2 + 1) (omega arith) (omega (arith, twice_blocks n i h)))
      (first_value i (j * 2) (omega arith) (omega (arith, twice_blocks n i h)))

  -- A record's function has the members of its block's differences, and so their extremes.
  record_extreme : {le : ℤ → ℤ → Bool} {pick : ℤ → ℤ → ℤ} {of : List ℤ → ℤ} → Extreme le pick of → (m : ℕ) (r : RecordBlock n table m) → of (differences (block_of r)) ≡ of (node_values n (written n table) m)
  record_extreme e m r =
      same_members e (differences (block_of r)) (node_values n (written n table) m) (rw whole (pow_pos (suc r.height)))
      (λ j l.
      let below : j < 2 ^ suc r.height = rw whole at l in
      let inside : j < 2 ^ n = (let p = pow_mono r.lower in omega arith) in
      (j, (rw values_length inside, sym (at_place j inside ∙ ap (λ p. get_or (differences (block_of r)) p (pos 0)) (mod-eq_of_lt below)))))
      (λ x l.
      let inside : x < 2 ^ n = rw values_length at l in
      (x % 2 ^ suc r.height, (rw whole (mod-lt x (pow_pos (suc r.height))), at_place x inside)))
    where
      whole : length (differences (block_of r)) ≡ 2 ^ suc r.height
      whole = length_differences (block_of r) ∙ whole_length n table size (suc r.height) r.place r.lower r.inside

      at_place : (x : ℕ) → x < 2 ^ n → get_or (node_values n (written n table) m) x (pos 0) ≡ get_or (differences (block_of r)) (x % 2 ^ suc r.height) (pos 0)
      at_place x h = value_at n (written n table) m x h ∙ record_differences n table size m x r

  -- So its two numbers are true.
  range_fits_lem : (m : ℕ) → RecordBlock n table m → range_fits n (written n table) m ≡ true
  unfolding range_fits
  range_fits_lem m r =
      let s = r.stands in
      and_both (eq_z (least_at (written n table) m) (least_of (node_values n (written n table) m))) (eq_z (greatest_at (written n table) m) (greatest_of (node_values n (written n table) m)))
      (ap (λ z. eq_z z (least_of (node_values n (written n table) m))) (s.least ∙ record_extreme leasts m r) ∙ eq_z_refl (least_of (node_values n (written n table) m)))
      (ap (λ z. eq_z z (greatest_of (node_values n (written n table) m))) (s.greatest ∙ record_extreme greatests m r) ∙ eq_z_refl (greatest_of (node_values n (written n table) m)))

  -- Each record fits.
  pub record_fits_lem : (m : ℕ) → 0 < m → m ≤ length (records n table) → record_fits n (written n table) m ≡ true
  record_fits_lem m h l =
      range_left n list m (fits_by_parts n list m edges) ∙ range_fits_lem m r
    where
      list : List ℤ
      list = written n table

      r : RecordBlock n table m
      r = record_block n table size m h l

      i : ℕ
      i = r.height

      whole : List ℤ
      whole = block_of r

      s : StandsFor n table m i whole
      s = r.stands

      later : records_below n table i < m
      later = let a = r.number in let b = node_branching n table i whole r.branched in omega arith

      edges : EdgeParts n list m
      edges = record {
        variable = ap (within (pos 0) (pos (n - 1))) s.variable ∙ within_pos (n - 1) i (let p = r.lower in omega arith);
        low = ap (child_fits list m) s.low ∙ child_fits_lem n table m i (node n table i (lower_half i whole)) r.lower (node_below n table size i (lower_half i whole) (height_within n table size r) (lower_like n table size r)) later s.variable;
        high = ap (child_fits list m) s.high ∙ child_fits_lem n table m i (node n table i (upper_half i whole)) r.lower (node_below n table size i (upper_half i whole) (height_within n table size r) (upper_like n table size r)) later s.variable;
        weight = ap is_weight s.weight ∙ block_weight i r.place r.lower r.inside;
      }

  -- And so the list does.
  pub list_fits_lem : list_fits n (written n table) ≡ true
  list_fits_lem =
      fits_by_records n (written n table) (written_whole n table) (written_room n table) (λ k one l. record_fits_lem k one (let c = written_count n table in omega arith))
