-- The fork of a class, read at its first block: the places that are read, the nodes of the halves, and when they differ.
use Rattle.std.specs.Prelude.{ℕ, suc, ◌+◌, ◌-◌, ◌*◌, ◌^◌, ◌≤◌, ◌<◌, ◌≡◌, true, List, [], length, ℤ, pos, ◌-ℤ◌}
use Rattle.std.proofs.Common.{sym, ◌∙◌, ap₂, mul-le-mul_right, mul-le-mul_left, mul-one, add-zero, add-one, arith, pow_pos, pow_mono, SFits, of_z, to_z, to_z-of_z}
use Rattle.std.proofs.Math.Path.{ap}
use Rattle.std.proofs.Math.Nat.{two-pow-succ}
use Rattle.std.proofs.Math.ListN.{get_or}
use Rattle.std.specs.Int.{w32}
use Rattle.numbers.specs.Lists.{every}
use Rattle.numbers.specs.Ranges.{is_value}
use Rattle.numbers.proofs.Laws.Bounds.{weight_mag, difference_weight}
use Rattle.numbers.proofs.Laws.Lists.{every_at}
use Rattle.numbers.proofs.Laws.Powers.{part_room, power_split}
use Rattle.blocks.specs.Blocks.{block, first, lower_half, upper_half}
use Rattle.blocks.specs.Classes.{classes, class_count, class_of}
use Rattle.blocks.specs.Rows.{cut_place}
use Rattle.blocks.specs.Inner.Layout.{AllClassed, class_at}
use Rattle.blocks.proofs.Laws.Blocks.{block_at}
use Rattle.blocks.proofs.Laws.Classes.{class_below, class_stands, class_count_le}
use Rattle.diagram.specs.Accepted.{Accepted}
use Rattle.diagram.specs.Records.{branches, node, record_of}
use Rattle.diagram.specs.Inner.Building.{fork_of, range_of, ClassOfCut, Forking}
use Rattle.diagram.specs.declared.Fork.{Fork}
use Rattle.diagram.specs.declared.Range.{Range}
use Rattle.diagram.proofs.Laws.Alike.{BlockLike, lower_of_block, upper_of_block, whole_length, like_lower, like_upper}
use Rattle.diagram.proofs.Laws.Checks.{variables_range}
use Rattle.diagram.proofs.Laws.FirstBlocks.{cut_small, first_of, first_below, first_stands, first_alike}
use Rattle.diagram.proofs.Laws.Nodes.{node_differences, same_node, node_below}
use Rattle.diagram.proofs.Laws.Numbering.{weight_of_differences, records_count, records_room, below_more}
use Rattle.blocks.proofs.Laws.Places.{place_inside, length_numbers, class_at_lem}
use Rattle.diagram.proofs.Laws.Shifts.{same_lower, same_upper}

-- ---- the weight of a block

-- A block that begins within the table has its number within it.
pub doubled_inside : (size i j : ℕ) → (j * 2 + 1) * 2 ^ i < size → j * 2 + 1 < size
doubled_inside size i j h = let m = mul-le-mul_left (j * 2 + 1) (pow_pos i) in let e = mul-one (j * 2 + 1) in omega arith

pub lower_inside : (size i j : ℕ) → (j * 2 + 1) * 2 ^ i < size → j * 2 * 2 ^ i < size
lower_inside size i j h = let m : j * 2 * 2 ^ i ≤ (j * 2 + 1) * 2 ^ i = mul-le-mul_right (2 ^ i) (omega arith) in omega arith

-- The first value of a block is a value.
first_is_value : (table : List ℤ) (i j : ℕ) → every is_value table ≡ true → j * 2 ^ i < length table → is_value (first (block table i j)) ≡ true
unfolding first
first_is_value table i j values h =
    ap is_value (block_at table i j 0 (pow_pos i) ∙ ap (λ x. get_or table x (pos 0)) (add-zero (j * 2 ^ i)))
    ∙ every_at is_value table (pos 0) values (j * 2 ^ i) h

pub weight_fits : (table : List ℤ) (i j : ℕ) → every is_value table ≡ true → (j * 2 + 1) * 2 ^ i < length table → SFits w32 (first (block table i (j * 2 + 1)) -ℤ first (block table i (j * 2)))
weight_fits table i j values h =
    let m = weight_mag (first (block table i (j * 2 + 1)) -ℤ first (block table i (j * 2))) (difference_weight (first (block table i (j * 2 + 1))) (first (block table i (j * 2))) (first_is_value table i (j * 2 + 1) values h) (first_is_value table i (j * 2) values (lower_inside (length table) i j h))) in
    record { sfits = omega arith }

-- ---- the fork of a class

-- A fork and a range give the block's record.
pub fork_record : (n : ℕ) (table : List ℤ) (i : ℕ) (values : List ℤ) (f : Fork) (r : Range) → f ≡ fork_of n table i values → r ≡ range_of values → SFits w32 f.weight → SFits w32 r.least → SFits w32 r.greatest
    → record { variable = i; low = f.low; high = f.high; weight = to_z w32 (of_z w32 f.weight); least = to_z w32 (of_z w32 r.least); greatest = to_z w32 (of_z w32 r.greatest) } ≡ record_of n table i values
unfolding fork_of range_of record_of
fork_record n table i values f r e d w l g =
    rw (to_z-of_z w, to_z-of_z l, to_z-of_z g)
    (ap₂ (λ a b. record { variable = i; low = a.low; high = a.high; weight = a.weight; least = b.least; greatest = b.greatest }) e d)

module _ {n h c : ℕ} {table : List ℤ} {class_row first_row count_row row : List ℕ} (admitted : Accepted n table) (classed : AllClassed n table class_row first_row count_row) (f : Forking n h c table row) where
  open f use {cut, known, below}
  open classed use {numbered, placed}

  -- The class, whose first block is in its row.
  pub class : ClassOfCut n h c table first_row
  class = record { admitted = admitted; cut = cut; known = known; placed = placed }

  abbrev half : ℕ
  half = n - suc h

  within_n : h ≤ n
  within_n = let l = cut in omega arith

  pub cut_fits : (h < 64) × (h + 1 < 64)
  cut_fits = let s = cut_small class in (omega arith, omega arith)

  -- The class's first block.
  abbrev first_number : ℕ
  first_number = first_of class

  pub first_small : first_number * 2 + 1 < 2 ^ 64
  first_small = let p = first_below class in let s = cut_small class in let m = pow_mono {i = h} {j = 12} (omega arith) in omega arith

  -- Block b of the next cut: its class, and the node that the row has for it.
  module _ (b : ℕ) (inside : b < 2 ^ suc h) where
    is_class : get_or class_row (cut_place (h + 1) + b) 0 ≡ class_of n table (suc h) (block table half b)
    is_class = rw (numbered, add-one h) (class_at_lem n table (suc h) cut b inside)

    class_place : cut_place (h + 1) + b < length class_row
    class_place = rw (numbered, length_numbers n table, add-one h) (place_inside n (suc h) b cut inside)

    class_known : get_or class_row (cut_place (h + 1) + b) 0 < class_count n table (suc h)
    class_known = rw is_class (class_below n table (suc h) cut b inside)

    node_place : cut_place (h + 1) + get_or class_row (cut_place (h + 1) + b) 0 < length row
    node_place =
        rw (add-one h)
        (let k : get_or class_row (cut_place (suc h) + b) 0 < class_count n table (suc h) = rw add-one at class_known in
        let m = class_count_le n table (suc h) cut in
        let p = place_inside n (suc h) (get_or class_row (cut_place (suc h) + b) 0) cut (omega arith) in
        let r = below.places in
        omega arith)

    is_node : get_or row (cut_place (h + 1) + get_or class_row (cut_place (h + 1) + b) 0) 0 ≡ node n table half (block table half b)
    unfolding class_at
    is_node =
        ap (λ k. get_or row (cut_place k + get_or class_row (cut_place (h + 1) + b) 0) 0) (add-one h)
        ∙ below.known (get_or class_row (cut_place (h + 1) + b) 0) class_known
        ∙ ap (λ k. node n table half (get_or (classes n table (suc h)) k [])) is_class
        ∙ ap (node n table half) (class_stands n table (suc h) cut b inside)
        ∙ node_differences n table half (block table half b)

  low_inside : first_number * 2 < 2 ^ suc h
  low_inside = let p = first_below class in omega (arith, two-pow-succ h)

  high_inside : first_number * 2 + 1 < 2 ^ suc h
  high_inside = let p = first_below class in omega (arith, two-pow-succ h)

  -- The places that are read.
  pub low_class_place : cut_place (h + 1) + first_number * 2 < length class_row
  low_class_place = class_place (first_number * 2) low_inside

  pub high_class_place : cut_place (h + 1) + (first_number * 2 + 1) < length class_row
  high_class_place = class_place (first_number * 2 + 1) high_inside

  abbrev pub low_class : ℕ
  low_class = get_or class_row (cut_place (h + 1) + first_number * 2) 0

  abbrev pub high_class : ℕ
  high_class = get_or class_row (cut_place (h + 1) + (first_number * 2 + 1)) 0

  pub low_node_place : cut_place (h + 1) + low_class < length row
  low_node_place = node_place (first_number * 2) low_inside

  pub high_node_place : cut_place (h + 1) + high_class < length row
  high_node_place = node_place (first_number * 2 + 1) high_inside

  pub half_fits : n - (h + 1) < 64
  half_fits = let v = (variables_range n admitted.variables).1 in omega arith

  pub weight_place : (first_number * 2 + 1) * 2 ^ half < length table
  weight_place =
      let r = part_room (2 ^ (n - half)) half (first_number * 2 + 1) (rw (let e : n - half ≡ suc h = (let l = cut in omega arith) in e) high_inside) in
      let p = pow_pos half in
      let s = admitted.size in
      omega (arith, power_split n half (omega arith))

  -- The first block's halves are those of the class.
  abbrev whole_block : List ℤ
  whole_block = block table (suc half) first_number

  abbrev lower_block : List ℤ
  lower_block = block table half (first_number * 2)

  abbrev upper_block : List ℤ
  upper_block = block table half (first_number * 2 + 1)

  place_of_height : first_number < 2 ^ (n - suc half)
  place_of_height = rw (let e : n - suc half ≡ h = (let l = cut in omega arith) in e) (first_below class)

  height_inside : suc half ≤ n
  height_inside = let l = cut in omega arith

  is_lower : lower_half half whole_block ≡ lower_block
  is_lower = lower_of_block table half first_number

  is_upper : upper_half half whole_block ≡ upper_block
  is_upper = upper_of_block n table admitted.size half first_number height_inside place_of_height

  low_is : get_or row (cut_place (h + 1) + low_class) 0 ≡ node n table half (lower_half half (class_at n table h c))
  low_is = is_node (first_number * 2) low_inside ∙ ap (node n table half) (sym is_lower) ∙ same_node n table half (lower_half half whole_block) (lower_half half (class_at n table h c)) (same_lower half whole_block (class_at n table h c) (first_alike class))

  high_is : get_or row (cut_place (h + 1) + high_class) 0 ≡ node n table half (upper_half half (class_at n table h c))
  high_is = is_node (first_number * 2 + 1) high_inside ∙ ap (node n table half) (sym is_upper) ∙ same_node n table half (upper_half half whole_block) (upper_half half (class_at n table h c)) (same_upper half whole_block (class_at n table h c) (first_alike class))

  weight_is : first upper_block -ℤ first lower_block ≡ first (upper_half half (class_at n table h c)) -ℤ first (lower_half half (class_at n table h c))
  weight_is =
      ap₂ (λ u l. first u -ℤ first l) (sym is_upper) (sym is_lower)
      ∙ sym (weight_of_differences half whole_block (rw (whole_length n table admitted.size (suc half) first_number height_inside place_of_height) (omega (arith, two-pow-succ half, pow_pos half))))
      ∙ ap (λ d. first (upper_half half d) -ℤ first (lower_half half d)) (first_stands class)

  -- What is read is the fork of the class.
  abbrev pub fork_read : Fork
  fork_read = record { low = get_or row (cut_place (h + 1) + low_class) 0; high = get_or row (cut_place (h + 1) + high_class) 0; weight = first upper_block -ℤ first lower_block; branching = branches half (class_at n table h c) }

  pub fork_is : fork_read ≡ fork_of n table half (class_at n table h c)
  unfolding fork_of
  fork_is t = record { low = low_is t; high = high_is t; weight = weight_is t; branching = branches half (class_at n table h c) }

  -- ---- what is written of it

  -- The class's place in the row of nodes.
  pub class_row_place : cut_place h + c < length row
  class_row_place =
      let m = class_count_le n table h within_n in
      let l = known in
      let p = place_inside n h c within_n (omega arith) in
      let r = below.places in
      omega arith

  class_like : BlockLike n table (suc half) (class_at n table h c)
  class_like = record { place = first_number; inside = place_of_height; alike = sym (first_alike class) }

  node_small : (values : List ℤ) → BlockLike n table half values → node n table half values < 4096
  node_small values b =
      let l = node_below n table admitted.size half values (omega arith) b in
      let m = below_more n table half n (omega arith) in
      let r = records_room n table in
      let e = records_count n table in
      let p = pow_mono {i = n} {j = 12} (variables_range n admitted.variables).1 in
      omega arith

  -- Its numbers fit.
  pub fork_small : (half < 4096) × ((node n table half (lower_half half (class_at n table h c)) < 4096) × (node n table half (upper_half half (class_at n table h c)) < 4096))
  fork_small = (
    let v = (variables_range n admitted.variables).1 in omega arith,
    (
      node_small (lower_half half (class_at n table h c)) (like_lower n table admitted.size half (class_at n table h c) height_inside class_like),
      node_small (upper_half half (class_at n table h c)) (like_upper n table admitted.size half (class_at n table h c) height_inside class_like),
    ),
  )

  pub fork_weight_fits : SFits w32 (first (upper_half half (class_at n table h c)) -ℤ first (lower_half half (class_at n table h c)))
  fork_weight_fits = rw (← weight_is) (weight_fits table half first_number admitted.values weight_place)
