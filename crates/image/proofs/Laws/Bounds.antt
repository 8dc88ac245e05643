-- The bounds that every place keeps: the first place has them, and a command that keeps its rules hands them on.
use Rattle.std.specs.Prelude.{ℕ, ◌+◌, ◌*◌, ◌^◌, ◌≤◌, ◌<◌, ◌≡◌, true, leb}
use Rattle.std.proofs.Common.{le_trans, mul-le-mul_right, arith, pow_mono, pow-add, leb-true}
use Rattle.std.proofs.Math.Nat.{mul-le-mul}
use Rattle.numbers.specs.Ranges.{is_variables, is_value, most_variables, widest_address}
use Rattle.numbers.specs.Widths.{rail_width, cell_bits}
use Rattle.numbers.proofs.Laws.Bools.{both}
use Rattle.numbers.proofs.Laws.Widths.{rail_width_tells, rail_width_least}
use Rattle.image.specs.Inner.Bounds.{most_bits, WithinBounds, CellFits}
use Rattle.image.specs.Inner.Kinds.{width_of}
use Rattle.image.specs.Reader.{keeps_rules, most_classes, place_after, start}
use Rattle.image.proofs.Laws.Rules.{shape_facts}
use Rattle.image.specs.declared.Command.{Command}
use Rattle.image.specs.declared.Command.TheVariants.{Table, Cell, Word, End}
use Rattle.image.specs.declared.Place.{Place}

pub rail_narrow : (count : ℕ) → count ≤ most_classes → rail_width count ≤ 12
unfolding most_classes
rail_narrow count h = rail_width_least count 12 h

pub variables_most : (n : ℕ) → is_variables n ≡ true → (1 ≤ n) × (n ≤ most_variables)
unfolding is_variables
variables_most n h = let parts = both (leb 1 n) (leb n most_variables) h in (leb-true 1 n parts.0, leb-true n most_variables parts.1)

-- ---- a cell

module _ (incoming group outgoing width : ℕ) (h : CellFits incoming group outgoing width) where
  pub cell_bits_most : cell_bits incoming group outgoing width ≤ most_bits
  unfolding cell_bits most_bits widest_address
  cell_bits_most =
      mul-le-mul {n₁ = 2 ^ (rail_width incoming + group)} {m₁ = rail_width outgoing + width} {n₂ = 2 ^ 12} {m₂ = 267} (pow_mono h.address) (let r = rail_narrow outgoing h.leaving in let n = h.narrow in omega arith)

-- A cell has no more words than its addresses.
pub words_most : (incoming group : ℕ) → rail_width incoming + group ≤ widest_address → incoming * 2 ^ group ≤ 4096
unfolding widest_address
words_most incoming group h =
    le_trans (mul-le-mul_right (2 ^ group) (rail_width_tells incoming))
    (rw (← pow-add 2 (rail_width incoming) group) (pow_mono {i = rail_width incoming + group} {j = 12} h))

pub cell_fits_lem : (p : Place) (group incoming outgoing width : ℕ) → WithinBounds p → keeps_rules p (Cell group incoming outgoing width) ≡ true → width < 256 → CellFits incoming group outgoing width
cell_fits_lem p group incoming outgoing width b rules narrow =
    let k = shape_facts p group incoming outgoing width rules in
    record { address = k.address; entering = (let e = k.joined in let m = b.classes in omega arith); leaving = k.most; narrow = narrow }

-- ---- the places

pub bounds_start : WithinBounds start
unfolding start most_variables most_classes most_bits
bounds_start = record { group = omega arith; classes = omega arith; left = omega arith; bits = omega arith }

pub bounds_kept : (p : Place) (c : Command) → WithinBounds p → keeps_rules p c ≡ true → width_of c < 256 → WithinBounds (place_after p c)
unfolding place_after most_variables most_classes most_bits keeps_rules width_of
bounds_kept p (Table n offset) b rules narrow =
    let h = (variables_most n (both (is_variables n) (is_value offset) rules).0).1 in
    record { group = omega arith; classes = omega arith; left = h; bits = omega arith }
bounds_kept p (Cell group incoming outgoing width) b rules narrow =
    let k = shape_facts p group incoming outgoing width rules in
    let m = cell_bits_most incoming group outgoing width (cell_fits_lem p group incoming outgoing width b rules narrow) in
    let some = k.some in
    let inside = k.inside in
    record { group = (let l = b.left in omega arith); classes = k.most; left = (let l = b.left in omega arith); bits = (let l = b.bits in omega arith) }
bounds_kept p (Word class weight) b rules narrow = record { group = b.group; classes = b.classes; left = b.left; bits = b.bits }
bounds_kept p (End bits) b rules narrow = record { group = b.group; classes = b.classes; left = b.left; bits = b.bits }
