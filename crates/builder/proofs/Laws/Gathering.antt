-- The extremes of the first differences of some values, with one difference more, and the range of a block.
use Rattle.std.specs.Prelude.{ℕ, ◌+◌, ◌-◌, ◌*◌, ◌^◌, ◌≤◌, ◌<◌, ◌≡◌, Bool, true, List, length, get_or, take, drop, ℤ, pos, ◌-ℤ◌}
use Rattle.std.proofs.Common.{◌∙◌, ap, add-one, arith, take-suc, get_or-take, get_or-drop, length-drop, length-take-le, SFits, of_z, to_z, to_z-of_z}
use Rattle.std.specs.Int.{w32}
use Rattle.numbers.specs.Extremes.{least_of, greatest_of}
use Rattle.numbers.specs.Lists.{every}
use Rattle.numbers.specs.Ranges.{is_value}
use Rattle.numbers.proofs.Laws.Bounds.{value_mag, weight_mag, difference_weight}
use Rattle.numbers.proofs.Laws.Extremal.{Extreme}
use Rattle.numbers.proofs.Laws.Integers.{sub_self}
use Rattle.numbers.proofs.Laws.Lists.{every_at, every_from}
use Rattle.blocks.specs.Blocks.{block, first, differences}
use Rattle.blocks.proofs.Laws.Blocks.{block_length, block_at}
use Rattle.blocks.proofs.Laws.Differences.{length_differences, differences_at}
use Rattle.diagram.specs.Inner.Building.{range_of}

-- The first difference is 0.
pub extreme_first : {le : ℤ → ℤ → Bool} {pick : ℤ → ℤ → ℤ} {of : List ℤ → ℤ} → Extreme le pick of → (values : List ℤ) → 0 < length values → of (take 1 (differences values)) ≡ pos 0
unfolding first
extreme_first {le} {pick} {of} e values h =
    let m = e.among (take 1 (differences values)) (rw one (omega arith)) in
    m.1.1
    ∙ ap (λ j. get_or (take 1 (differences values)) j (pos 0)) (let l : m.0 < 1 = rw one at m.1.0 in let z : m.0 ≡ 0 = omega arith in z)
    ∙ get_or-take 1 (differences values) 0 (pos 0) (omega arith)
    ∙ differences_at values 0 h
    ∙ sub_self (first values)
  where
    one : length (take 1 (differences values)) ≡ 1
    one = length-take-le 1 (differences values) (rw length_differences h)

-- One difference more.
pub extreme_next : {le : ℤ → ℤ → Bool} {pick : ℤ → ℤ → ℤ} {of : List ℤ → ℤ} → Extreme le pick of → (values : List ℤ) (x : ℕ) → 1 ≤ x → x < length values → of (take (x + 1) (differences values)) ≡ pick (of (take x (differences values))) (get_or values x (pos 0) -ℤ first values)
extreme_next {le} {pick} {of} e values x one h =
    ap of (ap (λ k. take k (differences values)) (add-one x) ∙ take-suc (differences values) x (pos 0) (rw length_differences h))
    ∙ e.snoc (take x (differences values)) (get_or (differences values) x (pos 0)) (rw (length-take-le x (differences values) (rw length_differences (omega arith))) one)
    ∙ ap (pick (of (take x (differences values)))) (differences_at values x h)

-- A difference fits.
pub difference_fits : (values : List ℤ) (x : ℕ) → every is_value values ≡ true → x < length values → SFits w32 (get_or values x (pos 0) -ℤ first values)
unfolding first
difference_fits values x all h =
    let m = weight_mag (get_or values x (pos 0) -ℤ get_or values 0 (pos 0)) (difference_weight (get_or values x (pos 0)) (get_or values 0 (pos 0)) (every_at is_value values (pos 0) all x h) (every_at is_value values (pos 0) all 0 (omega arith))) in
    record { sfits = omega arith }

-- The values behind the first.
pub later_count : (values : List ℤ) → length (take (length values - 1) (drop 1 values)) ≡ length values - 1
later_count values = length-take-le (length values - 1) (drop 1 values) (rw length-drop (omega arith))

pub later_at : (values : List ℤ) (x : ℕ) → x < length values - 1 → get_or (take (length values - 1) (drop 1 values)) x (pos 0) ≡ get_or values (x + 1) (pos 0)
later_at values x h = get_or-take (length values - 1) (drop 1 values) x (pos 0) h ∙ get_or-drop 1 values x (pos 0) ∙ ap (λ k. get_or values k (pos 0)) (let e : 1 + x ≡ x + 1 = omega arith in e)

-- A value is read as it is.
pub value_read : (values : List ℤ) (x : ℕ) → every is_value values ≡ true → x < length values → to_z w32 (of_z w32 (get_or values x (pos 0))) ≡ get_or values x (pos 0)
value_read values x all h = let m = value_mag (get_or values x (pos 0)) (every_at is_value values (pos 0) all x h) in to_z-of_z (let f : SFits w32 (get_or values x (pos 0)) = record { sfits = omega arith } in f)

-- The values of a block are values.
pub block_values : (table : List ℤ) (i j : ℕ) → every is_value table ≡ true → j * 2 ^ i + 2 ^ i ≤ length table → every is_value (block table i j) ≡ true
block_values table i j all h =
    every_from is_value (block table i j) (pos 0) (λ x l.
    let below : x < 2 ^ i = rw (block_length table i j h) at l in
    ap is_value (block_at table i j x below) ∙ every_at is_value table (pos 0) all (j * 2 ^ i + x) (omega arith))

-- Equal differences have one range.
pub same_range : (left right : List ℤ) → differences left ≡ differences right → range_of left ≡ range_of right
unfolding range_of
same_range left right e = ap (λ d. record { least = least_of d; greatest = greatest_of d }) e
