-- One constant added to every value: which blocks branch, and what the halves' differences are, stays.
use Rattle.std.specs.Prelude.{ℕ, ◌^◌, ◌≡◌, List, map, ℤ, neg_ℤ, ◌+ℤ◌, ◌-ℤ◌}
use Rattle.std.proofs.Math.Path.{sym}
use Rattle.std.proofs.Common.{◌∙◌, ap, map-id}
use Rattle.std.proofs.Math.IntN.{+ℤ-neg_ℤ_cancel}
use Rattle.numbers.proofs.Laws.Bools.{yes_or_no}
use Rattle.numbers.proofs.Laws.Lists.{map_take, map_drop, map_map, map_same}
use Rattle.blocks.specs.Blocks.{first, lower_half, upper_half, differences}
use Rattle.blocks.proofs.Laws.Differences.{differences_less}
use Rattle.diagram.specs.Records.{branches}
use Rattle.diagram.proofs.Laws.Branching.{unbranched_halves, branched_halves}

-- Every value more by one constant.
abbrev pub shift : ℤ → List ℤ → List ℤ
shift c values = map (λ v. v +ℤ c) values

-- Nothing is lost.
shift_back : (c : ℤ) (values : List ℤ) → shift (neg_ℤ c) (shift c values) ≡ values
shift_back c values = map_map (λ v. v +ℤ c) (λ v. v -ℤ c) values ∙ map_same (λ v. v +ℤ c -ℤ c) (λ v. v) values (λ v. +ℤ-neg_ℤ_cancel v c) ∙ map-id values

-- Halves are equal where they were.
module _ (i : ℕ) (c : ℤ) (values : List ℤ) where
  lower_shift : lower_half i (shift c values) ≡ shift c (lower_half i values)
  unfolding lower_half
  lower_shift = sym (map_take (λ v. v +ℤ c) (2 ^ i) values)

  upper_shift : upper_half i (shift c values) ≡ shift c (upper_half i values)
  unfolding upper_half
  upper_shift = sym (map_drop (λ v. v +ℤ c) (2 ^ i) values)

  halves_shift : lower_half i values ≡ upper_half i values → lower_half i (shift c values) ≡ upper_half i (shift c values)
  halves_shift e = lower_shift ∙ ap (shift c) e ∙ sym upper_shift

-- Which blocks branch stays.
pub branches_shift : (i : ℕ) (c : ℤ) (values : List ℤ) → branches i (shift c values) ≡ branches i values
branches_shift i c values =
    yes_or_no (branches i (shift c values))
    (λ t. t ∙ sym (yes_or_no (branches i values) (λ b. b) (λ b. absurd (branched_halves i (shift c values) t (halves_shift i c values (unbranched_halves i values b))))))
    (λ t. t ∙ sym (yes_or_no (branches i values) (λ b. absurd (branched_halves i values b (back (unbranched_halves i (shift c values) t)))) (λ b. b)))
  where
    back : lower_half i (shift c values) ≡ upper_half i (shift c values) → lower_half i values ≡ upper_half i values
    back e = rw (shift_back c values) at (halves_shift i (neg_ℤ c) (shift c values) e)

-- A block's differences branch where the block does.
pub branches_differences : (i : ℕ) (values : List ℤ) → branches i (differences values) ≡ branches i values
unfolding differences
branches_differences i values = branches_shift i (neg_ℤ (first values)) values

-- Blocks of equal differences branch alike.
pub same_branches : (i : ℕ) (left right : List ℤ) → differences left ≡ differences right → branches i left ≡ branches i right
same_branches i left right e = sym (branches_differences i left) ∙ ap (branches i) e ∙ branches_differences i right

-- The differences of a half are seen in the differences of the block.
pub lower_differences : (i : ℕ) (values : List ℤ) → differences (lower_half i (differences values)) ≡ differences (lower_half i values)
unfolding differences
lower_differences i values = ap differences (lower_shift i (neg_ℤ (first values)) values) ∙ differences_less (lower_half i values) (first values)

pub upper_differences : (i : ℕ) (values : List ℤ) → differences (upper_half i (differences values)) ≡ differences (upper_half i values)
unfolding differences
upper_differences i values = ap differences (upper_shift i (neg_ℤ (first values)) values) ∙ differences_less (upper_half i values) (first values)

-- Blocks of equal differences have halves of equal differences.
pub same_lower : (i : ℕ) (left right : List ℤ) → differences left ≡ differences right → differences (lower_half i left) ≡ differences (lower_half i right)
same_lower i left right e = sym (lower_differences i left) ∙ ap (λ d. differences (lower_half i d)) e ∙ lower_differences i right

pub same_upper : (i : ℕ) (left right : List ℤ) → differences left ≡ differences right → differences (upper_half i left) ≡ differences (upper_half i right)
same_upper i left right e = sym (upper_differences i left) ∙ ap (λ d. differences (upper_half i d)) e ∙ upper_differences i right
