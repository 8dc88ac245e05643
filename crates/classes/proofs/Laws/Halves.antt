-- A block of a cut behind the first is a half of a block of the cut above.
use Rattle.std.specs.Prelude.{ℕ, ◌+◌, ◌-◌, ◌*◌, ◌/◌, ◌%◌, ◌≤◌, ◌<◌, min, ◌≡◌, ◌⊎◌, List, length, drop, ℤ}
use Rattle.std.proofs.Common.{sym, ◌∙◌, inl, inr, mul_assoc, mul-le-mul_right, length-take, length-drop, drop-drop}
use Rattle.std.proofs.Math.Path.{ap}
use Rattle.std.proofs.Math.Nat.{suc-mul}
use native.Mathlib.Omega.{arith}
use Rattle.std.proofs.Math.ListN.{take}
use Rattle.std.proofs.Math.Seq.{take-take}
use Rattle.numbers.proofs.Laws.Lists.{drop_take}
use Rattle.blocks.specs.Inner.Layout.{part}
use Rattle.classes.specs.Inner.Finding.{Cut}

-- ---- the halves of a part twice as large

-- Block b of the cut above, from its start to its end.
abbrev pub above : List ℤ → ℕ → ℕ → List ℤ
above table size b = take (b * (2 * size) + 2 * size - b * (2 * size)) (drop (b * (2 * size)) table)

module _ (table : List ℤ) (size b : ℕ) (room : b * (2 * size) + 2 * size ≤ length table) where
  -- Its middle is where the upper half begins.
  pub middle : length (above table size b) / 2 ≡ size
  middle =
      ap (λ n. n / 2) (simp (length-take, length-drop) (let e : min (b * (2 * size) + 2 * size - b * (2 * size)) (length table - b * (2 * size)) ≡ 2 * size = omega arith in e))
      ∙ (let e : 2 * size / 2 ≡ size = omega arith in e)

  doubled : b * (2 * size) ≡ 2 * b * size
  doubled = sym (mul_assoc b 2 size) ∙ ap (λ n. n * size) (let e : b * 2 ≡ 2 * b = omega arith in e)

  -- The lower half is all up to the middle,
  pub lower_half : take size (above table size b) ≡ part table size (2 * b)
  unfolding part
  lower_half =
      take-take size (b * (2 * size) + 2 * size - b * (2 * size)) (drop (b * (2 * size)) table) (omega arith)
      ∙ ap (λ n. take size (drop n table)) doubled

  -- and the upper half all from the middle on.
  pub upper_half : drop size (above table size b) ≡ part table size (2 * b + 1)
  unfolding part
  upper_half =
      drop_take size (b * (2 * size) + 2 * size - b * (2 * size)) (drop (b * (2 * size)) table)
      ∙ ap (λ n. take n (drop size (drop (b * (2 * size)) table))) (let e : b * (2 * size) + 2 * size - b * (2 * size) - size ≡ size = omega arith in e)
      ∙ ap (take size) (drop-drop size (b * (2 * size)) table)
      ∙ ap (λ n. take size (drop n table)) (let d = doubled in let e : b * (2 * size) + size ≡ (2 * b + 1) * size = omega (arith, suc-mul (2 * b) size) in e)

  -- The same, the middle given by the block's length.
  pub lower_part : take (length (above table size b) / 2) (above table size b) ≡ part table size (2 * b)
  lower_part = ap (λ n. take n (above table size b)) middle ∙ lower_half

  pub upper_part : take (length (above table size b) / 2) (drop (length (above table size b) / 2) (above table size b)) ≡ part table size (2 * b + 1)
  unfolding part
  upper_part =
      ap (λ n. take n (drop n (above table size b))) middle
      ∙ ap (take size) (drop_take size (b * (2 * size) + 2 * size - b * (2 * size)) (drop (b * (2 * size)) table))
      ∙ ap (λ n. take size (take n (drop size (drop (b * (2 * size)) table)))) (let e : b * (2 * size) + 2 * size - b * (2 * size) - size ≡ size = omega arith in e)
      ∙ take-take size size (drop size (drop (b * (2 * size)) table)) (omega arith)
      ∙ ap (take size) (drop-drop size (b * (2 * size)) table)
      ∙ ap (λ n. take size (drop n table)) (let d = doubled in let e : b * (2 * size) + size ≡ (2 * b + 1) * size = omega (arith, suc-mul (2 * b) size) in e)

-- ---- the blocks of a cut

module _ {table : List ℤ} {size count j : ℕ} (cut : Cut table size count) (below : j < count) (later : j ≡ 0 → ⊥) where
  -- A block behind the first is a half: the block of the cut above lies within the table,
  pub above_inside : j / 2 * (2 * size) + 2 * size ≤ length table
  above_inside =
      let w = cut.whole in
      let even = cut.halved (λ one. later (omega arith)) in
      let m = mul-le-mul_right (2 * size) (let l : j / 2 < count / 2 = omega arith in l) in
      let e : count / 2 * (2 * size) ≡ count * size = sym (mul_assoc (count / 2) 2 size) ∙ ap (λ n. n * size) (let q : count / 2 * 2 ≡ count = omega arith in q) in
      omega (arith, suc-mul (j / 2) (2 * size))

  abbrev whole : List ℤ
  whole = above table size (j / 2)

  -- and the block is that one's lower half or its upper half.
  abbrev Half : List ℤ → Type 0
  Half values = ((j % 2 ≡ 0) × (values ≡ take size whole)) ⊎ ((j % 2 ≡ 0 → ⊥) × (values ≡ drop size whole))

  pub half_block : {values : List ℤ} → Half values → values ≡ part table size j
  half_block (inl lower) =
      lower.1
      ∙ lower_half table size (j / 2) above_inside
      ∙ ap (part table size) (let z = lower.0 in let e : 2 * (j / 2) ≡ j = omega arith in e)
  half_block (inr upper) =
      upper.1
      ∙ upper_half table size (j / 2) above_inside
      ∙ ap (part table size) (let z = upper.0 in let e : 2 * (j / 2) + 1 ≡ j = omega arith in e)

  -- and the block is what begins at its start, or in its middle, and is half as long.
  abbrev Begins : ℕ → Type 0
  Begins from = ((j % 2 ≡ 0) × (from ≡ 0)) ⊎ ((j % 2 ≡ 0 → ⊥) × (from ≡ length whole / 2))

  pub half_inside : {from : ℕ} → Begins from → from + length whole / 2 ≤ length whole
  half_inside (inl lower) = let e = lower.1 in omega arith
  half_inside (inr upper) = let e = upper.1 in omega arith

  pub half_part : {from : ℕ} → Begins from → take (from + length whole / 2 - from) (drop from whole) ≡ part table size j
  half_part {from} (inl lower) =
      ap (λ n. take (n + length whole / 2 - n) (drop n whole)) lower.1
      ∙ ap (λ n. take n whole) (let e : 0 + length whole / 2 - 0 ≡ length whole / 2 = omega arith in e)
      ∙ lower_part table size (j / 2) above_inside
      ∙ ap (part table size) (let z = lower.0 in let e : 2 * (j / 2) ≡ j = omega arith in e)
  half_part {from} (inr upper) =
      ap (λ n. take (n + length whole / 2 - n) (drop n whole)) upper.1
      ∙ ap (λ n. take n (drop (length whole / 2) whole)) (let e : length whole / 2 + length whole / 2 - length whole / 2 ≡ length whole / 2 = omega arith in e)
      ∙ upper_part table size (j / 2) above_inside
      ∙ ap (part table size) (let z = upper.0 in let e : 2 * (j / 2) + 1 ≡ j = omega arith in e)
