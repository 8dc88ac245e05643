-- The first block of a class: where it is read, and that it branches where the class does.
use Rattle.std.specs.Prelude.{ℕ, suc, ◌+◌, ◌-◌, ◌*◌, ◌^◌, ◌≤◌, ◌<◌, ◌≡◌, List, length, get_or, ℤ}
use Rattle.std.proofs.Common.{sym, ◌∙◌, ap, arith}
use Rattle.blocks.specs.Blocks.{block, differences}
use Rattle.blocks.specs.Rows.{cut_place}
use Rattle.blocks.specs.Inner.Layout.{class_at}
use Rattle.blocks.proofs.Laws.Blocks.{block_within}
use Rattle.blocks.proofs.Laws.Classes.{class_count_le}
use Rattle.blocks.proofs.Laws.Differences.{differences_again}
use Rattle.blocks.proofs.Laws.Places.{place_inside, length_firsts, first_block}
use Rattle.diagram.specs.Records.{branches}
use Rattle.diagram.specs.Inner.Building.{ClassOfCut}
use Rattle.diagram.proofs.Laws.Checks.{variables_range}
use Rattle.diagram.proofs.Laws.Shifts.{same_branches}

module _ {n h c : ℕ} {table : List ℤ} {first_row : List ℕ} (k : ClassOfCut n h c table first_row) where
  open k use {admitted, cut, known, placed}

  -- The height of a block's halves.
  abbrev half : ℕ
  half = n - suc h

  pub whole : n - h ≡ suc half
  whole = let l = cut in omega arith

  within : h ≤ n
  within = let l = cut in omega arith

  pub cut_small : h < 12
  cut_small = let v = (variables_range n admitted.variables).1 in let l = cut in omega arith

  pub half_small : half < 12
  half_small = let v = (variables_range n admitted.variables).1 in let l = cut in omega arith

  -- Its place in the row, and its number.
  pub first_place : cut_place h + c < length first_row
  first_place = rw (placed, length_firsts n table) (place_inside n h c within (let m = class_count_le n table h within in let l = known in omega arith))

  abbrev pub first_of : ℕ
  first_of = get_or first_row (cut_place h + c) 0

  is_first_lem : (first_of < 2 ^ h) × (differences (block table (suc half) first_of) ≡ class_at n table h c)
  is_first_lem = rw (placed, ← whole) (first_block n table h within c known)

  -- It is a block of the cut, and lies within the table.
  pub first_below : first_of < 2 ^ h
  first_below = is_first_lem.0

  pub first_within : first_of * 2 ^ suc half + 2 ^ suc half ≤ length table
  first_within = rw (admitted.size, sym whole) (block_within n h first_of within first_below)

  -- Its differences are the class.
  pub first_stands : differences (block table (suc half) first_of) ≡ class_at n table h c
  first_stands = is_first_lem.1

  pub first_alike : differences (block table (suc half) first_of) ≡ differences (class_at n table h c)
  first_alike = sym (ap differences (sym first_stands) ∙ differences_again (block table (suc half) first_of))

  -- It branches where the class does.
  pub first_branches : branches half (block table (suc half) first_of) ≡ branches half (class_at n table h c)
  first_branches = same_branches half (block table (suc half) first_of) (class_at n table h c) first_alike
