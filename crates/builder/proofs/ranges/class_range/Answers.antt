-- `ranges::class_range` meets its contract: the class's first block is looked at.
use Prim.Native.Nat.{ℕ, suc, ◌+◌, ◌-◌, ◌*◌, ◌^◌, ◌≤◌}
use mathlib.Core.Path.{◌≡◌, ◌∙◌, ap, ap₂}
use native.Mathlib.Omega.{arith}
use lib.ListN.{length, take, drop}
use lib.Pow.{pow_pos, pow_mono}
use mir.Facts.{Fits-of_lt}
use Rattle.blocks.specs.Blocks.{block}
use Rattle.blocks.specs.Inner.Layout.{class_at}
use Rattle.blocks.proofs.Laws.Blocks.{block_length, block_part}
use Rattle.diagram.specs.Inner.Building.{range_of, ClassOfCut}
use Rattle.diagram.proofs.Laws.Checks.{variables_range}
use Rattle.diagram.proofs.Laws.FirstBlocks.{cut_small, half_small, whole, first_place, first_of, first_within, first_alike}
use Rattle.builder.proofs.Laws.Gathering.{same_range, block_values}
use Rattle.builder.proofs.ranges.class_range.Goals as goal
use Rattle.builder.proofs.ranges.class_range.Goals.{After-in_cut, Start}

-- The class, whose first block is in its row.
class : (c : Start) → ClassOfCut c.args.cuts.now.n c.args.h c.args.c c.args.cuts.now.table.now c.args.cuts.now.firsts.now
class c = let cuts = c.args.cuts.now in record { admitted = cuts.admitted; cut = c.requires.0; known = c.requires.1; placed = cuts.classed.placed }

pub power-size-requires : goal.power-size-requires
power-size-requires c = let k = class (goal.at.power-size-requires c).Start in rw (whole k) (let s = half_small k in omega arith)

pub in_cut-requires : goal.in_cut-requires
in_cut-requires c = let k = class (goal.at.in_cut-requires c).Start in (let s = cut_small k in omega arith, first_place k)

-- The class's first block and its size; it lies within the table.
module _ (c : After-in_cut) where
  abbrev known_class : ClassOfCut c.args.cuts.now.n c.args.h c.args.c c.args.cuts.now.table.now c.args.cuts.now.firsts.now
  known_class = class (goal.at.overflow_mul-start c).Start

  abbrev half : ℕ
  half = c.args.cuts.now.n - suc c.args.h

  abbrev size : ℕ
  size = c.power-size.result

  abbrev j : ℕ
  j = c.in_cut.result

  is_size : size ≡ 2 ^ suc half
  is_size = c.power-size.ensures ∙ ap (λ k. 2 ^ k) (whole known_class)

  is_first_lem : j ≡ first_of known_class
  is_first_lem = c.in_cut.ensures

  inside : j * size + size ≤ length c.args.cuts.now.table.now
  inside = let e = ap₂ (λ b s. b * s + s) is_first_lem is_size in let w = first_within known_class in omega arith

  table_small : length c.args.cuts.now.table.now ≤ 4096
  table_small =
      let a = c.args.cuts.now.admitted in
      let p = pow_mono {i = c.args.cuts.now.n} {j = 12} (variables_range _ a.variables).1 in
      let e = a.size in
      omega arith

  is_part : take (j * size + size - j * size) (drop (j * size) c.args.cuts.now.table.now) ≡ block c.args.cuts.now.table.now (suc half) j
  is_part = block_part c.args.cuts.now.table.now size (suc half) j is_size

pub overflow_mul-start : goal.overflow_mul-start
overflow_mul-start c = let w = inside c in let g = table_small c in Fits-of_lt (omega arith)

pub overflow_add-end : goal.overflow_add-end
overflow_add-end c = let w = inside c in let g = table_small c in Fits-of_lt (omega arith)

pub offset_bounds-cuts-start : goal.offset_bounds-cuts-start
offset_bounds-cuts-start c = let d = (goal.at.offset_bounds-cuts-start c).After-in_cut in let w = inside d in let g = table_small d in Fits-of_lt (omega arith)

pub slice_bounds-range_of-end : goal.slice_bounds-range_of-end
slice_bounds-range_of-end c = inside (goal.at.slice_bounds-range_of-end c).After-in_cut

pub range_of-requires : goal.range_of-requires
range_of-requires c =
    let d = (goal.at.range_of-requires c).After-in_cut in
    let table = c.args.cuts.now.table.now in
    let within : j d * 2 ^ suc (half d) + 2 ^ suc (half d) ≤ length table = rw (← is_size d) (inside d) in
    rw (is_part d)
    (rw (block_length table (suc (half d)) (j d) within) (pow_pos (suc (half d))), block_values table (suc (half d)) (j d) c.args.cuts.now.admitted.values within)

pub returns : goal.returns
returns c =
    let d = (goal.at.returns c).After-in_cut in
    let cuts = c.args.cuts.now in
    let k = known_class d in
    c.range_of.ensures
    ∙ ap range_of (is_part d ∙ ap (block cuts.table.now (suc (half d))) (is_first_lem d))
    ∙ same_range (block cuts.table.now (suc (half d)) (first_of k)) (class_at cuts.n cuts.table.now c.args.h c.args.c) (first_alike k)
