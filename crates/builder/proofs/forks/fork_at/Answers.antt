-- `forks::fork_at` meets its contract.
use Prim.Native.Nat.{ℕ, suc, ◌+◌, ◌-◌, ◌*◌}
use mathlib.Core.Path.{◌≡◌, ◌∙◌, ap, ap₂}
use native.Mathlib.Numerals.{add-one}
use native.Mathlib.Omega.{arith}
use lib.ListN.{get_or}
use lib.IntN.{◌-ℤ◌}
use mir.Syntax.{w32}
use mir.Val.{of_z, to_z}
use mir.Facts.{to_z-of_z, Fits-of_lt}
use borrow.Author.Rules.{sfits_of}
use Rattle.blocks.specs.Blocks.{block, first}
use Rattle.blocks.specs.Rows.{cut_place}
use Rattle.diagram.specs.declared.cuts.Cuts.{Cuts}
use Rattle.diagram.proofs.Laws.Forks.{class, low_class, high_class, cut_fits, first_small, low_class_place, high_class_place, low_node_place, high_node_place, half_fits, weight_place, fork_read, fork_is}
use Rattle.diagram.proofs.Laws.FirstBlocks.{first_of, first_place}
use Rattle.builder.proofs.forks.fork_at.Goals as goal
use Rattle.builder.proofs.forks.fork_at.Goals.{After-class_branches}

pub in_cut-j-requires : goal.in_cut-j-requires
in_cut-j-requires c = let k = c.args.cuts.now in let f = c.requires in ((cut_fits k.admitted k.classed f).0, first_place (class k.admitted k.classed f))

pub overflow_add-h : goal.overflow_add-h
overflow_add-h c = let k = c.args.cuts.now in let s = (cut_fits k.admitted k.classed c.requires).1 in Fits-of_lt (omega arith)

pub overflow_mul-j : goal.overflow_mul-j
overflow_mul-j c = let k = c.args.cuts.now in let s = first_small k.admitted k.classed c.requires in record { fits = rw c.in_cut-j.ensures (omega arith) }

pub in_cut-low-requires : goal.in_cut-low-requires
in_cut-low-requires c = let k = c.args.cuts.now in let f = c.requires in ((cut_fits k.admitted k.classed f).1, rw c.in_cut-j.ensures (low_class_place k.admitted k.classed f))

pub overflow_add-h-2 : goal.overflow_add-h-2
overflow_add-h-2 c = let k = c.args.cuts.now in let s = (cut_fits k.admitted k.classed c.requires).1 in Fits-of_lt (omega arith)

pub overflow_mul-j-2 : goal.overflow_mul-j-2
overflow_mul-j-2 c = let k = c.args.cuts.now in let s = first_small k.admitted k.classed c.requires in record { fits = rw c.in_cut-j.ensures (omega arith) }

pub overflow_add-j : goal.overflow_add-j
overflow_add-j c = let k = c.args.cuts.now in let s = first_small k.admitted k.classed c.requires in record { fits = rw c.in_cut-j.ensures (omega arith) }

pub in_cut-high-requires : goal.in_cut-high-requires
in_cut-high-requires c = let k = c.args.cuts.now in let f = c.requires in ((cut_fits k.admitted k.classed f).1, rw c.in_cut-j.ensures (high_class_place k.admitted k.classed f))

pub weight_of_block-weight-requires-clause-i_bound : goal.weight_of_block-weight-requires-clause-i_bound
weight_of_block-weight-requires-clause-i_bound c =
    let k = c.args.cuts.now in
    let f = c.requires in
    (half_fits k.admitted k.classed f, rw (c.in_cut-j.ensures, add-one c.args.h) (weight_place k.admitted k.classed f))

pub in_cut-requires : goal.in_cut-requires
in_cut-requires c =
    let k = c.args.cuts.now in
    let f = c.requires in
    ((cut_fits k.admitted k.classed f).1, rw (c.in_cut-low.ensures, c.in_cut-j.ensures) (low_node_place k.admitted k.classed f))

pub in_cut-requires-2 : goal.in_cut-requires-2
in_cut-requires-2 c =
    let k = c.args.cuts.now in
    let f = c.requires in
    ((cut_fits k.admitted k.classed f).1, rw (c.in_cut-high.ensures, c.in_cut-j.ensures) (high_node_place k.admitted k.classed f))

-- What each call read.
module _ (c : After-class_branches) where
  abbrev cuts : Cuts
  cuts = c.args.cuts.now

  abbrev j : ℕ
  j = first_of (class cuts.admitted cuts.classed c.requires)

  is_low : c.in_cut-low.result ≡ low_class cuts.admitted cuts.classed c.requires
  is_low = c.in_cut-low.ensures ∙ ap (λ k. get_or cuts.classes.now (cut_place (c.args.h + 1) + k * 2) 0) c.in_cut-j.ensures

  is_high : c.in_cut-high.result ≡ high_class cuts.admitted cuts.classed c.requires
  is_high = c.in_cut-high.ensures ∙ ap (λ k. get_or cuts.classes.now (cut_place (c.args.h + 1) + (k * 2 + 1)) 0) c.in_cut-j.ensures

  is_weight_lem : to_z w32 (of_z w32 c.weight_of_block-weight.result) ≡ first (block cuts.table.now (cuts.n - suc c.args.h) (j * 2 + 1)) -ℤ first (block cuts.table.now (cuts.n - suc c.args.h) (j * 2))
  is_weight_lem =
      to_z-of_z {w = w32} (sfits_of c.weight_of_block-weight.type_inv)
      ∙ c.weight_of_block-weight.ensures
      ∙ ap₂ (λ h k. first (block cuts.table.now (cuts.n - h) (k * 2 + 1)) -ℤ first (block cuts.table.now (cuts.n - h) (k * 2))) (add-one c.args.h) c.in_cut-j.ensures

  as_read : record { low = c.in_cut.result; high = c.in_cut-2.result; weight = to_z w32 (of_z w32 c.weight_of_block-weight.result); branching = c.class_branches.result } ≡ fork_read cuts.admitted cuts.classed c.requires
  as_read t = record {
    low = (c.in_cut.ensures ∙ ap (λ k. get_or c.args.row.now (cut_place (c.args.h + 1) + k) 0) is_low) t;
    high = (c.in_cut-2.ensures ∙ ap (λ k. get_or c.args.row.now (cut_place (c.args.h + 1) + k) 0) is_high) t;
    weight = is_weight_lem t;
    branching = c.class_branches.ensures t;
  }

pub returns : goal.returns
returns c = let k = c.args.cuts.now in as_read c ∙ fork_is k.admitted k.classed c.requires
