-- `cells::chosen_cell` meets its contract.
use Rattle.std.proofs.Common.{◌+◌, ◌-◌, ◌≤◌, ◌≡◌, sym, ◌∙◌, ap, ap₂, arith, get_or}
use mir.Facts.{Fits-of_lt}
use Rattle.blocks.specs.Classes.{class_count}
use Rattle.blocks.specs.Uses.{commonest}
use Rattle.blocks.specs.Inner.Layout.{in_cut}
use Rattle.cascade.specs.Inner.Choices.{cost_of}
use Rattle.std.specs.Prelude.{None}
use Rattle.planner.specs.Inner.Listed.{size_at, bits_at, width_of_bits, common_at, chosen_cell}
use Rattle.planner.proofs.Laws.Leading.{cost_there, places, moves, counted_bits, next_uses, entering, leaving_at}
use Rattle.planner.proofs.cells.chosen_cell.Goals as goal
use Rattle.planner.proofs.cells.chosen_cell.Goals.{After-class_count-incoming, After-class_count-outgoing, After-cost_of-2, After-size_of-group}

pub offset_bounds-choices-h : goal.offset_bounds-choices-h
offset_bounds-choices-h c = Fits-of_lt (let p = (places c.args.cuts.now c.requires).0 in omega arith)

pub bounds-choices-h : goal.bounds-choices-h
bounds-choices-h c = let p = (places c.args.cuts.now c.requires).0 in omega arith

-- The size that the choice takes.
module _ (c : After-size_of-group) where
  is_size : c.size_of-group.result ≡ size_at c.args.choices.now c.args.h
  unfolding size_at
  is_size = c.size_of-group.ensures

  end_small : c.args.h + c.size_of-group.result ≤ 12
  end_small = let e = is_size in let p = (places c.args.cuts.now c.requires).1.0 in omega arith

  end_within : c.args.h + c.size_of-group.result ≤ c.args.cuts.now.n
  end_within = rw is_size (moves c.args.cuts.now c.requires).1

pub overflow_add-end : goal.overflow_add-end
overflow_add-end c = Fits-of_lt (let s = end_small c in omega arith)

pub offset_bounds-choices-end : goal.offset_bounds-choices-end
offset_bounds-choices-end c = Fits-of_lt (let s = end_small (goal.at.offset_bounds-choices-end c).After-size_of-group in omega arith)

pub bounds-choices-end : goal.bounds-choices-end
bounds-choices-end c = let s = end_small (goal.at.bounds-choices-end c).After-size_of-group in omega arith

-- What the choices at both ends cost.
module _ (c : After-cost_of-2) where
  taken_size : c.size_of-group.result ≡ size_at c.args.choices.now c.args.h
  unfolding size_at
  taken_size = c.size_of-group.ensures

  cost_below : let a = c.args in c.cost_of-2.result ≡ cost_of (get_or a.choices.now (a.h + size_at a.choices.now a.h) None)
  cost_below = let a = c.args in c.cost_of-2.ensures ∙ ap (λ k. cost_of (get_or a.choices.now (a.h + k) None)) taken_size

  is_bits : let a = c.args in c.cost_of.result - c.cost_of-2.result ≡ bits_at a.choices.now a.h
  unfolding bits_at
  is_bits = ap₂ ◌-◌ c.cost_of.ensures cost_below

pub overflow_sub-bits : goal.overflow_sub-bits
overflow_sub-bits c = rw (c.cost_of.ensures, cost_below c) (cost_there c.args.cuts.now c.requires)

pub class_count-incoming-requires : goal.class_count-incoming-requires
class_count-incoming-requires c = let l = c.requires.cut in omega arith

pub class_count-outgoing-requires : goal.class_count-outgoing-requires
class_count-outgoing-requires c = end_within (goal.at.class_count-outgoing-requires c).After-size_of-group

pub commonest_of_cut-commonest-requires : goal.commonest_of_cut-commonest-requires
commonest_of_cut-commonest-requires c =
    let s = (goal.at.commonest_of_cut-commonest-requires c).After-size_of-group in
    (let e = end_small s in omega arith, rw (c.class_count-outgoing.ensures, is_size s) (next_uses c.args.cuts.now c.requires))

pub width_of_bits-requires : goal.width_of_bits-requires
width_of_bits-requires c =
    let d = (goal.at.width_of_bits-requires c).After-cost_of-2 in
    rw (c.class_count-incoming.ensures, c.class_count-outgoing.ensures, is_size (goal.at.width_of_bits-requires c).After-size_of-group, is_bits d) (counted_bits c.args.cuts.now c.requires)

pub returns : goal.returns
unfolding common_at chosen_cell
returns c =
    let d = (goal.at.returns c).After-cost_of-2 in
    let a = c.args in
    let size = is_size (goal.at.returns c).After-size_of-group in
    let bits = is_bits d in
    let into = c.class_count-incoming.ensures ∙ sym (entering a.cuts.now c.requires) in
    let out = c.class_count-outgoing.ensures ∙ ap (λ k. class_count a.cuts.now.n a.cuts.now.table.now (a.h + k)) size ∙ sym (leaving_at a.cuts.now c.requires) in
    let common = c.commonest_of_cut-commonest.ensures ∙ ap₂ (λ k count. commonest (in_cut a.use_counts.now (a.h + k) count)) size out in
    λ t. record {
      group = size t;
      incoming = into t;
      outgoing = out t;
      width = (c.width_of_bits.ensures ∙ (λ s. width_of_bits (into s) (size s) (out s) (bits s))) t;
      bits = bits t;
      common = (common t).class;
      uses = (common t).uses;
    }
