-- `cuts::find_block` meets its contract: the first block is new, and what is searched for else is block j, as a half of a block of the cut
-- above.
use Rattle.std.proofs.Common.{◌≡◌, ◌+◌, ◌*◌, ◌/◌, ◌^◌, ◌≤◌, ◌<◌, ◌∙◌, ap, arith, length, inl, inr, Bor, List, ℤ}
use Rattle.std.proofs.Math.Nat.{div-le_self}
use Rattle.blocks.specs.Inner.Layout.{part}
use Rattle.classes.proofs.Laws.Halves.{above_inside, half_block}
use Rattle.classes.proofs.Laws.Finding.{search_ready, search_finds, first_found}
use Rattle.classes.proofs.cuts.find_block.Goals as goal
use Rattle.classes.proofs.cuts.find_block.Goals.{then-j-eq0-2, else-j-eq0-2, Else-j-eq0, Joined-j-eq0-2, Start}

pub returns-then-j-eq0 : goal.returns-then-j-eq0
returns-then-j-eq0 c = first_found c.requires c.if-j-eq0.true

-- The number of a block is small.
small : (s : Start) → s.args.j < 2 ^ 63
small s = let i = s.requires.inside in let d = div-le_self (length s.args.table.now) s.args.size in let g = s.well_formed.0.1 in omega arith

-- The block of the cut above lies within the table.
room : (c : Else-j-eq0) → c.args.j / 2 * (2 * c.args.size) + 2 * c.args.size ≤ length c.args.table.now
room c = above_inside c.requires.cut c.requires.inside c.if-j-eq0.false

pub slice_bounds-split_at-end : goal.slice_bounds-split_at-end
slice_bounds-split_at-end c = room c

pub invariant_of-known : goal.invariant_of-known
invariant_of-known c =
    let ready = search_ready c.requires (small (goal.at.invariant_of-known c).Start) in
    record { known = ready.0; counted = ready.1 }

-- What is searched for is block j.
is_block : (c : Joined-j-eq0-2) → c.if-j-eq0-2.half.now ≡ part c.args.table.now c.args.size c.args.j
is_block c =
    half_block c.requires.cut c.requires.inside c.if-j-eq0.false
    (elim c.if-j-eq0-2.branch [
      | then-j-eq0-2 w ↦ inl (w.if-j-eq0-2.true, ap (λ (half : Bor (List ℤ)). half.now) w.half-is ∙ c.split_at.ensures.front)
      | else-j-eq0-2 w ↦ inr (w.if-j-eq0-2.false, ap (λ (half : Bor (List ℤ)). half.now) w.half-is ∙ c.split_at.ensures.back)
    ])

pub returns : goal.returns
returns c = search_finds c.requires c.find_class.ensures (is_block (goal.at.returns c).Joined-j-eq0-2)
