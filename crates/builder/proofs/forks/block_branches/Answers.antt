-- `forks::block_branches` meets its contract: the halves of the block's part are compared.
use Prim.Native.Nat.{suc, ◌/◌, ◌^◌}
use mathlib.Core.Path.{◌≡◌, sym, ◌∙◌, ap}
use mathlib.Core.Bool.{not}
use native.Mathlib.Numerals.{add-one}
use lib.ListN.{length, take, drop}
use Rattle.blocks.specs.Blocks.{block}
use Rattle.blocks.specs.Classes.{same}
use Rattle.blocks.proofs.Laws.Blocks.{block_length, block_part}
use Rattle.diagram.proofs.Laws.Branching.{branches_by_halves}
use Rattle.builder.proofs.forks.block_branches.Goals as goal
use Rattle.builder.proofs.forks.block_branches.Goals.{After-power-size}

-- The block's size.
is_size : (c : After-power-size) → c.power-size.result ≡ 2 ^ suc c.args.i
is_size c = c.power-size.ensures ∙ ap (λ k. 2 ^ k) (add-one c.args.i)

pub returns : goal.returns
returns c =
    let d = (goal.at.returns c).After-power-size in
    let a = d.args in
    let part = block_part a.table.now d.power-size.result (suc a.i) a.j (is_size d) in
    ap not (c.same_halves.ensures ∙ ap (λ l. same (take (length l / 2) l) (drop (length l / 2) l)) part)
    ∙ sym (branches_by_halves a.i (block a.table.now (suc a.i) a.j) (block_length a.table.now (suc a.i) a.j d.requires.1))
