-- `search::Known::first_block` meets its contract: the block lies within the table.
use Rattle.std.proofs.Common.{◌≡◌, ◌+◌, ◌-◌, ◌*◌, ap, arith, get_or, take, drop}
use Rattle.blocks.specs.Inner.Layout.{part}
use Rattle.classes.proofs.search.Known.first_block.Goals as goal

pub returns : goal.returns
unfolding part
returns c =
    let s = c.args.self.now in
    let j = get_or s.firsts.now c.args.class 0 in
    ap (λ n. take n (drop (j * s.size) s.table.now)) (let e : j * s.size + s.size - j * s.size ≡ s.size = omega arith in e)
