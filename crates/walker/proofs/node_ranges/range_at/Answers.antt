-- `node_ranges::range_at` meets its contract.
use Rattle.std.proofs.Common.{◌≡◌, sym, ◌∙◌, ap₂, arith, w32, to_z-of_z}
use borrow.Author.Rules.{sfits_of}
use Rattle.diagram.specs.Walk.{least_at, greatest_at}
use Rattle.diagram.specs.Inner.Edges.{Recorded}
use Rattle.diagram.proofs.Laws.NodeRanges.{range_terminal, range_record}
use Rattle.walker.proofs.node_ranges.range_at.Goals as goal
use Rattle.walker.proofs.node_ranges.range_at.Goals.{Else-k-eq0}

pub returns-then-k-eq0 : goal.returns-then-k-eq0
returns-then-k-eq0 c = sym (range_terminal c.args.records.now c.args.k c.if-k-eq0.true)

-- Node k is a record.
recorded : (c : Else-k-eq0) → Recorded c.args.records.now c.args.k
recorded c = record { from_one = (let l = c.if-k-eq0.false in let p : c.args.k ≡ 0 → ⊥ = l in omega arith); among = c.requires }

pub returns : goal.returns
unfolding least_at greatest_at
returns c =
    let e = (goal.at.returns c).Else-k-eq0 in
    ap₂ (λ a b. record { least = a; greatest = b })
    (to_z-of_z {w = w32} (sfits_of c.number_at.type_inv) ∙ c.number_at.ensures)
    (to_z-of_z {w = w32} (sfits_of c.number_at-2.type_inv) ∙ c.number_at-2.ensures)
    ∙ sym (range_record e.args.records.now e.args.k (recorded e).from_one)
