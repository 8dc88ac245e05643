-- `building::write_records` meets its contract. The loop's invariant: the cuts from h on are placed.
use Rattle.std.specs.Prelude.{suc, ◌-◌, ◌≡◌, refl}
use Rattle.std.proofs.Common.{arith}
use Rattle.std.proofs.Math.Nat.{sub_self}
use lib.ListN.{replicate, get_or-replicate}
use Rattle.diagram.proofs.Laws.AllRecords.{records_start, records_placed, records_done}
use Rattle.builder.proofs.building.write_records.Goals as goal
use Rattle.builder.proofs.building.write_records.Goals.{In-loop-h}

pub loop-h-init : goal.loop-h-init
loop-h-init c = rw (sub_self c.args.cuts.now.n) (records_start c.args.cuts.now.admitted c.args.nodes.now c.requires (replicate 8191 0) refl (λ k l. get_or-replicate 8191 k 0 0 l))

-- In a turn the cut is the next one up.
up : (c : In-loop-h) → c.args.cuts.now.n - (c.args.cuts.now.n - c.loop-h.h) ≡ suc (c.loop-h.h - 1)
up c = let t = c.loop-h-test.true in let l = c.loop-h.auto.h in omega arith

pub loop-h-preserved : goal.loop-h-preserved
loop-h-preserved c =
    let i = (goal.at.loop-h-preserved c).In-loop-h in
    records_placed i.args.cuts.now.admitted i.args.nodes.now i.requires i.loop-h.invariant (i.loop-h.h - 1) (up i) c.place_cut-made.ensures

pub returns : goal.returns
returns c = records_done c.args.cuts.now.admitted c.args.nodes.now c.requires c.loop-h.invariant (let t = c.loop-h-test.false in omega arith)
