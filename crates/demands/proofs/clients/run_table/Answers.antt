-- `clients::run_table` hands Compile's refusal on.
use Rattle.std.proofs.Common.{rules, ◌≡◌, Err}
use Rattle.demands.proofs.Laws.Clients.{run_refused}
use Rattle.demands.proofs.clients.run_table.Goals as goal

pub returns-in_err-compiled : goal.returns-in_err-compiled
returns-in_err-compiled c =
    let a = c.args in
    let refusal = c.in_err-compiled.field-0.0 in
    let handed : c.from_residual.result ≡ Err refusal = search rules in
    rw handed (run_refused a.n a.table.now a.limit a.image.now c.compile.new.image refusal c.in_err-compiled.ensures a.x)
