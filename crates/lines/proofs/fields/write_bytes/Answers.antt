-- `fields::write_bytes` meets its contract.
use Rattle.std.proofs.Common.{◌+◌, ◌-◌, ◌∙◌, length, refl, ap, arith}
use Rattle.numbers.specs.Lists.{overwritten}
use Rattle.numbers.proofs.Laws.Overwriting.{part_back}
use Rattle.lines.proofs.fields.write_bytes.Goals as goal

pub returns : goal.returns
returns c =
    let a = c.args in
    let new = c.copy_from_slice.ensures.after in
    record {
      behind = refl;
      written = part_back a.text.now a.at c.copy_from_slice.new.self (a.at + length a.bytes.now - a.at) (let e = ap length new in omega arith) ∙ ap (overwritten a.text.now a.at) new;
    }
