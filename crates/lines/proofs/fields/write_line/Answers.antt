-- `fields::write_line` meets its contract: the word, and the numbers behind it.
use Rattle.std.proofs.Common.{length-append, arith}
use Rattle.lines.specs.Text.{fields}
use Rattle.lines.proofs.Laws.Writing.{writes_behind}
use Rattle.lines.proofs.fields.write_line.Goals as goal

pub returns : goal.returns
returns c =
    let p = c.requires in
    let whole = length-append c.args.word.now (fields c.args.numbers.now) in
    writes_behind c.write_bytes-next.ensures (omega arith) c.write_fields.ensures
