-- `records::write_record` meets its contract: its numbers are copied into their places.
use Rattle.std.proofs.Common.{◌≡◌, ◌+◌, ◌-◌, ◌*◌, length, refl, ap, ◌∙◌, arith, rules, w32, to_z-of_z}
use mir.Facts.{to_z_pos}
use Rattle.numbers.specs.Lists.{overwritten}
use Rattle.numbers.proofs.Laws.Overwriting.{part_back}
use Rattle.diagram.specs.Records.{record_size, record_numbers}
use Rattle.diagram.proofs.records.write_record.Goals as goal

pub returns : goal.returns
unfolding record_size record_numbers
returns c =
    let a = c.args in
    let f = a.fork in
    let r = a.range in
    let at = 6 * a.made in
    let small = c.requires.variable_bound in
    let numbers : c.copy_from_slice.new.self ≡ record_numbers (record { variable = a.variable; low = f.low; high = f.high; weight = f.weight; least = r.least; greatest = r.greatest }) =
    c.copy_from_slice.ensures.after
    ∙ rw (
      to_z_pos w32 {n = a.variable} (omega arith),
      to_z_pos w32 {n = f.low} (omega arith),
      to_z_pos w32 {n = f.high} (omega arith),
      to_z-of_z {w = w32} {z = f.weight} (record { sfits = search rules }),
      to_z-of_z {w = w32} {z = r.least} (record { sfits = search rules }),
      to_z-of_z {w = w32} {z = r.greatest} (record { sfits = search rules }),
    ) refl in
    part_back a.nodes.now at c.copy_from_slice.new.self (at + 6 - at) (let e = ap length numbers in omega arith) ∙ ap (overwritten a.nodes.now at) numbers
