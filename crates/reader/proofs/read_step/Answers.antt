-- `reader::read_step` meets its contract: the command that is judged is the one that is due.
use Rattle.std.proofs.Common.{arith, sym, ◌∙◌, ap}
use Rattle.std.proofs.lemmas.Grind.{common_steps}
use Rattle.image.specs.Inner.Kinds.{due_of, kind_of}
use Rattle.image.proofs.Laws.Steps.{command_kind}
use Rattle.reader.proofs.read_step.Goals as goal

pub judge-requires : goal.judge-requires
judge-requires c =
    let kind = command_kind (due_of c.due_kind-kind.result) c.args.image.now c.args.place.at in
    record {
      bounds = c.requires;
      allowed = sym (ap kind_of c.command_at.ensures.0 ∙ kind ∙ c.due_kind-kind.ensures);
      width = c.command_at.ensures.1;
      room = grind (arith, common_steps);
    }
