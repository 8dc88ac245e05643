-- `reader::check` meets its contract. The loop's invariant: the steps from the place on decide.
use Rattle.std.proofs.Common.{◌≡◌, arith, sym, subst}
use Rattle.std.proofs.lemmas.Grind.{common_steps}
use Rattle.numbers.specs.Answers.{accepted}
use Rattle.numbers.specs.Refusals.{answer_of, number}
use Rattle.operands.specs.Bytes.{AreBytes}
use Rattle.image.specs.Reader.{step, start}
use Rattle.image.proofs.Laws.Reading.{Checking, done, checking_start, checking_refused, checking_last, checking_on, step_moves}
use Rattle.image.proofs.Laws.Steps.{step_accepted}
use Rattle.reader.proofs.check.Goals as goal
use Rattle.reader.proofs.check.Goals.{In_ok-command}

-- What a step read.
step_read : (c : In_ok-command) → step c.args.image.now c.loop-command.place ≡ accepted (c.in_ok-command.command, c.in_ok-command.next)
unfolding answer_of
step_read c = sym c.in_ok-command.ensures

pub loop-command-init : goal.loop-command-init
unfolding start
loop-command-init c =
    let begins : start ≡ c.default-place.result = grind (arith, common_steps) in
    subst (Checking c.args.image.now) begins (checking_start c.args.image.now)

pub returns-in_err-command : goal.returns-in_err-command
unfolding answer_of done
returns-in_err-command c =
    let l = c.loop-command in
    let first = checking_refused c.args.image.now l.place (number c.in_err-command.field-0.0) l.invariant (sym c.in_err-command.ensures) in
    grind (arith, common_steps)

pub returns-then-is_end : goal.returns-then-is_end
unfolding answer_of done
returns-then-is_end c =
    let l = c.loop-command in
    let read = c.in_ok-command in
    sym (checking_last c.args.image.now l.place read.command read.next l.invariant (step_read (goal.at.returns-then-is_end c).In_ok-command) (sym c.if-is_end.ensures))

pub loop-command-smaller : goal.loop-command-smaller
loop-command-smaller c =
    let l = c.loop-command in
    let read = c.in_ok-command in
    let moved = step_moves c.args.image.now l.place read.command read.next (step_accepted c.args.image.now l.place read.command read.next (step_read (goal.at.loop-command-smaller c).In_ok-command)) in
    let on = moved.0 in
    let within = moved.1 in
    omega arith

pub loop-command-preserved : goal.loop-command-preserved
unfolding AreBytes
loop-command-preserved c =
    let l = c.loop-command in
    let read = c.in_ok-command in
    checking_on c.args.image.now l.place read.command read.next (λ i. (c.type_inv.image i).fits) l.invariant (step_read (goal.at.loop-command-preserved c).In_ok-command) (sym c.if-is_end.ensures)
