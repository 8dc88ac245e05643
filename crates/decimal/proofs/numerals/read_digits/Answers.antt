-- `numerals::read_digits` meets its contract. The loop's invariant: the digits so far, and those that are left.
use Rattle.std.proofs.Common.{◌≡◌, ◌-◌, sym, ◌∙◌, ap, arith, ℕ, List, length, take, drop, take_all, length-drop, eqb-true}
use Rattle.std.proofs.lemmas.Bool.{eqb-false}
use Rattle.lines.specs.Reading.{is_digit}
use Rattle.decimal.specs.Inner.Numbers.{small_number}
use Rattle.decimal.proofs.Laws.Numbers.{no_digits, digits_start, digit_read, other_byte, digit_too_many, digits_read}
use Rattle.decimal.proofs.numerals.read_digits.Goals as goal
use Rattle.decimal.proofs.numerals.read_digits.Goals.{After-is_empty}

-- The digits from the place on.
module _ (c : After-is_empty) where
  abbrev digits : List ℕ
  digits = take (length c.args.word.now - c.args.start) (drop c.args.start c.args.word.now)

  same : small_number digits ≡ small_number (drop c.args.start c.args.word.now)
  same = ap small_number (take_all _ _ (let l = length-drop c.args.start c.args.word.now in omega arith))

pub returns-then-is_empty : goal.returns-then-is_empty
returns-then-is_empty c =
    let d = (goal.at.returns-then-is_empty c).After-is_empty in
    sym (no_digits (digits d) 0 (let none = eqb-true _ 0 (sym c.if-is_empty.ensures) in omega arith)) ∙ same d

pub loop-byte-init : goal.loop-byte-init
loop-byte-init c = digits_start _ 0 (omega arith)

pub returns-then-not-is_ascii_digit : goal.returns-then-not-is_ascii_digit
unfolding is_digit
returns-then-not-is_ascii_digit c =
    let d = (goal.at.returns-then-not-is_ascii_digit c).After-is_empty in
    sym (other_byte (digits d) 0 c.loop-byte.invariant c.loop-byte-test.true (sym c.if-not-is_ascii_digit.ensures.value)) ∙ same d

pub returns-then-value-gt2147483648 : goal.returns-then-value-gt2147483648
returns-then-value-gt2147483648 c =
    let d = (goal.at.returns-then-value-gt2147483648 c).After-is_empty in
    sym (digit_too_many (digits d) 0 c.loop-byte.invariant c.loop-byte-test.true c.if-value-gt2147483648.true) ∙ same d

pub loop-byte-preserved : goal.loop-byte-preserved
unfolding is_digit
loop-byte-preserved c = digit_read _ 0 c.loop-byte.invariant c.loop-byte-test.true (sym c.if-not-is_ascii_digit.ensures.value) c.if-value-gt2147483648.false

pub returns : goal.returns
returns c =
    let d = (goal.at.returns c).After-is_empty in
    let some = eqb-false _ 0 (sym c.if-is_empty.ensures) in
    sym (digits_read (digits d) 0 c.loop-byte.invariant (omega arith) c.loop-byte-test.false) ∙ same d
