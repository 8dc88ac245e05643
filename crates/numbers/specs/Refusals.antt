-- The paper's number of each refusal, and the paper's answer that a function's result stands for.
use Rattle.std.specs.Prelude.{ℕ, Result, Ok, Err}
use Rattle.numbers.specs.Answers.{Answer, accepted, refused}
use Rattle.numbers.specs.declared.Refusal.{Refusal}
use Rattle.numbers.specs.declared.Refusal.TheVariants as refusals

unfoldable pub number : Refusal → ℕ
number refusals.Variables = 1
number refusals.Length = 2
number refusals.Value = 3
number refusals.NodeRoom = 4
number refusals.Offset = 5
number refusals.Records = 6
number refusals.Index = 7
number refusals.Limit = 8
number refusals.NoGrouping = 9
number refusals.ImageRoom = 10
number refusals.CutOff = 11
number refusals.Command = 12
number refusals.Operand = 13
number refusals.Trailing = 14
number refusals.Part = 15
number refusals.PairBits = 16
number refusals.Pair = 17
number refusals.Sum = 18
number refusals.RemainderBits = 19

unfoldable pub answer_of : {A : Type 0} → Result A Refusal → Answer A
answer_of (Ok a) = accepted a
answer_of (Err refusal) = refused (number refusal)
