-- Run and Expand: the value that memories and adders give at X, and the words read for it.
use Rattle.std.specs.Prelude.{ℕ, suc, ◌+◌, ◌-◌, ◌*◌, ◌/◌, ◌%◌, ◌^◌, ◌≡◌, List, [], ◌∷◌, map, length, get_or, ltb, eqb, ℤ, pos, ◌+ℤ◌, Result as Outcome}
use Rattle.numbers.specs.Answers.{Answer, accepted, unless, map_answer, and_then, buffer_after}
use Rattle.numbers.specs.Refusals.{answer_of}
use Rattle.numbers.specs.declared.Refusal.{Refusal}
use Rattle.numbers.specs.Lists.{numbers_from}
use Rattle.image.specs.Cells.{Word, Cell, Card}
use Rattle.image.specs.Commands.{card_of}
use Rattle.image.specs.Reader.{reading}
use Rattle.image.specs.declared.Evaluated.{Evaluated}

-- A value and the number of words read for it.
pub record Result : Type 0 where
  pub value : ℤ
  pub words : ℕ

-- The word that a cell reads for an incoming class and a group value.
unfoldable pub word_at : Cell → ℕ → ℕ → Word
word_at cell class v = get_or cell.words (class * 2 ^ cell.group + v) (record { class = 0; weight = pos 0 })

-- Group value (the paper's term): the bits of X that a group takes, the top ones of the variables left.
unfoldable pub group_value : ℕ → ℕ → ℕ → ℕ
group_value left group x = x / 2 ^ (left - group) % 2 ^ group

-- From a class and a value on through the cells left, which take the low variables of X.
unfoldable pub run_from : ℕ → List Cell → ℕ → ℕ → Result → Result
run_from left [] x class result = result
run_from left (cell ∷ cells) x class result =
    let word = word_at cell class (group_value left cell.group x) in
    run_from (left - cell.group) cells x word.class (record { value = result.value +ℤ word.weight; words = suc result.words })

-- The card's answer at X: from the offset and class 0.
unfoldable pub run_card : Card → ℕ → Result
run_card card x = run_from card.n card.cells x 0 (record { value = card.offset; words = 0 })

-- Run's answer: the image is checked whole, then X.
unfoldable pub run : List ℕ → ℕ → Answer Result
run image x = and_then (reading image) (λ commands. unless (ltb x (2 ^ (card_of commands).n)) 7 (accepted (run_card (card_of commands) x)))

-- Run's value at every X, in order.
unfoldable pub card_values : Card → List ℤ
card_values card = map (λ x. (run_card card x).value) (numbers_from 0 (2 ^ card.n))

-- Expand's answer for a table buffer of so many numbers: the values, or a refusal.
unfoldable pub expand : List ℕ → ℕ → Answer (List ℤ)
expand image room = and_then (reading image) (λ commands. unless (eqb room (2 ^ (card_of commands).n)) 2 (accepted (card_values (card_of commands))))

-- What the lent table buffer holds after Expand.
unfoldable pub expand_buffer : List ℕ → List ℤ → List ℤ
expand_buffer image buffer = buffer_after (expand image (length buffer)) (λ values. values) buffer

-- The paper's answer that an evaluation stands for, and that a result stands for.
unfoldable pub result_of : Evaluated → Result
result_of evaluated = record { value = evaluated.value; words = evaluated.words }

unfoldable pub ran : Outcome Evaluated Refusal → Answer Result
ran result = map_answer result_of (answer_of result)

-- Expand's answer and the table buffer, before and after.
pub record Expands (image : List ℕ) (buffer : List ℤ) (r : Outcome (Unit {0}) Refusal) (after : List ℤ) : Type 0 where
  pub answer : answer_of r ≡ map_answer (λ values. tt) (expand image (length buffer))
  pub written : after ≡ expand_buffer image buffer
