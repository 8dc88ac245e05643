-- What listing starts from and leaves: a buffer that holds every text, and a table with its planned cells.
use Rattle.std.specs.Prelude.{ℕ, ◌+◌, ◌*◌, ◌^◌, ◌≤◌, ◌≡◌, true, List, length, get_or, leb, eqb, ℤ}
use Rattle.numbers.specs.Answers.{Answer, accepted, unless}
use Rattle.diagram.specs.Accepted.{Accepted}
use Rattle.cascade.specs.declared.Cell.{Cell}
use Rattle.cascade.specs.Inner.Planned.{groups, PlannedAs}
use Rattle.listing.specs.Listing.{most_listed, is_listed}
use Rattle.listing.specs.Program.{text_room}

-- An accepted table that is listed, its planned cells, and a buffer that holds every text.
pub record TextReady (n : ℕ) (table : List ℤ) (cells : List Cell) (count bits : ℕ) (text : List ℕ) : Type 0 where
  pub few : n ≤ most_listed
  pub admitted : Accepted n table
  pub planned : PlannedAs n table (groups cells count) cells count bits
  pub room : text_room ≤ length text

-- An input's refusal by the checks on its bytes, in their order; accepted where it has as many values as n asks for.
unfoldable pub input_refusal : List ℕ → Answer Unit
input_refusal input =
    unless (leb 2 (length input)) 2
    (unless (is_listed (get_or input 0 0)) 1
    (unless (eqb (length input) (2 + 4 * 2 ^ get_or input 0 0)) 2
    (accepted tt)))

-- An input with as many values as n asks for, and a buffer that holds every text.
pub record InputCounted (input text : List ℕ) : Type 0 where
  pub inside : is_listed (get_or input 0 0) ≡ true
  pub counted : length input ≡ 2 + 4 * 2 ^ get_or input 0 0
  pub room : text_room ≤ length text
