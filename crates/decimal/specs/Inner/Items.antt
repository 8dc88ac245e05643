-- What comes next in a text, and the numbers of its first line.
use Rattle.std.specs.Prelude.{ℕ, ◌+◌, true, false, ◌&&◌, List, take, drop, eqb, ℤ, Option, Some, None, Result, Ok, Err}
use Rattle.std.specs.Int.Signed.{mag}
use Rattle.numbers.specs.Ranges.{within}
use Rattle.decimal.specs.declared.Position.{Position}
use Rattle.decimal.specs.declared.Item.{Item}
use Rattle.decimal.specs.declared.NoNumber.{NoNumber}
use Rattle.decimal.specs.declared.Heading.{Heading}
use Rattle.decimal.specs.Inner.Positions.{skipped, word_length}
use Rattle.decimal.specs.Inner.Numbers.{word_number}

-- The bytes of the word that starts at a place, and the place behind it.
unfoldable pub word_there : List ℕ → Position → List ℕ
word_there text place = take (word_length (drop place.at text)) (drop place.at text)

unfoldable pub word_behind : List ℕ → Position → Position
word_behind text place = record { at = place.at + word_length (drop place.at text); line = place.line }

-- A word's item, by its number.
unfoldable pub word_item : Option ℤ → Position → Result Item NoNumber
word_item (Some number) behind = Ok (record { number = number; line = behind.line; at = behind.at })
word_item None behind = Err (record { line = behind.line })

-- The item that starts at a place. At the end of the text the word is empty, and no number.
unfoldable pub item_there : List ℕ → Position → Result Item NoNumber
item_there text place = word_item (word_number (word_there text place)) (word_behind text place)

-- The first item from a place on.
unfoldable pub item_at : List ℕ → Position → Result Item NoNumber
item_at text place = item_there text (skipped text place)

-- An item that is a number in a range on the first line.
unfoldable pub heading_of : ℤ → ℤ → Result Item NoNumber → Option Heading
heading_of low high (Ok item) = elim (eqb item.line 1 && within low high item.number) [ true ↦ Some (record { number = mag item.number; at = item.at }) | false ↦ None ]
heading_of low high (Err none) = None

unfoldable pub heading_at : List ℕ → ℕ → ℤ → ℤ → Option Heading
heading_at text at low high = heading_of low high (item_at text (record { at = at; line = 1 }))
