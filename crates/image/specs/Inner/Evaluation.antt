-- How an accepted image is evaluated: in place, a cell at a time, by the words at their offsets.
use Rattle.std.specs.Prelude.{ℕ, ◌+◌, ◌-◌, ◌*◌, ◌/◌, ◌%◌, ◌^◌, ◌≤◌, ◌<◌, ◌≡◌, List, [], map, length, get_or, ℤ, pos, ◌+ℤ◌}
use Rattle.std.specs.Int.Signed.{mag}
use Rattle.numbers.specs.Answers.{Answer, accepted, refused}
use Rattle.numbers.specs.Lists.{numbers_from}
use Rattle.numbers.specs.Ranges.{most_variables}
use Rattle.operands.specs.Bytes.{unsigned_at, signed_at}
use Rattle.image.specs.Cells.{Card}
use Rattle.image.specs.Commands.{table_size, cell_size, word_size, card_of}
use Rattle.image.specs.Reader.{most_classes, reading}
use Rattle.image.specs.Run.{Result, group_value, run_card}
use Rattle.image.specs.declared.Command.{Command}
use Rattle.image.specs.declared.Progress.{Progress}

-- An image that is accepted, with its commands.
pub record Accepted (image : List ℕ) : Type 0 where
  pub commands : List Command
  pub read : reading image ≡ accepted commands

-- The card of an accepted image.
unfoldable pub card_in : Answer (List Command) → Card
card_in (accepted commands) = card_of commands
card_in (refused number) = card_of []

unfoldable pub card_read : List ℕ → Card
card_read image = card_in (reading image)

-- What the cells so far gave.
unfoldable pub result_so_far : Progress → Result
result_so_far progress = record { value = progress.value; words = progress.words }

-- Before the first cell: behind the table command, with its offset and class 0.
unfoldable pub first_progress : List ℕ → Progress
first_progress image = record { at = table_size; left = unsigned_at image 1 1; class = 0; value = signed_at image 2; words = 0 }

-- The group of the cell at a place, as its byte says.
unfoldable pub group_at : List ℕ → ℕ → ℕ
group_at image at = unsigned_at image (at + 1) 1

-- Where the words of the cell at a place begin.
unfoldable pub first_word : ℕ → ℕ
first_word at = at + cell_size

-- Where the word for a class and a group value stands, in a cell whose words begin at a place.
unfoldable pub word_place : ℕ → ℕ → ℕ → ℕ → ℕ
word_place words group class v = words + word_size * (class * 2 ^ group + v)

-- Behind the last word of the cell at a place.
unfoldable pub next_place : List ℕ → ℕ → ℕ
next_place image at = word_place (first_word at) (group_at image at) (unsigned_at image (at + 2) 2) 0

-- Where the word for X stands in the cell ahead.
unfoldable pub word_ahead : List ℕ → ℕ → Progress → ℕ
word_ahead image x progress =
    let group = group_at image progress.at in
    word_place (first_word progress.at) group progress.class (group_value progress.left group x)

-- After the cell ahead: its word's class is taken, and its weight added.
unfoldable pub cell_read : List ℕ → ℕ → Progress → Progress
cell_read image x progress = record {
  at = next_place image progress.at;
  left = progress.left - group_at image progress.at;
  class = unsigned_at image (word_ahead image x progress + 1) 2;
  value = progress.value +ℤ signed_at image (word_ahead image x progress + 3);
  words = progress.words + 1;
}

-- A cell stands at a place, with no more variables than are left, and its words are all there.
pub record CellThere (image : List ℕ) (left at : ℕ) : Type 0 where
  pub few : left ≤ most_variables
  pub some : 1 ≤ group_at image at
  pub inside : group_at image at ≤ left
  pub next : next_place image at ≤ length image

-- A cell lies ahead, with the word for X, and the sum stays small.
pub record CellAhead (image : List ℕ) (x : ℕ) (progress : Progress) : Type 0 where
  pub there : CellThere image progress.left progress.at
  pub word : word_ahead image x progress + word_size ≤ length image
  pub small : mag (progress.value +ℤ signed_at image (word_ahead image x progress + 3)) < 2147483648
  pub words : progress.words < most_variables

-- ---- all blocks of a cut at once

-- Where evaluation at X stands, by rows of the class and the value of each block of the cut reached.
unfoldable pub at_block : ℕ → ℕ → ℕ → List ℕ → List ℤ → ℕ → Progress
at_block at left words classes values x = record {
  at = at;
  left = left;
  class = get_or classes (x / 2 ^ left) 0;
  value = get_or values (x / 2 ^ left) (pos 0);
  words = words;
}

-- Block y of the cut below a cell is one of the 2^group parts of a block of the cut above it. Where its word stands, by the class of
-- that block in the row of them all.
unfoldable pub block_word : ℕ → ℕ → List ℕ → ℕ → ℕ
block_word words group classes y = word_place words group (get_or classes (y / 2 ^ group) 0) (y % 2 ^ group)

-- Its class and its value.
unfoldable pub block_class : List ℕ → ℕ → ℕ → List ℕ → ℕ → ℕ
block_class image words group classes y = unsigned_at image (block_word words group classes y + 1) 2

unfoldable pub block_value : List ℕ → ℕ → ℕ → List ℕ → List ℤ → ℕ → ℤ
block_value image words group classes values y =
    get_or values (y / 2 ^ group) (pos 0) +ℤ signed_at image (block_word words group classes y + 3)

-- The classes and the values of the first so many of these blocks, in rows.
unfoldable pub classes_below : List ℕ → ℕ → ℕ → ℕ → List ℕ → List ℕ
classes_below image words group count classes = map (block_class image words group classes) (numbers_from 0 count)

unfoldable pub values_below : List ℕ → ℕ → ℕ → ℕ → List ℕ → List ℤ → List ℤ
values_below image words group count classes values = map (block_value image words group classes values) (numbers_from 0 count)

-- The words of all blocks of the cut below a cell are there, the rows have room for these blocks, and the sums stay small.
pub record BlocksBelow (image : List ℕ) (words group count : ℕ) (classes : List ℕ) (values : List ℤ) : Type 0 where
  pub few : group ≤ most_variables
  pub class_row : length classes ≡ most_classes
  pub class_room : count ≤ length classes
  pub value_room : count ≤ length values
  pub there : (y : ℕ) → y < count → block_word words group classes y + word_size ≤ length image
  pub small : (y : ℕ) → y < count → mag (block_value image words group classes values y) < 2147483648

-- Run's values at the first so many X.
unfoldable pub values_to : Card → ℕ → List ℤ
values_to card count = map (λ x. (run_card card x).value) (numbers_from 0 count)
