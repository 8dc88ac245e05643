-- What holds of images, of Run and of Expand, for every image, card and X.
use Rattle.std.specs.Prelude.{ℕ, suc, ◌^◌, ◌≤◌, ◌<◌, ◌≡◌, ◌↔◌, length, get_or, ℤ, pos, ◌<ℤ◌}
use mathlib.Core.List.{List, [], ◌∷◌, ◌++◌, flat_map}
use Rattle.numbers.specs.Answers.{accepted, refused, map_answer}
use Rattle.numbers.specs.Conditions.{Variables, TableValue}
use Rattle.operands.specs.Bytes.{AreBytes}
use Rattle.image.specs.Cells.{Cell, Card}
use Rattle.image.specs.Commands.{command_bytes, card_commands, image_of, card_of}
use Rattle.image.specs.OlderWidths.{with_width, image_to, older_width, OlderWellFormed, WidthDisagrees, older_card, present_card}
use Rattle.image.specs.Reader.{step, start, reading, reading_for}
use Rattle.image.specs.Run.{run_card, run, card_values, expand, expand_buffer}
use Rattle.image.specs.WellFormed.{weights, WellFormed, width_of}
use Rattle.image.proofs.Laws.Cards as cards
use Rattle.image.proofs.Laws.Images as images
use Rattle.image.proofs.Laws.OlderImages as older_images
use Rattle.image.proofs.Laws.OtherWidths as other_widths
use Rattle.image.proofs.Laws.ReadingFor as reading_for_lem
use Rattle.image.proofs.Laws.Refusals as refusals
use Rattle.image.proofs.Laws.Running as running
use Rattle.image.proofs.Laws.Words as words
use Rattle.image.proofs.Laws.Written as written
use Rattle.image.specs.declared.Command.{Command}
use Rattle.image.specs.declared.Command.TheVariants as commands

-- ---- an accepted image

module _ (image : List ℕ) (commands : List Command) (read : reading image ≡ accepted commands) where
  -- It is made of its commands' bytes.
  pub accepted_bytes : AreBytes image → image ≡ flat_map command_bytes commands
  accepted_bytes = images.image_of_commands image commands read

  -- Its commands are those of one card, which keeps every rule, and the image is that card's.
  pub accepted_commands : commands ≡ card_commands (card_of commands)
  accepted_commands = images.commands_of_card image commands read

  pub accepted_card : WellFormed (card_of commands)
  accepted_card = images.card_keeps image commands read

  pub accepted_image : AreBytes image → image ≡ image_of (card_of commands)
  accepted_image = images.image_of_card image commands read

  -- Run answers at every X below 2^n, with one word read for each cell.
  pub accepted_run : (x : ℕ) → x < 2 ^ (card_of commands).n
      → (run image x ≡ accepted (run_card (card_of commands) x))
      × ((run_card (card_of commands) x).words ≡ length (card_of commands).cells)
  accepted_run x l = (words.run_of_card image commands read x l, words.card_words (card_of commands) x)

-- Two images that are read as the same commands are one.
pub same_commands : (first second : List ℕ) (commands : List Command) → AreBytes first → AreBytes second
    → reading first ≡ accepted commands → reading second ≡ accepted commands → first ≡ second
same_commands = images.one_image

-- ---- refusals

-- An image is refused with 11, 12, 13 or 14, and Run and Expand hand that on.
pub image_refused : (image : List ℕ) (k : ℕ) → reading image ≡ refused k → (11 ≤ k) × (k ≤ 14)
image_refused = refusals.reading_number

pub run_hands_on : (image : List ℕ) (k : ℕ) → reading image ≡ refused k → (x : ℕ) → run image x ≡ refused k
run_hands_on image k h x = running.run_refused image x k h

pub expand_hands_on : (image : List ℕ) (k : ℕ) → reading image ≡ refused k → (room : ℕ) → expand image room ≡ refused k
expand_hands_on image k h room = running.expand_refused image room k h

-- Run answers 7 exactly where the image is accepted and X is not below 2^n.
pub run_turns_x_away : (image : List ℕ) (x : ℕ)
    → ((commands : List Command) × (reading image ≡ accepted commands) × (2 ^ (card_of commands).n ≤ x))
    ↔ (run image x ≡ refused 7)
run_turns_x_away = refusals.run_refuses

-- Expand answers 2 exactly where the image is accepted and the buffer's length is not 2^n.
pub expand_turns_length_away : (image : List ℕ) (room : ℕ)
    → ((commands : List Command) × (reading image ≡ accepted commands) × (¬ (room ≡ 2 ^ (card_of commands).n)))
    ↔ (expand image room ≡ refused 2)
expand_turns_length_away = refusals.expand_refuses

-- ---- Expand

-- An accepted Expand leaves exactly its values in the buffer, a refused one leaves the buffer as it was.
pub expand_writes : (image : List ℕ) (buffer values : List ℤ)
    → expand image (length buffer) ≡ accepted values → expand_buffer image buffer ≡ values
expand_writes = refusals.buffer_accepted

pub expand_leaves : (image : List ℕ) (buffer : List ℤ) (k : ℕ)
    → expand image (length buffer) ≡ refused k → expand_buffer image buffer ≡ buffer
expand_leaves = refusals.buffer_refused

-- Expand's entry X is Run's value at X.
pub expand_is_run : (image : List ℕ) (room : ℕ) (values : List ℤ) → expand image room ≡ accepted values
    → (x : ℕ) → x < length values
    → map_answer (λ result. result.value) (run image x) ≡ accepted (get_or values x (pos 0))
expand_is_run = words.expand_entry

-- ---- the image of a card

-- The image of a card that keeps the rules is accepted, and read as the card's commands.
pub card_image : (card : Card) → WellFormed card → reading (image_of card) ≡ accepted (card_commands card)
card_image = written.image_read

-- A card's commands describe that card.
pub card_described : (card : Card) → card_of (card_commands card) ≡ card
card_described = cards.card_of_lem

-- Run of its image is the card's answer, Expand its values.
pub card_run : (card : Card) → WellFormed card → (x : ℕ) → x < 2 ^ card.n
    → run (image_of card) x ≡ accepted (run_card card x)
card_run = written.image_run

pub card_expand : (card : Card) → WellFormed card → expand (image_of card) (2 ^ card.n) ≡ accepted (card_values card)
card_expand = written.image_expand

-- ---- an image for a given n

module _ (n : ℕ) (image : List ℕ) where
  -- It is accepted, with the same commands, exactly where the image is accepted and has this n.
  pub read_for : (commands : List Command)
      → ((reading image ≡ accepted commands) × ((card_of commands).n ≡ n)) ↔ (reading_for n image ≡ accepted commands)
  read_for = reading_for_lem.for_accepted n image

  -- What is wrong with the first command is told as ever: no byte there, another command, operands cut off, an operand out of range.
  pub first_command_refused : (k : ℕ) → step image start ≡ refused k
      → (reading image ≡ refused k) × (reading_for n image ≡ refused k)
  first_command_refused k h = (reading_for_lem.reading_first_refused image k h, reading_for_lem.first_refused n image k h)

  -- Its refusals are the reader's.
  pub read_for_refused : (k : ℕ) → reading_for n image ≡ refused k → (11 ≤ k) × (k ≤ 14)
  read_for_refused = reading_for_lem.for_number n image

module _ (n : ℕ) (offset : ℤ) (variables : Variables n) (value : TableValue offset) (rest : List ℕ) where
  -- An image that begins with a 0x56 that keeps its rules, whatever bytes follow it, or none.
  abbrev begun : List ℕ
  begun = command_bytes (commands.Table n offset) ++ rest

  -- It is 13 for every other n than that of its 0x56.
  pub another_n_refused : (given : ℕ) → ¬ (n ≡ given) → reading_for given begun ≡ refused 13
  another_n_refused = reading_for_lem.other_n n offset variables value rest

  -- For that n it is read as ever.
  pub given_n_read_on : reading_for n begun ≡ reading begun
  given_n_read_on = reading_for_lem.own_n n offset variables value rest

-- ---- other widths

-- A cell of a card that keeps the rules is refused with 13 where it is written with another width: after its last word, whatever bytes
-- follow there.
pub other_width_refused : (card : Card) → WellFormed card
    → (before : List Cell) (cell : Cell) (after : List Cell) → card.cells ≡ before ++ cell ∷ after
    → (width : ℕ) → width < 256 → ¬ (width ≡ cell.width)
    → (rest : List ℕ) → reading (image_to card (before ++ with_width width cell ∷ []) ++ rest) ≡ refused 13
other_width_refused = other_widths.other_width

-- ---- the older rule of widths

module _ (cell : Cell) where
  -- The weights of a cell.
  abbrev own : List ℤ
  own = weights cell.words

  -- By the older rule a cell with a negative weight has the width that it has today.
  pub older_width_same : (i : ℕ) → i < length own → get_or own i (pos 0) <ℤ pos 0 → older_width cell ≡ width_of cell
  older_width_same = older_images.older_width_same cell

  -- One without has one bit more, unless its width is 0.
  pub older_width_one_more : ((j : ℕ) → j < length own → ¬ (get_or own j (pos 0) <ℤ pos 0)) → ¬ (width_of cell ≡ 0)
      → older_width cell ≡ suc (width_of cell)
  older_width_one_more = older_images.older_width_one_more cell

  -- Width 0 stays.
  pub older_width_zero : width_of cell ≡ 0 → older_width cell ≡ 0
  older_width_zero = older_images.older_width_zero cell

-- The cards of the older rule are those of the present one, with the same words and the older widths.
pub older_of_present : (card : Card) → WellFormed card
    → OlderWellFormed (older_card card) × (present_card (older_card card) ≡ card)
older_of_present card w = (older_images.older_of_card card w, older_images.present_back card w)

pub present_of_older : (card : Card) → OlderWellFormed card
    → WellFormed (present_card card) × (older_card (present_card card) ≡ card)
present_of_older card w = (older_images.present_of_card card w, older_images.older_back card w)

-- ---- older images

module _ (card : Card) (older : OlderWellFormed card) where
  -- An older good image in which some cell's width disagrees is refused with 13, by Run at every X and by Expand for every buffer.
  pub older_run_refused : WidthDisagrees card → (x : ℕ) → run (image_of card) x ≡ refused 13
  older_run_refused d x = running.run_refused (image_of card) x 13 (older_images.older_refused card older d)

  pub older_expand_refused : WidthDisagrees card → (room : ℕ) → expand (image_of card) room ≡ refused 13
  older_expand_refused d room = running.expand_refused (image_of card) room 13 (older_images.older_refused card older d)

  -- One in which none does is a good image today: its card keeps the present rules, and with these widths has the same bytes.
  module _ (agrees : ¬ WidthDisagrees card) where
    pub older_card_stays : WellFormed card
    older_card_stays = older_images.agreed_card card agrees older_width older

    pub older_image_stays : image_of (present_card card) ≡ image_of card
    older_image_stays = older_images.agreed_image card agrees

    -- So it is read, run and expanded as ever.
    pub older_image_read : reading (image_of card) ≡ accepted (card_commands card)
    older_image_read = card_image card older_card_stays

    pub older_image_runs : (x : ℕ) → x < 2 ^ card.n → run (image_of card) x ≡ accepted (run_card card x)
    older_image_runs = card_run card older_card_stays

    pub older_image_expands : expand (image_of card) (2 ^ card.n) ≡ accepted (card_values card)
    older_image_expands = card_expand card older_card_stays
