-- The pair run: that each pair has an index of its own, which calls are answered, as Run does at that index, and what turns the others
-- away.
use Rattle.std.specs.Prelude.{ℕ, ◌*◌, ◌/◌, ◌%◌, ◌^◌, ◌<◌, ◌≡◌, List, ◌++◌, ◌↔◌, length, ℤ}
use Rattle.numbers.specs.Answers.{accepted, refused}
use Rattle.numbers.specs.Conditions.{Variables, TableValue}
use Rattle.image.specs.Commands.{command_bytes, card_of}
use Rattle.image.specs.Reader.{step, start, reading, reading_for}
use Rattle.image.specs.Run.{Result, run}
use Rattle.image.specs.declared.Command.{Command}
use Rattle.image.specs.declared.Command.TheVariants.{Table}
use Rattle.pairs.specs.Pairs.{pair_index, pair_run}
use Rattle.pairs.specs.Conditions.{PairBits, Pair, PairImage}
use Rattle.pairs.proofs.Laws.Answers as answers
use Rattle.pairs.proofs.Laws.Indices as indices

-- ---- the index of a pair

-- X of m bits and Y of m bits have an index of 2m bits.
pub index_inside : (m x y : ℕ) → Pair m x y → pair_index m x y < 2 ^ (2 * m)
index_inside m x y pair = indices.index_below m x y pair.0 pair.1

-- Its upper m bits are X, its lower m bits are Y, so no two pairs have one index.
pub index_tells : (m x y : ℕ) → y < 2 ^ m → (pair_index m x y / 2 ^ m ≡ x) × (pair_index m x y % 2 ^ m ≡ y)
index_tells m x y h = (indices.index_row m x y h, indices.index_column m x y h)

-- Every number of 2m bits is the index of a pair.
pub index_of_some : (m z : ℕ) → z < 2 ^ (2 * m) → (x : ℕ) × (y : ℕ) × Pair m x y × (pair_index m x y ≡ z)
index_of_some = indices.index_of_some

-- ---- which calls are answered

module _ (m : ℕ) (image : List ℕ) (x y : ℕ) where
  -- Exactly those with m from 1 to 6, an accepted image whose n is 2m, and X and Y below 2^m.
  pub pair_run_accepts : (PairBits m × PairImage m image × Pair m x y)
      ↔ ((r : Result) × (pair_run m image x y ≡ accepted r))
  pair_run_accepts = answers.accepted_calls m image x y

  module _ (r : Result) (answered : pair_run m image x y ≡ accepted r) where
    -- The answer is Run's at the pair's index, words read included.
    pub pair_run_is_run : run image (pair_index m x y) ≡ accepted r
    pair_run_is_run = answers.accepted_run_answer m image x y r answered

    -- One word is read in each cell.
    pub pair_run_words : (commands : List Command) → reading image ≡ accepted commands
        → r.words ≡ length (card_of commands).cells
    pair_run_words = answers.accepted_words m image x y r answered

-- ---- what turns the others away

module _ (m : ℕ) (image : List ℕ) (x y : ℕ) where
  -- 16 exactly where m is not 1 to 6, whatever the image, X and Y.
  pub sixteen_first : (¬ PairBits m) ↔ (pair_run m image x y ≡ refused 16)
  sixteen_first = answers.refused_bits m image x y

  module _ (bits : PairBits m) where
    -- Then what reading the image for n = 2m finds, whatever X and Y.
    pub image_next : (k : ℕ) → reading_for (2 * m) image ≡ refused k → pair_run m image x y ≡ refused k
    image_next = answers.image_refused m image x y ((answers.bits_test m).1 bits)

    -- What is wrong with its first command is told as by Run.
    pub first_command_as_ever : (k : ℕ) → step image start ≡ refused k
        → (run image (pair_index m x y) ≡ refused k) × (pair_run m image x y ≡ refused k)
    first_command_as_ever = answers.first_as_ever m bits image x y

  -- 17, in the place of 7, exactly where all that is good and X or Y is not below 2^m.
  pub seventeen_last : (PairBits m × PairImage m image × (¬ Pair m x y)) ↔ (pair_run m image x y ≡ refused 17)
  seventeen_last = answers.refused_seventeen m image x y

  pub never_seven : ¬ (pair_run m image x y ≡ refused 7)
  never_seven = answers.not_seven m image x y

module _ (m : ℕ) (bits : PairBits m) (offset : ℤ) (value : TableValue offset) (rest : List ℕ) (x y : ℕ) where
  -- An image that begins with a 0x56 with this n, whatever bytes follow it, or none.
  abbrev begun : ℕ → List ℕ
  begun n = command_bytes (Table n offset) ++ rest

  -- With another n than 2m it is 13, whatever X and Y.
  pub another_n_is_thirteen : (n : ℕ) → Variables n → ¬ (n ≡ 2 * m) → pair_run m (begun n) x y ≡ refused 13
  another_n_is_thirteen n variables = answers.other_thirteen m bits n offset variables value rest x y

  -- With 2m the answer at a pair is Run's at its index, refusals included.
  pub as_run_throughout : Pair m x y → pair_run m (begun (2 * m)) x y ≡ run (begun (2 * m)) (pair_index m x y)
  as_run_throughout = answers.run_throughout m bits offset value rest x y
