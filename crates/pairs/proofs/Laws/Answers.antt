-- The pair run's answer, check by check, and what an answer tells of its checks.
use Rattle.std.specs.Prelude.{ℕ, ◌*◌, ◌^◌, ◌<◌, ◌≡◌, refl, true, false, List, ◌++◌, ◌↔◌, leb, ltb, length, ℤ}
use Rattle.std.proofs.Common.{sym, ◌∙◌, subst, arith}
use Rattle.std.proofs.Math.Path.{ap}
use Rattle.std.proofs.lemmas.Bool.{false≢true}
use Rattle.numbers.specs.Answers.{Answer, accepted, refused, unless, and_then}
use Rattle.numbers.proofs.Laws.Answers.{not_refused, map_refused}
use Rattle.numbers.proofs.Laws.Bools.{yes_or_no}
use Rattle.numbers.proofs.Laws.Tests.{le_test, lt_test, and_test}
use Rattle.numbers.specs.Conditions.{Variables, TableValue}
use Rattle.image.specs.Commands.{command_bytes, card_of}
use Rattle.image.specs.Reader.{step, start, reading, reading_for}
use Rattle.image.specs.Run.{Result, run, run_card}
use Rattle.image.specs.Inner.Evaluation.{Accepted}
use Rattle.image.proofs.Laws.Reading.{done}
use Rattle.image.proofs.Laws.ReadingFor.{reading_first_refused, first_refused, other_n, own_n, for_accepted, for_number}
use Rattle.image.proofs.Laws.Running.{done_accepted, run_refused}
use Rattle.image.proofs.Laws.Words.{card_words, run_of_card}
use Rattle.image.specs.declared.Command.{Command}
use Rattle.image.specs.declared.Command.TheVariants.{Table}
use Rattle.pairs.specs.Pairs.{is_pair_bits, is_pair, pair_index, pair_run}
use Rattle.pairs.specs.Conditions.{PairBits, Pair, PairImage}
use Rattle.pairs.proofs.Laws.Indices.{index_below}

-- ---- the tests

pub bits_test : (m : ℕ) → (is_pair_bits m ≡ true) ↔ PairBits m
unfolding is_pair_bits
bits_test m = and_test (leb 1 m) (leb m 6) (le_test 1 m) (le_test m 6)

pub pair_test : (m x y : ℕ) → (is_pair m x y ≡ true) ↔ Pair m x y
unfolding is_pair
pair_test m x y = and_test (ltb x (2 ^ m)) (ltb y (2 ^ m)) (lt_test x (2 ^ m)) (lt_test y (2 ^ m))

-- ---- check by check

module _ (m : ℕ) (image : List ℕ) (x y : ℕ) where
  pub bits_refused : is_pair_bits m ≡ false → pair_run m image x y ≡ refused 16
  unfolding pair_run
  bits_refused b = rw b

  -- What follows where m is good, by what the image is read as.
  abbrev behind : Answer (List Command) → Answer Result
  behind read = and_then read (λ commands. unless (is_pair m x y) 17 (run image (pair_index m x y)))

  module _ (b : is_pair_bits m ≡ true) where
    bits_pass : pair_run m image x y ≡ behind (reading_for (2 * m) image)
    unfolding pair_run
    bits_pass = ap (λ t. unless t 16 (behind (reading_for (2 * m) image))) b

    pub image_refused : (k : ℕ) → reading_for (2 * m) image ≡ refused k → pair_run m image x y ≡ refused k
    image_refused k h = bits_pass ∙ ap behind h

    module _ (commands : List Command) (h : reading_for (2 * m) image ≡ accepted commands) where
      pub pair_refused : is_pair m x y ≡ false → pair_run m image x y ≡ refused 17
      pair_refused p = bits_pass ∙ ap behind h ∙ ap (λ t. unless t 17 (run image (pair_index m x y))) p

      pub pair_run_lem : is_pair m x y ≡ true → pair_run m image x y ≡ run image (pair_index m x y)
      pair_run_lem p = bits_pass ∙ ap behind h ∙ ap (λ t. unless t 17 (run image (pair_index m x y))) p

      pub run_answers : is_pair m x y ≡ true → run image (pair_index m x y) ≡ accepted (run_card (card_of commands) (pair_index m x y))
      run_answers p =
          let r = (for_accepted (2 * m) image commands).1 h in
          let inside = (pair_test m x y).0 p in
          run_of_card image commands r.0 (pair_index m x y) (subst (λ n. pair_index m x y < 2 ^ n) (sym r.1) (index_below m x y inside.0 inside.1))

      pub pair_answers : is_pair m x y ≡ true → pair_run m image x y ≡ accepted (run_card (card_of commands) (pair_index m x y))
      pair_answers p = pair_run_lem p ∙ run_answers p

  -- By what a check of the image for n = 2m says.
  module _ (b : is_pair_bits m ≡ true) where
    pub check_refuses : (k : ℕ) → done (reading_for (2 * m) image) ≡ refused k → pair_run m image x y ≡ refused k
    unfolding done
    check_refuses k h = image_refused b k (map_refused (λ commands. tt) (reading_for (2 * m) image) k h)

    module _ (h : done (reading_for (2 * m) image) ≡ accepted tt) where
      commands_read : (commands : List Command) × (reading_for (2 * m) image ≡ accepted commands)
      commands_read = done_accepted (reading_for (2 * m) image) h

      pub check_accepts : Accepted image
      check_accepts = let r = commands_read in record { commands = r.0; read = ((for_accepted (2 * m) image r.0).1 r.1).0 }

      pub checked_refused : is_pair m x y ≡ false → pair_run m image x y ≡ refused 17
      checked_refused p = pair_refused b commands_read.0 commands_read.1 p

      pub checked_run : is_pair m x y ≡ true → pair_run m image x y ≡ run image (pair_index m x y)
      checked_run p = pair_run_lem b commands_read.0 commands_read.1 p

  -- ---- by cases

  module _ (X : Answer Result → Type 0)
      (no_bits : is_pair_bits m ≡ false → X (refused 16))
      (no_image : is_pair_bits m ≡ true → (k : ℕ) → reading_for (2 * m) image ≡ refused k → X (refused k))
      (no_pair : is_pair_bits m ≡ true → (commands : List Command) → reading_for (2 * m) image ≡ accepted commands → is_pair m x y ≡ false → X (refused 17))
      (answer : is_pair_bits m ≡ true → (commands : List Command) → reading_for (2 * m) image ≡ accepted commands → is_pair m x y ≡ true → X (accepted (run_card (card_of commands) (pair_index m x y)))) where
    by_image : is_pair_bits m ≡ true → (a : Answer (List Command)) → reading_for (2 * m) image ≡ a → X (pair_run m image x y)
    by_image b (refused k) h = subst X (sym (image_refused b k h)) (no_image b k h)
    by_image b (accepted commands) h =
        yes_or_no (is_pair m x y)
        (λ p. subst X (sym (pair_answers b commands h p)) (answer b commands h p))
        (λ p. subst X (sym (pair_refused b commands h p)) (no_pair b commands h p))

    pub by_cases : X (pair_run m image x y)
    by_cases = yes_or_no (is_pair_bits m) (λ b. by_image b (reading_for (2 * m) image) refl) (λ b. subst X (sym (bits_refused b)) (no_bits b))

-- ---- what an answer tells

module _ (m : ℕ) (image : List ℕ) (x y : ℕ) where
  -- What an image tells that is read for n = 2m, and back.
  read_pairs : (commands : List Command) → reading_for (2 * m) image ≡ accepted commands → PairImage m image
  read_pairs commands h = let r = (for_accepted (2 * m) image commands).1 h in (commands, r.0, r.1)

  pairs_read : (i : PairImage m image) → reading_for (2 * m) image ≡ accepted i.0
  pairs_read i = (for_accepted (2 * m) image i.0).0 (i.1, i.2)

  -- A refusal of the image has none of the numbers above 14.
  of_image {ℓ} : {X : Type ℓ} (k : ℕ) → reading_for (2 * m) image ≡ refused k → (number : ℕ) → ◌≡◌ {A = Answer Result} (refused k) (refused number) → 14 < number → X
  of_image k h number e above = let most = (for_number (2 * m) image k h).1 in let same : k ≡ number = cc in absurd (omega arith)

  accepted_call : (r : Result) × (pair_run m image x y ≡ accepted r) → PairBits m × PairImage m image × Pair m x y
  accepted_call answered =
      by_cases m image x y (λ a. a ≡ accepted answered.0 → PairBits m × PairImage m image × Pair m x y)
      (λ b e. not_refused answered.0 16 (sym e))
      (λ b k h e. not_refused answered.0 k (sym e))
      (λ b commands h p e. not_refused answered.0 17 (sym e))
      (λ b commands h p e. ((bits_test m).0 b, read_pairs commands h, (pair_test m x y).0 p))
      answered.1

  -- The calls that are answered.
  pub accepted_calls : (PairBits m × PairImage m image × Pair m x y) ↔ ((r : Result) × (pair_run m image x y ≡ accepted r))
  accepted_calls = (
    (λ call. (_, pair_answers m image x y ((bits_test m).1 call.0) call.1.0 (pairs_read call.1) ((pair_test m x y).1 call.2))),
    accepted_call,
  )

  -- An answer is Run's, with one word read in each cell.
  pub accepted_run_answer : (r : Result) → pair_run m image x y ≡ accepted r → run image (pair_index m x y) ≡ accepted r
  accepted_run_answer r =
      by_cases m image x y (λ a. a ≡ accepted r → run image (pair_index m x y) ≡ accepted r)
      (λ b e. not_refused r 16 (sym e))
      (λ b k h e. not_refused r k (sym e))
      (λ b commands h p e. not_refused r 17 (sym e))
      (λ b commands h p e. run_answers m image x y b commands h p ∙ e)

  pub accepted_words : (r : Result) → pair_run m image x y ≡ accepted r → (commands : List Command) → reading image ≡ accepted commands → r.words ≡ length (card_of commands).cells
  accepted_words r e commands h =
      let call = accepted_call (r, e) in
      let same : call.1.0 ≡ commands = cc (sym call.1.1 ∙ h) in
      let own : (card_of commands).n ≡ 2 * m = subst (λ l. (card_of l).n ≡ 2 * m) same call.1.2 in
      let ran = run_of_card image commands h (pair_index m x y) (subst (λ n. pair_index m x y < 2 ^ n) (sym own) (index_below m x y call.2.0 call.2.1)) in
      let is : r ≡ run_card (card_of commands) (pair_index m x y) = cc (sym (accepted_run_answer r e) ∙ ran) in
      ap (λ s. s.words) is ∙ card_words (card_of commands) (pair_index m x y)

  -- The calls that are turned away by m, and those by X and Y.
  pub refused_bits : (¬ PairBits m) ↔ (pair_run m image x y ≡ refused 16)
  refused_bits = (
    (λ outside. yes_or_no (is_pair_bits m) (λ b. absurd (outside ((bits_test m).0 b))) (λ b. bits_refused m image x y b)),
    by_cases m image x y (λ a. a ≡ refused 16 → ¬ PairBits m)
        (λ b e inside. false≢true (sym b ∙ (bits_test m).1 inside))
        (λ b k h e inside. of_image k h 16 e (omega arith))
        (λ b commands h p e inside. let same : ◌≡◌ {A = ℕ} 17 16 = cc in absurd (omega arith))
        (λ b commands h p e. not_refused (run_card (card_of commands) (pair_index m x y)) 16 e),
  )

  pub refused_seventeen : (PairBits m × PairImage m image × (¬ Pair m x y)) ↔ (pair_run m image x y ≡ refused 17)
  refused_seventeen = (
    (λ call.
        yes_or_no (is_pair m x y)
        (λ p. absurd (call.2 ((pair_test m x y).0 p)))
        (λ p. pair_refused m image x y ((bits_test m).1 call.0) call.1.0 (pairs_read call.1) p)),
    by_cases m image x y (λ a. a ≡ refused 17 → PairBits m × PairImage m image × (¬ Pair m x y))
        (λ b e. let same : ◌≡◌ {A = ℕ} 16 17 = cc in absurd (omega arith))
        (λ b k h e. of_image k h 17 e (omega arith))
        (λ b commands h p e. ((bits_test m).0 b, read_pairs commands h, λ inside. false≢true (sym p ∙ (pair_test m x y).1 inside)))
        (λ b commands h p e. not_refused (run_card (card_of commands) (pair_index m x y)) 17 e),
  )

  pub not_seven : ¬ (pair_run m image x y ≡ refused 7)
  not_seven =
      by_cases m image x y (λ a. ¬ (a ≡ refused 7))
      (λ b e. let same : ◌≡◌ {A = ℕ} 16 7 = cc in absurd (omega arith))
      (λ b k h e. let r = (for_number (2 * m) image k h).0 in let same : k ≡ 7 = cc in absurd (omega arith))
      (λ b commands h p e. let same : ◌≡◌ {A = ℕ} 17 7 = cc in absurd (omega arith))
      (λ b commands h p e. not_refused (run_card (card_of commands) (pair_index m x y)) 7 e)

-- ---- by the first command

module _ (m : ℕ) (bits : PairBits m) where
  -- What is wrong with it is told as by Run.
  pub first_as_ever : (image : List ℕ) (x y k : ℕ) → step image start ≡ refused k → (run image (pair_index m x y) ≡ refused k) × (pair_run m image x y ≡ refused k)
  first_as_ever image x y k h = (run_refused image (pair_index m x y) k (reading_first_refused image k h), image_refused m image x y ((bits_test m).1 bits) k (first_refused (2 * m) image k h))

  -- Another n than 2m.
  pub other_thirteen : (n : ℕ) (offset : ℤ) → Variables n → TableValue offset → (rest : List ℕ) (x y : ℕ) → ¬ (n ≡ 2 * m) → pair_run m (command_bytes (Table n offset) ++ rest) x y ≡ refused 13
  other_thirteen n offset variables value rest x y other = image_refused m (command_bytes (Table n offset) ++ rest) x y ((bits_test m).1 bits) 13 (other_n n offset variables value rest (2 * m) other)

-- An image that begins with n = 2m is run as ever.
pub run_throughout : (m : ℕ) → PairBits m → (offset : ℤ) → TableValue offset → (rest : List ℕ) (x y : ℕ) → Pair m x y → pair_run m (command_bytes (Table (2 * m) offset) ++ rest) x y ≡ run (command_bytes (Table (2 * m) offset) ++ rest) (pair_index m x y)
unfolding Variables
run_throughout m bits offset value rest x y pair = by_reading (reading_for (2 * m) image) refl
  where
    image : List ℕ
    image = command_bytes (Table (2 * m) offset) ++ rest

    own : reading_for (2 * m) image ≡ reading image
    own = own_n (2 * m) offset (omega arith, omega arith) value rest

    by_reading : (a : Answer (List Command)) → reading_for (2 * m) image ≡ a → pair_run m image x y ≡ run image (pair_index m x y)
    by_reading (refused number) e = image_refused m image x y ((bits_test m).1 bits) number e ∙ sym (run_refused image (pair_index m x y) number (sym own ∙ e))
    by_reading (accepted commands) e = pair_run_lem m image x y ((bits_test m).1 bits) commands e ((pair_test m x y).1 pair)
