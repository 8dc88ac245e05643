-- The image of a card that keeps the rules is read back, run and expanded.
use Rattle.std.specs.Prelude.{ℕ, suc, ◌^◌, ◌<◌, ◌≡◌, length}
use Rattle.std.proofs.Math.Path.{refl}
use Rattle.std.proofs.Common.{sym, subst, arith}
use borrow.Author.Tests.{eq-eqb}
use Rattle.numbers.specs.Answers.{accepted}
use Rattle.image.specs.Cells.{Card}
use Rattle.image.specs.Commands.{card_commands, image_of}
use Rattle.image.specs.Reader.{reading, start}
use Rattle.image.specs.Run.{run_card, run, card_values, expand}
use Rattle.image.specs.WellFormed.{WellFormed}
use Rattle.image.proofs.Laws.Cards.{card_allowed, card_of_lem}
use Rattle.image.proofs.Laws.Held.{card_holds}
use Rattle.image.proofs.Laws.Images.{bytes_standing}
use Rattle.image.proofs.Laws.Standing.{Standing, reading_back, standing_count}
use Rattle.image.proofs.Laws.Words.{run_of_card}

module _ (card : Card) (w : WellFormed card) where
  image_stands : Standing (image_of card) 0 (card_commands card)
  unfolding image_of
  image_stands = bytes_standing (image_of card) 0 (card_commands card) (card_holds card w) (omega arith) refl

  pub image_read : reading (image_of card) ≡ accepted (card_commands card)
  unfolding reading start
  image_read =
      reading_back (image_of card) start (card_commands card) (card_allowed card w) image_stands (suc (length (image_of card)))
      (let c = standing_count (image_of card) 0 (card_commands card) image_stands in omega arith)

  -- Run of a card's image is the card's answer.
  pub image_run : (x : ℕ) → x < 2 ^ card.n → run (image_of card) x ≡ accepted (run_card card x)
  image_run x h =
      subst (λ k. run (image_of card) x ≡ accepted (run_card k x)) (card_of_lem card)
      (run_of_card (image_of card) (card_commands card) image_read x (subst (λ k. x < 2 ^ k.n) (sym (card_of_lem card)) h))

  -- Expand of it gives the card's values.
  pub image_expand : expand (image_of card) (2 ^ card.n) ≡ accepted (card_values card)
  unfolding expand
  image_expand = rw (image_read, card_of_lem card, eq-eqb (2 ^ card.n) (2 ^ card.n) refl)
