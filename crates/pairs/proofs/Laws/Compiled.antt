-- The pair run on what Compile left of a table over 2m variables.
use Rattle.std.specs.Prelude.{ℕ, ◌*◌, ◌≤◌, ◌≡◌, refl, true, false, List, length, ℤ}
use Rattle.std.proofs.Math.Path.{sym, ap}
use Rattle.std.proofs.Common.{◌∙◌, arith}
use Rattle.std.proofs.lemmas.Bool.{false≢true}
use Rattle.numbers.specs.Answers.{accepted, refused}
use Rattle.numbers.specs.Conditions.{Limit}
use Rattle.numbers.proofs.Laws.Bools.{yes_or_no}
use Rattle.numbers.specs.Ranges.{is_variables}
use Rattle.image.specs.Commands.{card_of}
use Rattle.image.specs.Reader.{reading_for}
use Rattle.image.proofs.Laws.ReadingFor.{for_accepted}
use Rattle.image.specs.declared.Command.{Command}
use Rattle.diagram.proofs.Laws.Checks.{variables_range}
use Rattle.diagram.specs.Accepted.{Accepted}
use Rattle.cascade.specs.Groupings.{BestGrouping, is_grouping, fits}
use Rattle.cascade.specs.Compile.{image_for, ImageSummary, compile_answer, compile_buffer, compiled_image}
use Rattle.cascade.proofs.Theorems.{compiled_chosen, compiled_runs, compiled_bits, compile_gives}
use Rattle.pairs.specs.Pairs.{is_pair_bits, is_pair, pair_index, pair_run}
use Rattle.pairs.specs.Conditions.{PairBits, Pair}
use Rattle.pairs.proofs.Laws.Indices.{index_below}
use Rattle.pairs.proofs.Laws.Answers.{bits_test, pair_test, pair_refused, pair_run_lem}
use Rattle.pairs.specs.PairTables.{entry_at, Symmetric, CompilesPairs}

-- 2m is a number of variables only where m is a number of bits of a pair.
pub bits_of_variables : (m : ℕ) → is_variables (2 * m) ≡ true → PairBits m
bits_of_variables m h =
    let range = variables_range (2 * m) h in
    let some = range.0 in
    let most = range.1 in
    (omega arith, omega arith)

module _ (m : ℕ) (table : List ℤ) (limit : ℕ) (buffer : List ℕ) (r : ImageSummary) (compiled : compile_answer (2 * m) table limit (length buffer) ≡ accepted r) where
  abbrev image : List ℕ
  image = compiled_image r (compile_buffer (2 * m) table limit buffer)

  pub compiled_bits_of_pair : PairBits m
  compiled_bits_of_pair = bits_of_variables m (compiled_chosen (2 * m) table limit buffer r compiled).0.variables

  bits : is_pair_bits m ≡ true
  bits = (bits_test m).1 compiled_bits_of_pair

  compiled_read : (commands : List Command) × (reading_for (2 * m) image ≡ accepted commands)
  unfolding card_of
  compiled_read = let b = compiled_bits (2 * m) table limit buffer r compiled in (_, (for_accepted (2 * m) image _).0 (b.1, refl))

  module _ (x y : ℕ) where
    pub compiled_entry : Pair m x y → pair_run m image x y ≡ accepted (record { value = entry_at m table x y; words = r.planned.cells })
    unfolding entry_at
    compiled_entry p =
        pair_run_lem m image x y bits compiled_read.0 compiled_read.1 ((pair_test m x y).1 p)
        ∙ compiled_runs (2 * m) table limit buffer r compiled (pair_index m x y) (index_below m x y p.0 p.1)

    pub compiled_outside : is_pair m x y ≡ false → pair_run m image x y ≡ refused 17
    compiled_outside p = pair_refused m image x y bits compiled_read.0 compiled_read.1 p

  -- Exchanged within a symmetric table.
  module _ (symmetric : Symmetric m table) where
    exchanged_inside : (x y : ℕ) → Pair m x y → pair_run m image x y ≡ pair_run m image y x
    unfolding Symmetric
    exchanged_inside x y p =
        compiled_entry x y p
        ∙ ap (λ v. accepted (record { value = v; words = r.planned.cells })) (symmetric x y p.0 p.1)
        ∙ sym (compiled_entry y x (p.1, p.0))

    -- A pair outside is outside when exchanged.
    outside : (x y : ℕ) → is_pair m x y ≡ false → is_pair m y x ≡ false
    outside x y p = yes_or_no (is_pair m y x) (λ q. let i = (pair_test m y x).0 q in absurd (false≢true (sym p ∙ (pair_test m x y).1 (i.1, i.0)))) (λ q. q)

    pub compiled_exchanged : (x y : ℕ) → pair_run m image x y ≡ pair_run m image y x
    compiled_exchanged x y =
        yes_or_no (is_pair m x y)
        (λ p. exchanged_inside x y ((pair_test m x y).0 p))
        (λ p. compiled_outside x y p ∙ sym (compiled_outside y x (outside x y p)))

-- Where some grouping fits, Compile gives an image into every buffer that is no shorter, and on it every pair its entry.
pub every_pair : (m : ℕ) (table : List ℤ) → Accepted (2 * m) table → (limit : ℕ) → Limit limit → (sizes : List ℕ) → is_grouping (2 * m) sizes ≡ true → fits (2 * m) table limit sizes ≡ true → (best : List ℕ) × BestGrouping (2 * m) table limit best × ((buffer : List ℕ) → length (image_for (2 * m) table best) ≤ length buffer → CompilesPairs m table limit buffer (length best))
every_pair m table admitted limit l sizes grouping fit =
    let given = compile_gives (2 * m) table admitted limit l sizes grouping fit in (
      given.0,
      given.1,
      λ buffer room.
          let left = given.2 buffer room in
          record {
            summary = left.0;
            compiled = left.1;
            entries = λ x y p. compiled_entry m table limit buffer left.0 left.1 x y p ∙ ap (λ words. accepted (record { value = entry_at m table x y; words = words })) left.3;
          },
    )
