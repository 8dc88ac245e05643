-- The weight width of a cell by the words of the paper: without a negative weight, with one, and where every weight is 0.
use Prim.Native.Nat.{ℕ, suc, ◌^◌, ◌≤◌, ◌<◌}
use Rattle.std.specs.Prelude.{◌≡◌, ◌↔◌, true, false, List, length, get_or, ℤ, pos, ◌≤ℤ◌, ◌<ℤ◌}
use Rattle.std.proofs.Common.{sym, ◌∙◌}
use Rattle.std.proofs.Math.Path.{ap}
use Rattle.std.proofs.Math.Logic.Iff
use Rattle.std.specs.Int.Signed.{non_neg, clash_ℤ}
use Rattle.numbers.specs.Lists.{every}
use Rattle.numbers.specs.Ranges.{eq_z}
use Rattle.numbers.specs.Widths.{holds, holds_unsigned, least_width, none_negative, weight_width}
use Rattle.numbers.proofs.Laws.BitLength.{unsigned_length, complement_length}
use Rattle.numbers.proofs.Laws.Lists.{every_at, every_from}
use Rattle.numbers.proofs.Laws.Tests.{less_test, same_test, fails_test, non_negative_test, every_test}
use Rattle.numbers.proofs.Laws.Widths.{unsigned_width_holds, unsigned_width_least, signed_width, signed_width_holds, signed_width_least, weight_width_zero}

module _ (weights : List ℤ) where
  -- Weight j of the cell.
  abbrev weight : ℕ → ℤ
  weight j = get_or weights j (pos 0)

  none_test : (none_negative weights ≡ true) ↔ ((j : ℕ) → j < length weights → pos 0 ≤ℤ weight j)
  unfolding none_negative
  none_test = every_test non_neg weights (pos 0) non_negative_test

  below_test : (a : ℕ) → (every (holds_unsigned a) weights ≡ true) ↔ ((j : ℕ) → j < length weights → weight j <ℤ pos (2 ^ a))
  unfolding holds_unsigned
  below_test a = every_test (holds_unsigned a) weights (pos 0) (λ z. less_test z (pos (2 ^ a)))

  -- ---- a cell without a negative weight

  module _ (plain : (j : ℕ) → j < length weights → pos 0 ≤ℤ weight j) where
    pub unsigned_below : (j : ℕ) → j < length weights → weight j <ℤ pos (2 ^ weight_width weights)
    unsigned_below = (below_test (weight_width weights)).0 (unsigned_width_holds weights (none_test.1 plain))

    pub unsigned_least : (a : ℕ) → ((j : ℕ) → j < length weights → weight j <ℤ pos (2 ^ a)) → weight_width weights ≤ a
    unsigned_least a h = unsigned_width_least weights (none_test.1 plain) a ((below_test a).1 h)

    pub unsigned_spares_one : ¬ (weight_width weights ≡ 0) → least_width holds weights ≡ suc (weight_width weights)
    unfolding holds
    unsigned_spares_one some =
        complement_length weights (λ h. some ((weight_width_zero weights).1 h)) ∙ ap suc (sym (unsigned_length weights (none_test.1 plain)))

  -- ---- a cell with a negative weight

  module _ (i : ℕ) (inside : i < length weights) (negative : weight i <ℤ pos 0) where
    some : none_negative weights ≡ false
    some = (fails_test (none_negative weights) none_test).1 (λ plain. clash_ℤ negative (plain i inside))

    pub signed_holds : (j : ℕ) → j < length weights → holds (weight_width weights) (weight j) ≡ true
    signed_holds = every_at (holds (weight_width weights)) weights (pos 0) (signed_width_holds weights some)

    pub signed_least : (a : ℕ) → ((j : ℕ) → j < length weights → holds a (weight j) ≡ true) → weight_width weights ≤ a
    signed_least a h = signed_width_least weights some a (every_from (holds a) weights (pos 0) h)

    pub signed_stays : weight_width weights ≡ least_width holds weights
    signed_stays = signed_width weights some

  -- ---- every cell

  pub zero_width : ((j : ℕ) → j < length weights → weight j ≡ pos 0) ↔ (weight_width weights ≡ 0)
  zero_width = Iff.symm (Iff.trans (weight_width_zero weights) (every_test (λ z. eq_z z (pos 0)) weights (pos 0) (λ z. same_test z (pos 0))))
