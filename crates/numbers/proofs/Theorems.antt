-- The weight width of a cell, for every list of weights.
use Rattle.std.specs.Prelude.{ℕ, suc, ◌^◌, ◌≤◌, ◌<◌, ◌≡◌, ◌↔◌, true, List, length, get_or, ℤ, pos, ◌≤ℤ◌, ◌<ℤ◌}
use Rattle.numbers.specs.Widths.{holds, least_width, weight_width}
use Rattle.numbers.proofs.Laws.WeightWidth as proved

module _ (weights : List ℤ) where
  -- Weight j of the cell.
  abbrev weight : ℕ → ℤ
  weight j = get_or weights j (pos 0)

  -- ---- a cell without a negative weight

  module _ (plain : (j : ℕ) → j < length weights → pos 0 ≤ℤ weight j) where
    -- With its width a every weight is below 2^a.
    pub unsigned_below : (j : ℕ) → j < length weights → weight j <ℤ pos (2 ^ weight_width weights)
    unsigned_below = proved.unsigned_below weights plain

    -- And with no less.
    pub unsigned_least : (a : ℕ) → ((j : ℕ) → j < length weights → weight j <ℤ pos (2 ^ a)) → weight_width weights ≤ a
    unsigned_least = proved.unsigned_least weights plain

    -- Unless all weights are 0, two's complement takes one bit more.
    pub unsigned_spares_one : ¬ (weight_width weights ≡ 0) → least_width holds weights ≡ suc (weight_width weights)
    unsigned_spares_one = proved.unsigned_spares_one weights plain

  -- ---- a cell with a negative weight

  module _ (i : ℕ) (inside : i < length weights) (negative : weight i <ℤ pos 0) where
    -- Its width holds every weight in two's complement.
    pub signed_holds : (j : ℕ) → j < length weights → holds (weight_width weights) (weight j) ≡ true
    signed_holds = proved.signed_holds weights i inside negative

    -- And no less does.
    pub signed_least : (a : ℕ) → ((j : ℕ) → j < length weights → holds a (weight j) ≡ true) → weight_width weights ≤ a
    signed_least = proved.signed_least weights i inside negative

    -- So it is what it would be by two's complement alone.
    pub signed_stays : weight_width weights ≡ least_width holds weights
    signed_stays = proved.signed_stays weights i inside negative

  -- ---- every cell

  -- The width is 0 exactly where every weight is 0.
  pub zero_width : ((j : ℕ) → j < length weights → weight j ≡ pos 0) ↔ (weight_width weights ≡ 0)
  zero_width = proved.zero_width weights
