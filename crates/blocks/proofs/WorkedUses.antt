-- Cuts worked out by hand, with the uses so far of each block, the use count of each class and the commonest class
-- (W-207): one list of data, under one theorem that computes through the definitions.
use Rattle.std.specs.Prelude.{ℕ, ◌≡◌, refl, List, [], ◌∷◌, map, pos}
use Rattle.numbers.specs.Lists.{numbers_from, keep, tally, least_from, least}
use Rattle.numbers.specs.Ranges.{eq_z}
use Rattle.blocks.specs.Blocks.{block, blocks, first, differences}
use Rattle.blocks.specs.Classes.{same, number_in, learn, learn_all, distinct, classes, class_count, class_of}
use Rattle.blocks.specs.Uses.{use_count, uses_at, uses_of, classes_at, cut_uses, use_counts, most_uses, commonest, commonest_at}
use Rattle.blocks.proofs.WorkedCuts.{p1, pairs}
use Rattle.blocks.specs.declared.Common.{Common}

-- Over 4 variables: two classes of cut 3 are used as much, and neither is the first.
tie : List ℕ
tie = 3 ∷ 2 ∷ 3 ∷ 1 ∷ 2 ∷ 0 ∷ 2 ∷ 2 ∷ 2 ∷ 0 ∷ 0 ∷ 3 ∷ 0 ∷ 0 ∷ 0 ∷ 0 ∷ []

-- A cut of a table over 4 variables: block by block the uses so far, class by class the use count, and of the commonest
-- class its number and its use count.
record Worked : Type 0 where
  values : List ℕ
  cut : ℕ
  so_far : List ℕ
  counts : List ℕ
  common : Common

cuts : List Worked
cuts =
    record {
      values = pairs;
      cut = 3;
      so_far = 1 ∷ 1 ∷ 2 ∷ 3 ∷ 1 ∷ 2 ∷ 2 ∷ 4 ∷ [];
      counts = 4 ∷ 2 ∷ 2 ∷ [];
      common = record { class = 0; uses = 4 };
    }
    ∷ record { values = p1; cut = 0; so_far = 1 ∷ []; counts = 1 ∷ []; common = record { class = 0; uses = 1 } }
    ∷ record { values = p1; cut = 1; so_far = 1 ∷ 1 ∷ []; counts = 1 ∷ 1 ∷ []; common = record { class = 0; uses = 1 } }
    ∷ record {
      values = p1;
      cut = 2;
      so_far = 1 ∷ 1 ∷ 2 ∷ 2 ∷ [];
      counts = 2 ∷ 2 ∷ [];
      common = record { class = 0; uses = 2 };
    }
    ∷ record {
      values = p1;
      cut = 3;
      so_far = 1 ∷ 2 ∷ 3 ∷ 1 ∷ 4 ∷ 2 ∷ 5 ∷ 6 ∷ [];
      counts = 6 ∷ 2 ∷ [];
      common = record { class = 0; uses = 6 };
    }
    ∷ record {
      values = p1;
      cut = 4;
      so_far = numbers_from 1 16;
      counts = 16 ∷ [];
      common = record { class = 0; uses = 16 };
    }
    ∷ record { values = tie; cut = 1; so_far = 1 ∷ 1 ∷ []; counts = 1 ∷ 1 ∷ []; common = record { class = 0; uses = 1 } }
    ∷ record {
      values = tie;
      cut = 3;
      so_far = 1 ∷ 1 ∷ 2 ∷ 1 ∷ 3 ∷ 1 ∷ 2 ∷ 3 ∷ [];
      counts = 1 ∷ 3 ∷ 3 ∷ 1 ∷ [];
      common = record { class = 1; uses = 3 };
    }
    ∷ record {
      values = tie;
      cut = 4;
      so_far = numbers_from 1 16;
      counts = 16 ∷ [];
      common = record { class = 0; uses = 16 };
    }
    ∷ []

-- What the definitions give, cut by cut.
worked_cuts : (map (λ w. cut_uses 4 (map pos w.values) w.cut) cuts ≡ map (λ w. w.so_far) cuts)
    × (map (λ w. use_counts 4 (map pos w.values) w.cut) cuts ≡ map (λ w. w.counts) cuts)
    × (map (λ w. commonest_at 4 (map pos w.values) w.cut) cuts ≡ map (λ w. w.common) cuts)
unfolding p1 pairs tie cuts
    numbers_from keep tally least_from least eq_z block blocks first differences same number_in learn learn_all distinct
    classes class_count class_of use_count uses_at uses_of classes_at cut_uses use_counts most_uses commonest commonest_at
worked_cuts = (refl, refl, refl)
