-- Cuts worked out by hand, with the class of each block and the number tried for it (W-203): one list of data, under one
-- theorem that computes through the definitions.
use Rattle.std.specs.Prelude.{ℕ, ◌≡◌, refl, List, [], ◌∷◌, map, pos}
use Rattle.numbers.specs.Lists.{numbers_from, keep}
use Rattle.numbers.specs.Ranges.{eq_z}
use Rattle.blocks.specs.Blocks.{block, blocks, first, differences}
use Rattle.blocks.specs.Classes.{same, number_in, learn, learn_all, distinct}
use Rattle.blocks.specs.Rows.{numbers_of, cut_numbers}
use Rattle.blocks.specs.Tries.{look_order, looked_until, number_tried, block_class, known_before, tried_at, tries_of, cut_tries}

-- ---- tables

-- The paper's P1, over 4 variables.
unfoldable pub p1 : List ℕ
p1 = 0 ∷ 0 ∷ 0 ∷ 0 ∷ 1 ∷ 1 ∷ 2 ∷ 3 ∷ 4 ∷ 4 ∷ 5 ∷ 6 ∷ 7 ∷ 7 ∷ 7 ∷ 7 ∷ []

-- Over 4 variables: pairs 0 and 1, 2 or 3, whose classes at cut 3 come back in many orders.
unfoldable pub pairs : List ℕ
pairs = 0 ∷ 1 ∷ 0 ∷ 2 ∷ 0 ∷ 1 ∷ 0 ∷ 1 ∷ 0 ∷ 3 ∷ 0 ∷ 2 ∷ 0 ∷ 3 ∷ 0 ∷ 1 ∷ []

-- Over 2 variables: one value everywhere.
sevens : List ℕ
sevens = 7 ∷ 7 ∷ 7 ∷ 7 ∷ []

-- Over 3 variables: at cut 2 every block has a class of its own.
squares : List ℕ
squares = 0 ∷ 1 ∷ 4 ∷ 9 ∷ 16 ∷ 25 ∷ 36 ∷ 49 ∷ []

-- ---- cuts

-- A cut of a table over so many variables: block by block, left to right, the class and the number tried.
record Worked : Type 0 where
  variables : ℕ
  values : List ℕ
  cut : ℕ
  classes : List ℕ
  tries : List ℕ

cuts : List Worked
cuts =
    record {
      variables = 4;
      values = pairs;
      cut = 3;
      classes = 0 ∷ 1 ∷ 0 ∷ 0 ∷ 2 ∷ 1 ∷ 2 ∷ 0 ∷ [];
      tries = 0 ∷ 1 ∷ 2 ∷ 1 ∷ 2 ∷ 3 ∷ 3 ∷ 2 ∷ [];
    }
    ∷ record { variables = 4; values = p1; cut = 0; classes = 0 ∷ []; tries = 0 ∷ [] }
    ∷ record { variables = 4; values = p1; cut = 1; classes = 0 ∷ 1 ∷ []; tries = 0 ∷ 1 ∷ [] }
    ∷ record { variables = 4; values = p1; cut = 2; classes = 0 ∷ 1 ∷ 1 ∷ 0 ∷ []; tries = 0 ∷ 1 ∷ 1 ∷ 2 ∷ [] }
    ∷ record {
      variables = 4;
      values = p1;
      cut = 3;
      classes = 0 ∷ 0 ∷ 0 ∷ 1 ∷ 0 ∷ 1 ∷ 0 ∷ 0 ∷ [];
      tries = 0 ∷ 1 ∷ 1 ∷ 1 ∷ 2 ∷ 2 ∷ 2 ∷ 1 ∷ [];
    }
    ∷ record { variables = 2; values = sevens; cut = 2; classes = 0 ∷ 0 ∷ 0 ∷ 0 ∷ []; tries = 0 ∷ 1 ∷ 1 ∷ 1 ∷ [] }
    ∷ record { variables = 3; values = squares; cut = 2; classes = 0 ∷ 1 ∷ 2 ∷ 3 ∷ []; tries = 0 ∷ 1 ∷ 2 ∷ 3 ∷ [] }
    ∷ []

-- ---- what the definitions give

class_row : Worked → List ℕ
class_row w = cut_numbers w.variables (map pos w.values) w.cut

tried_row : Worked → List ℕ
tried_row w = cut_tries w.variables (map pos w.values) w.cut

-- That, cut by cut.
worked_cuts : (map class_row cuts ≡ map (λ w. w.classes) cuts) × (map tried_row cuts ≡ map (λ w. w.tries) cuts)
unfolding p1 pairs sevens squares cuts class_row tried_row
    numbers_from keep eq_z block blocks first differences same number_in learn learn_all distinct numbers_of cut_numbers
    look_order looked_until number_tried block_class known_before tried_at tries_of cut_tries
worked_cuts = (refl, refl)
