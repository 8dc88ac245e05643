-- A cell's weight width from its extremes, gathered word by word, and its price.
use Rattle.std.specs.Prelude.{ℕ, suc, ◌+◌, ◌-◌, ◌*◌, ◌/◌, ◌%◌, ◌^◌, ◌≤◌, ◌<◌, ◌≡◌, List, [], ◌∷◌, ◌++◌, map, length, get_or, ℤ, pos, ◌-ℤ◌}
use Rattle.std.proofs.Math.Path.{refl, sym, ap, ap₂}
use Rattle.std.proofs.Common.{◌∙◌, subst, mul-le-mul_right, mod-eq_of_lt, add-zero, mul_assoc, arith, take-suc, pow_pos, pow_mono, pow-add, SFits}
use Rattle.std.proofs.Math.Nat.{mul-add-div_right, mul-add-mod_self_right, div-eq_of_lt, add-mul}
use Rattle.std.proofs.Math.ListN.{take}
use Rattle.std.proofs.Math.Seq.{take-length}
use Rattle.std.proofs.Math.Dec.{leb}
use Rattle.std.specs.Int.{w32}
use Rattle.numbers.specs.Ranges.{lesser, greater}
use Rattle.numbers.specs.Widths.{rail_width, weight_width, cell_bits}
use Rattle.numbers.specs.Extremes.{lowest, highest}
use Rattle.numbers.proofs.Laws.Extremes.{lowest_snoc, highest_snoc, width_by_extremes}
use Rattle.numbers.proofs.Laws.Lists.{map_append}
use Rattle.numbers.proofs.Laws.Powers.{part_room}
use Rattle.numbers.proofs.Laws.Widths.{rail_width_least}
use Rattle.blocks.specs.Classes.{class_count, rail_at}
use Rattle.blocks.specs.Rows.{cut_place, all_counts}
use Rattle.blocks.proofs.Laws.Classes.{class_count_le}
use Rattle.blocks.proofs.Laws.Blocks.{first_of_block}
use Rattle.blocks.proofs.Laws.Places.{place_inside, length_firsts, length_counts, count_at}
use Rattle.image.specs.Cells.{bits_of}
use Rattle.image.specs.Reader.{most_classes}
use Rattle.image.specs.WellFormed.{no_word, weights}
use Rattle.image.specs.Inner.Bounds.{CellFits}
use Rattle.cascade.specs.Cascade.{words_of, cell_of}
use Rattle.cascade.specs.Groupings.{address_width}
use Rattle.cascade.specs.Inner.Choices.{cell_price, cell_fits}
use Rattle.cascade.specs.Inner.Words.{cell_word, word_block, WordReady}
use Rattle.cascade.proofs.Laws.Cells.{variables_most, class_count_most, cell_incoming, cell_outgoing, cell_address, cell_width_most}
use Rattle.cascade.proofs.Laws.Words.{sub_blocks, words_count}
use Rattle.cascade.proofs.Laws.WordReading.{outer, block_inside, outer_inside, weight_read, weight_fits}
use Rattle.diagram.specs.Accepted.{Accepted}
use Rattle.diagram.specs.declared.Range.{Range}
use Rattle.diagram.specs.declared.cuts.Cuts.{Cuts}
use Rattle.planner.specs.Inner.Extremes.{extremes_of}

-- ---- the extremes so far

module _ (n : ℕ) (table : List ℤ) (h g : ℕ) where
  pub extremes_none : record { least = pos 0; greatest = pos 0 } ≡ extremes_of n table h g 0
  unfolding extremes_of lowest highest weights
  extremes_none = refl

  -- The weights with one more.
  one_more : (k : ℕ) → k < length (words_of n table h g) → weights (take (suc k) (words_of n table h g)) ≡ weights (take k (words_of n table h g)) ++ (cell_word n table h g k).weight ∷ []
  unfolding weights cell_word
  one_more k l = ap (map (λ word. word.weight)) (take-suc (words_of n table h g) k no_word l) ∙ map_append (λ word. word.weight) (take k (words_of n table h g)) (get_or (words_of n table h g) k no_word ∷ [])

  pub extremes_next : (k : ℕ) (low high : ℤ) → record { least = low; greatest = high } ≡ extremes_of n table h g k → k < length (words_of n table h g) → record { least = lesser low (cell_word n table h g k).weight; greatest = greater high (cell_word n table h g k).weight } ≡ extremes_of n table h g (suc k)
  unfolding extremes_of
  extremes_next k low high e l =
      let so_far = weights (take k (words_of n table h g)) in
      let weight = (cell_word n table h g k).weight in
      let least : lesser low weight ≡ lowest (pos 0) (weights (take (suc k) (words_of n table h g))) =
      ap (λ x. lesser x.least weight) e ∙ sym (ap (lowest (pos 0)) (one_more k l) ∙ lowest_snoc (pos 0) so_far weight) in
      let greatest : greater high weight ≡ highest (pos 0) (weights (take (suc k) (words_of n table h g))) =
      ap (λ x. greater x.greatest weight) e ∙ sym (ap (highest (pos 0)) (one_more k l) ∙ highest_snoc (pos 0) so_far weight) in
      ap₂ (λ a b. record { least = a; greatest = b }) least greatest

  -- All of them decide the width.
  pub extremes_all : (k : ℕ) (all : Range) → all ≡ extremes_of n table h g k → k ≡ length (words_of n table h g) → weight_width (all.least ∷ all.greatest ∷ []) ≡ (cell_of n table h g).width
  unfolding extremes_of cell_of weights
  extremes_all k all e whole =
      ap (λ x. weight_width (x.least ∷ x.greatest ∷ [])) e
      ∙ ap (λ l. weight_width (lowest (pos 0) (weights l) ∷ highest (pos 0) (weights l) ∷ [])) (ap (λ m. take m (words_of n table h g)) whole ∙ take-length (words_of n table h g))
      ∙ width_by_extremes (weights (words_of n table h g))

-- ---- a cell's counts

-- A cut has at most 4,096 classes, and a cell as many words.
pub classes_most : {n : ℕ} {table : List ℤ} → Accepted n table → (h g : ℕ) → h + g ≤ n → class_count n table h ≤ 4096
unfolding most_classes
classes_most {n} {table} admitted h g ends = class_count_most n table admitted h (omega arith)

pub words_most : {n : ℕ} {table : List ℤ} → Accepted n table → (h g : ℕ) → h + g ≤ n → class_count n table h * 2 ^ g ≤ 4096
words_most {n} {table} admitted h g ends =
    let m = mul-le-mul_right (2 ^ g) (class_count_le n table h (omega arith)) in
    let p = pow_mono {i = h + g} {j = 12} (let f = variables_most n table admitted in omega arith) in
    omega (arith, pow-add 2 h g)

module _ (cuts : Cuts) (h g : ℕ) (ends : h + g ≤ cuts.n) where
  open cuts use {n, table, firsts, admitted, classed}

  pub few : n ≤ 12
  few = variables_most n table.now admitted

  -- Cuts are small.
  pub cut_small : h < 64
  cut_small = let f = few in let e = ends in omega arith

  pub end_small : h + g < 64
  end_small = let f = few in let e = ends in omega arith

  -- So are the blocks' heights.
  pub height_small : n - h < 64
  height_small = let f = few in omega arith

  pub lower_small : n - (h + g) < 64
  lower_small = let f = few in omega arith

  -- The first block of a class, and its place in the row.
  pub first_place : (class : ℕ) → class < class_count n table.now h → cut_place h + class < length firsts.now
  first_place class l = rw (classed.placed, length_firsts n table.now) (place_inside n h class (let e = ends in omega arith) (let m = class_count_le n table.now h (let e = ends in omega arith) in omega arith))

  -- Word v of a class.
  module _ (class v : ℕ) (known : class < class_count n table.now h) (below : v < 2 ^ g) where
    abbrev pub from : ℕ
    from = get_or firsts.now (cut_place h + class) 0

    one : class * 2 ^ g + v < class_count n table.now h * 2 ^ g
    one = let m = part_room (class_count n table.now h) g class known in omega arith

    pub one_of_words : class * 2 ^ g + v < length (words_of n table.now h g)
    one_of_words = rw (words_count n table.now h g) one

    reading : WordReady n h g (class * 2 ^ g + v) table.now firsts.now
    reading = record { admitted = admitted; ends = ends; word = one; placed = classed.placed }

    class_is : (class * 2 ^ g + v) / 2 ^ g ≡ class
    class_is = mul-add-div_right (pow_pos g) class v ∙ ap (λ q. class + q) (div-eq_of_lt below) ∙ add-zero class

    value_is : (class * 2 ^ g + v) % 2 ^ g ≡ v
    value_is = mul-add-mod_self_right class (2 ^ g) v ∙ mod-eq_of_lt below

    -- Where its block begins.
    place_is : word_block firsts.now h g (class * 2 ^ g + v) * 2 ^ (n - (h + g)) ≡ from * 2 ^ (n - h) + v * 2 ^ (n - (h + g))
    unfolding word_block
    place_is =
        ap₂ (λ c w. (get_or firsts.now (cut_place h + c) 0 * 2 ^ g + w) * 2 ^ (n - (h + g))) class_is value_is
        ∙ add-mul (from * 2 ^ g) v (2 ^ (n - (h + g)))
        ∙ ap (λ p. p + v * 2 ^ (n - (h + g))) (mul_assoc from (2 ^ g) (2 ^ (n - (h + g))) ∙ ap (λ p. from * p) (sub_blocks n table.now h g ends))

    pub weight_inside : from * 2 ^ (n - h) + v * 2 ^ (n - (h + g)) < length table.now
    weight_inside = subst (λ p. p < length table.now) place_is (block_inside reading)

    pub from_inside : from * 2 ^ (n - h) < length table.now
    from_inside = subst (λ c. get_or firsts.now (cut_place h + c) 0 * 2 ^ (n - h) < length table.now) class_is (outer_inside reading)

    -- Its weight is the first value of its block less that of the class's first block.
    pub weight_at_lem : get_or table.now (from * 2 ^ (n - h) + v * 2 ^ (n - (h + g))) (pos 0) -ℤ get_or table.now (from * 2 ^ (n - h)) (pos 0) ≡ (cell_word n table.now h g (class * 2 ^ g + v)).weight
    weight_at_lem =
        ap₂ ◌-ℤ◌
        (ap (λ p. get_or table.now p (pos 0)) (sym place_is) ∙ sym (first_of_block table.now (n - (h + g)) (word_block firsts.now h g (class * 2 ^ g + v))))
        (ap (λ c. get_or table.now (get_or firsts.now (cut_place h + c) 0 * 2 ^ (n - h)) (pos 0)) (sym class_is) ∙ sym (first_of_block table.now (n - h) (outer reading)))
        ∙ weight_read reading

    pub weight_small : SFits w32 (cell_word n table.now h g (class * 2 ^ g + v)).weight
    weight_small = weight_fits reading

  -- There are at most 4,096 values.
  pub values_most : length table.now ≤ 4096
  values_most = let f = few in omega (arith, admitted.size, pow_mono {i = n} {j = 12} f)

  -- The cell's numbers fit.
  pub price_fits : CellFits (class_count n table.now h) g (class_count n table.now (h + g)) (cell_of n table.now h g).width
  unfolding cell_of
  price_fits = record {
    address = cell_address n table.now admitted h g ends;
    entering = (cell_incoming n table.now admitted h g ends).1;
    leaving = (cell_outgoing n table.now admitted h g ends).1;
    narrow = let m = cell_width_most n table.now admitted h g ends in omega arith;
  }

  -- So do the count and the address width that its test works with.
  pub count_small : class_count n table.now h < 2 ^ 32
  count_small = let m = classes_most admitted h g ends in omega arith

  pub address_small : rail_width (class_count n table.now h) + g < 2 ^ 64
  address_small = let w = rail_width_least (class_count n table.now h) 12 (classes_most admitted h g ends) in let f = few in let e = ends in omega arith

-- The cell's numbers make its price, and its address width is what keeps to the limit.
pub price_is : (n : ℕ) (table : List ℤ) (h g : ℕ) → cell_bits (class_count n table h) g (class_count n table (h + g)) (cell_of n table h g).width ≡ cell_price n table h g
unfolding cell_price bits_of cell_of
price_is n table h g = refl

pub count_fits : (n : ℕ) (table : List ℤ) (limit h g : ℕ) → leb (rail_width (class_count n table h) + g) limit ≡ cell_fits n table limit h g
unfolding cell_fits address_width rail_at
count_fits n table limit h g = refl

module _ (n : ℕ) (table : List ℤ) (h g : ℕ) (ends : h + g ≤ n) {count_row : List ℕ} (counted : count_row ≡ all_counts n table) where
  -- The counts at both cuts stand in the row.
  pub entering_place : h < length count_row
  entering_place = rw (counted, length_counts n table) (let e = ends in omega arith)

  pub leaving_place : h + g < length count_row
  leaving_place = rw (counted, length_counts n table) (let e = ends in omega arith)

  pub entering : get_or count_row h 0 ≡ class_count n table h
  entering = rw counted (count_at n table h (let e = ends in omega arith))

  pub leaving : get_or count_row (h + g) 0 ≡ class_count n table (h + g)
  leaving = rw counted (count_at n table (h + g) ends)

  -- From the first the address width is worked out.
  pub fits_is : (limit : ℕ) → leb (rail_width (get_or count_row h 0) + g) limit ≡ cell_fits n table limit h g
  unfolding cell_fits address_width rail_at
  fits_is limit = ap (λ count. leb (rail_width count + g) limit) entering
