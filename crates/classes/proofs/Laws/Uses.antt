-- The uses so far and the use counts while lists are classed one by one.
use Rattle.std.specs.Prelude.{ℕ, suc, ◌≤◌, ◌<◌, ◌≡◌, List, [], length, get_or, take, ℤ}
use Rattle.std.proofs.Common.{sym, ◌∙◌, ap, ext_get_or, get_or-take, take_all}
use native.Mathlib.Omega.{arith}
use Rattle.std.proofs.lemmas.List.{length-map}
use Rattle.std.proofs.Math.Seq.{length-take-le}
use Rattle.numbers.proofs.Laws.Lists.{get_d_map}
use Rattle.blocks.specs.Classes.{number_in, distinct}
use Rattle.blocks.specs.Rows.{numbers_of, use_row}
use Rattle.blocks.proofs.Laws.Known.{distinct_length}
use Rattle.blocks.specs.Tries.{block_class, known_before}
use Rattle.blocks.proofs.Laws.Latest.{class_most, known_since}
use Rattle.blocks.specs.Uses.{use_count, uses_at}
use Rattle.blocks.proofs.Laws.Counting.{uses_most, found_uses, row_next}
use Rattle.blocks.proofs.Laws.UseRows.{length_run, run_at, length_use_row, use_row_at}
use Rattle.classes.specs.Inner.Searching.{uses_with}
use Rattle.classes.specs.Inner.Finding.{uses_before}
use Rattle.classes.specs.Inner.Noting.{uses_noted}

pub length_numbers : (ds : List (List ℤ)) → length (numbers_of ds) ≡ length ds
unfolding numbers_of
length_numbers ds = length-map ds (number_in (distinct ds))

number_of : (ds : List (List ℤ)) (j : ℕ) → j < length ds → get_or (numbers_of ds) j 0 ≡ block_class ds j
unfolding numbers_of block_class
number_of ds j below = get_d_map (number_in (distinct ds)) ds j [] 0 below

module _ (ds : List (List ℤ)) (j : ℕ) (below : j < length ds) where
  below_numbers : j < length (numbers_of ds)
  below_numbers = rw length_numbers below

  -- No more classes are known than blocks were seen.
  pub known_few : known_before ds j ≤ j
  unfolding known_before
  known_few = let d = distinct_length (take j ds) in let t = length-take-le j ds (omega arith) in omega arith

  -- The classes of the blocks before are known.
  seen : (i : ℕ) → i < j → get_or (numbers_of ds) i 0 < known_before ds j
  seen i l = rw (number_of ds i (omega arith)) (known_since ds i j l (omega arith))

  length_uses : length (uses_before ds j) ≡ known_before ds j
  unfolding uses_before
  length_uses = length_run (use_count (take j (numbers_of ds))) (known_before ds j)

  use_at : (class : ℕ) → class < known_before ds j → get_or (uses_before ds j) class 0 ≡ use_count (take j (numbers_of ds)) class
  unfolding uses_before
  use_at class l = run_at (use_count (take j (numbers_of ds))) (known_before ds j) class l

  -- No class has more uses than there are blocks before.
  pub uses_few : (class : ℕ) → class < length (uses_before ds j) → get_or (uses_before ds j) class 0 ≤ j
  uses_few class l =
      let m = uses_most (take j (numbers_of ds)) class in
      let t = length-take-le j (numbers_of ds) (let b = below_numbers in omega arith) in
      let u = use_at class (rw length_uses at l) in
      omega arith

  -- What the search answers for the next block.
  pub uses_are : uses_with (uses_before ds j) (block_class ds j) ≡ uses_at (numbers_of ds) j
  unfolding uses_with uses_before
  uses_are = found_uses (numbers_of ds) j (known_before ds j) below_numbers known_few seen (block_class ds j) (sym (number_of ds j below)) (class_most ds j below)

  module _ (use_count_row : List ℕ) (room : j < length use_count_row) (so_far : (class : ℕ) → class < j → get_or use_count_row class 0 ≡ use_count (take j (numbers_of ds)) class) where
    -- The use counts of the known classes stand in front.
    pub known_uses : take (known_before ds j) use_count_row ≡ uses_before ds j
    known_uses =
        ext_get_or 0 (take (known_before ds j) use_count_row) (uses_before ds j)
        (front ∙ sym length_uses)
        (λ class l.
        let inside : class < known_before ds j = rw front at l in
        get_or-take (known_before ds j) use_count_row class 0 inside
        ∙ so_far class (let f = known_few in omega arith)
        ∙ sym (use_at class inside))
      where
        front : length (take (known_before ds j) use_count_row) ≡ known_before ds j
        front = length-take-le (known_before ds j) use_count_row (let f = known_few in omega arith)

    -- The use counts after the next block.
    pub use_counts_next : (class : ℕ) → class < suc j → get_or (uses_noted use_count_row j (block_class ds j) (uses_at (numbers_of ds) j)) class 0 ≡ use_count (take (suc j) (numbers_of ds)) class
    unfolding uses_noted
    use_counts_next class l = row_next (numbers_of ds) j (known_before ds j) below_numbers known_few seen (block_class ds j) (sym (number_of ds j below)) (class_most ds j below) use_count_row room so_far class l

-- When all lists are classed, the row is whole.
pub all_counted : (ds : List (List ℤ)) (use_count_row : List ℕ) → length use_count_row ≡ length ds → ((class : ℕ) → class < length ds → get_or use_count_row class 0 ≡ use_count (take (length ds) (numbers_of ds)) class) → use_count_row ≡ use_row (numbers_of ds)
all_counted ds use_count_row e each =
    ext_get_or 0 use_count_row (use_row (numbers_of ds))
    (e ∙ sym (length_use_row (numbers_of ds) ∙ length_numbers ds))
    (λ class l.
    let inside : class < length ds = rw e at l in
    each class inside
    ∙ ap (λ l. use_count l class) (take_all (length ds) (numbers_of ds) (rw length_numbers (omega arith)))
    ∙ sym (use_row_at (numbers_of ds) class (rw length_numbers inside)))
