-- A variable more at most doubles the classes, so that rails grow by one at most from cut to cut.
use Rattle.std.specs.Prelude.{ℕ, ◌+◌, ◌-◌, ◌*◌, ◌/◌, ◌%◌, ◌^◌, ◌≤◌, ◌<◌, ◌≡◌, List, length, get_or, ℤ}
use Rattle.std.proofs.Common.{◌∙◌, ap, le_trans, mod-lt, div-add-mod', div-lt_iff_lt-mul, mul-le-mul_right, arith, pow_pos}
use Rattle.std.proofs.Math.Pow.{pow-add}
use Rattle.numbers.proofs.Laws.Powers.{part_room}
use Rattle.numbers.proofs.Laws.Runs.{all_met}
use Rattle.numbers.proofs.Laws.Widths.{rail_width_tells, rail_width_least}
use Rattle.blocks.specs.Blocks.{block}
use Rattle.blocks.specs.Classes.{class_count, class_of, rail_at}
use Rattle.blocks.proofs.Laws.Classes.{class_below, class_used}
use Rattle.image.specs.WellFormed.{no_word}
use Rattle.cascade.specs.Cascade.{words_of}
use Rattle.cascade.proofs.Laws.Words.{word_of_block, word_class}

module _ (n : ℕ) (table : List ℤ) (size : length table ≡ 2 ^ n) (h g : ℕ) (ends : h + g ≤ n) where
  -- Every class where a cell ends is the class of one of its words.
  class_in_words : (c : ℕ) → c < class_count n table (h + g) → (k : ℕ) × ((k < class_count n table h * 2 ^ g) × ((get_or (words_of n table h g) k no_word).class ≡ c))
  class_in_words c l =
      let used = class_used n table (h + g) ends c l in
      let j = used.0 in
      let v = mod-lt j (pow_pos g) in
      let upper : j / 2 ^ g < 2 ^ h = (div-lt_iff_lt-mul (pow_pos g)).1 (rw pow-add at used.1.0) in
      let class = class_of n table h (block table (n - h) (j / 2 ^ g)) in
      let below = class_below n table h (omega arith) (j / 2 ^ g) upper in (
        class * 2 ^ g + j % 2 ^ g,
        (
          (let r = part_room (class_count n table h) g class below in omega arith),
          ap (λ w. w.class) (word_of_block n table size h g ends (j / 2 ^ g) (j % 2 ^ g) no_word upper v)
              ∙ word_class n table h g ends (j / 2 ^ g) (j % 2 ^ g) v
              ∙ ap (λ k. class_of n table (h + g) (block table (n - (h + g)) k)) (div-add-mod' j (2 ^ g))
              ∙ used.1.1,
        ),
      )

  -- There are no more classes where a cell ends than it has words.
  pub count_grows : class_count n table (h + g) ≤ class_count n table h * 2 ^ g
  count_grows = all_met (class_count n table h * 2 ^ g) (class_count n table (h + g)) (λ k. (get_or (words_of n table h g) k no_word).class) class_in_words

  -- The rails there are at most its address.
  pub rail_grows : rail_at n table (h + g) ≤ rail_at n table h + g
  unfolding rail_at
  rail_grows = rail_width_least (class_count n table (h + g)) (rail_at n table h + g) (rw pow-add (le_trans count_grows (mul-le-mul_right (2 ^ g) (rail_width_tells (class_count n table h)))))
