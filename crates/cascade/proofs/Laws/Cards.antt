-- Running a card: after the cells down to a cut, the class and the value are those of X's block there.
use Prim.Native.Nat.{ℕ, suc, ◌+◌, ◌-◌, ◌*◌, ◌/◌, ◌%◌, ◌^◌, ◌≤◌, ◌<◌}
use Rattle.std.specs.Prelude.{◌≡◌, refl, true, leb, eqb, ℤ, ◌+ℤ◌, ◌-ℤ◌}
use Rattle.std.proofs.Math.Path.{sym, ap, ap₂}
use Rattle.std.proofs.Common.{◌∙◌, add-zero, zero-add, zero-mul, mul-one, ext_get_or, pow_pos, shr-shr, shr_lt, eqb-true}
use mathlib.Core.List.{List, [], ◌∷◌, map}
use Rattle.std.proofs.Math.Nat.{div-one, mod-lt}
use native.Mathlib.Omega.{arith}
use Rattle.std.proofs.Math.ListN.{length, get_or}
use Rattle.std.proofs.lemmas.List.{length-map}
use Rattle.std.proofs.Math.Pow.{split}
use Rattle.std.proofs.Math.IntN.{pos, +ℤ_comm}
use Rattle.numbers.specs.Lists.{numbers_from, every, sum_of}
use Rattle.numbers.proofs.Laws.Bools.{both}
use Rattle.numbers.proofs.Laws.Integers.{sub_add}
use Rattle.numbers.proofs.Laws.Lists.{length_range, get_d_range, get_d_map}
use Rattle.blocks.specs.Blocks.{block, first}
use Rattle.blocks.specs.Classes.{class_of}
use Rattle.blocks.proofs.Laws.Classes.{class_below, one_class_at_top}
use Rattle.image.specs.Run.{word_at, group_value, run_from, run_card, card_values}
use Rattle.diagram.specs.Accepted.{Accepted}
use Rattle.cascade.specs.Cascade.{cell_of, cells_from, card_for}
use Rattle.cascade.specs.Groupings.{is_grouping}
use Rattle.blocks.proofs.Laws.Blocks.{first_of_block}
use Rattle.cascade.proofs.Laws.Words.{word_of_block, word_class, word_weight}

-- A value and what is left to another one.
add_sub : (a b : ℤ) → a +ℤ (b -ℤ a) ≡ b
add_sub a b = +ℤ_comm a (b -ℤ a) ∙ sub_add b a

-- The block of X at cut h.
abbrev block_of_x : ℕ → List ℤ → ℕ → ℕ → List ℤ
block_of_x n table x h = block table (n - h) (x / 2 ^ (n - h))

module _ (n : ℕ) (table : List ℤ) (size : length table ≡ 2 ^ n) (x : ℕ) (below : x < 2 ^ n) where
  -- The block of X at cut h is one of that cut's blocks.
  x_block_below : (h : ℕ) → h ≤ n → x / 2 ^ (n - h) < 2 ^ h
  x_block_below h cut = shr_lt h (n - h) (rw (let e : h + (n - h) ≡ n = omega arith in e) below)

  -- At the top cut the block of X has class 0.
  x_class_at_top : class_of n table 0 (block_of_x n table x 0) ≡ 0
  x_class_at_top =
      let l = class_below n table 0 (omega arith) (x / 2 ^ (n - 0)) (x_block_below 0 (omega arith)) in
      omega (arith, one_class_at_top n table)

  -- And there it begins the table.
  x_first_at_top : first (block_of_x n table x 0) ≡ first table
  unfolding first
  x_first_at_top =
      first_of_block table (n - 0) (x / 2 ^ (n - 0))
      ∙ ap (λ j. get_or table (j * 2 ^ (n - 0)) (pos 0)) (let z = x_block_below 0 (omega arith) in let e : x / 2 ^ (n - 0) ≡ 0 = omega arith in e)
      ∙ ap (λ k. get_or table k (pos 0)) (zero-mul (2 ^ (n - 0)))

  -- The bits of X that a group takes lead from its block at cut h to that at cut h + g.
  x_sub_block : (h g : ℕ) → h + g ≤ n → x / 2 ^ (n - h) * 2 ^ g + group_value (n - h) g x ≡ x / 2 ^ (n - (h + g))
  unfolding group_value
  x_sub_block h g ends =
      ap (λ k. x / 2 ^ (n - h) * 2 ^ g + x / 2 ^ k % 2 ^ g) (let e : n - h - g ≡ n - (h + g) = omega arith in e)
      ∙ ap (λ q. q * 2 ^ g + x / 2 ^ (n - (h + g)) % 2 ^ g) (ap (λ k. x / 2 ^ k) (let e : n - h ≡ n - (h + g) + g = omega arith in e) ∙ sym (shr-shr x (n - (h + g)) g))
      ∙ split (x / 2 ^ (n - (h + g))) g

  -- The word that the cell from cut h to cut h + g reads for X.
  x_word : (h g : ℕ) → h + g ≤ n → word_at (cell_of n table h g) (class_of n table h (block_of_x n table x h)) (group_value (n - h) g x) ≡ record { class = class_of n table (h + g) (block_of_x n table x (h + g)); weight = first (block_of_x n table x (h + g)) -ℤ first (block_of_x n table x h) }
  unfolding word_at cell_of group_value
  x_word h g ends =
      let j = x / 2 ^ (n - h) in
      let v = group_value (n - h) g x in
      let lv : v < 2 ^ g = mod-lt (x / 2 ^ (n - h - g)) (pow_pos g) in
      word_of_block n table size h g ends j v (record { class = 0; weight = pos 0 }) (x_block_below h (omega arith)) lv
      ∙ ap₂ (λ c w. record { class = c; weight = w }) (word_class n table h g ends j v lv) (word_weight n table h g ends j v lv)
      ∙ ap (λ k. record { class = class_of n table (h + g) (block table (n - (h + g)) k); weight = first (block table (n - (h + g)) k) -ℤ first (block_of_x n table x h) }) (x_sub_block h g ends)

  -- From cut h on, with the class and the first value of X's block there, the cells left add up to f(X).
  run_from_cut : (sizes : List ℕ) (h words : ℕ) → h + sum_of sizes ≡ n → run_from (n - h) (cells_from n table h sizes) x (class_of n table h (block_of_x n table x h)) (record { value = first (block_of_x n table x h); words = words }) ≡ record { value = get_or table x (pos 0); words = words + length sizes }
  unfolding sum_of run_from cells_from cell_of
  run_from_cut [] h words e = ap₂ (λ v k. record { value = v; words = k }) single (sym (add-zero words))
    where
      single : first (block_of_x n table x h) ≡ get_or table x (pos 0)
      single =
          first_of_block table (n - h) (x / 2 ^ (n - h))
          ∙ ap (λ k. get_or table (x / 2 ^ k * 2 ^ k) (pos 0)) (let bottom : n - h ≡ 0 = omega arith in bottom)
          ∙ ap (λ k. get_or table k (pos 0)) (mul-one (x / 1) ∙ div-one x)
  run_from_cut (g ∷ sizes) h words e =
      ap₂ (λ left word. run_from left (cells_from n table (h + g) sizes) x word.class (record { value = first (block_of_x n table x h) +ℤ word.weight; words = suc words }))
      (let left : n - h - g ≡ n - (h + g) = omega arith in left)
      (x_word h g (omega arith))
      ∙ ap (λ v. run_from (n - (h + g)) (cells_from n table (h + g) sizes) x (class_of n table (h + g) (block_of_x n table x (h + g))) (record { value = v; words = suc words }))
      (add_sub (first (block_of_x n table x h)) (first (block_of_x n table x (h + g))))
      ∙ run_from_cut sizes (h + g) (suc words) (omega arith)
      ∙ ap (λ k. record { value = get_or table x (pos 0); words = k }) (let one_more : suc words + length sizes ≡ words + suc (length sizes) = omega arith in one_more)

-- The number of cells that sizes make.
pub cells_count : (n : ℕ) (table : List ℤ) (h : ℕ) (sizes : List ℕ) → length (cells_from n table h sizes) ≡ length sizes
unfolding cells_from
cells_count n table h [] = refl
cells_count n table h (g ∷ sizes) = ap suc (cells_count n table (h + g) sizes)

-- The sizes of a grouping add up to n.
pub grouping_sum : (n : ℕ) (sizes : List ℕ) → is_grouping n sizes ≡ true → sum_of sizes ≡ n
unfolding is_grouping
grouping_sum n sizes grouping = eqb-true (sum_of sizes) n (both (every (leb 1) sizes) (eqb (sum_of sizes) n) grouping).1

-- At every X the card of a grouping gives f(X), with one word read a cell.
pub card_value : (n : ℕ) (table : List ℤ) → Accepted n table → (sizes : List ℕ) → is_grouping n sizes ≡ true → (x : ℕ) → x < 2 ^ n → run_card (card_for n table sizes) x ≡ record { value = get_or table x (pos 0); words = length sizes }
unfolding run_card card_for
card_value n table accepted sizes grouping x below =
    sym (ap₂ (λ c v. run_from n (cells_from n table 0 sizes) x c (record { value = v; words = 0 })) (x_class_at_top n table size x below) (x_first_at_top n table size x below))
    ∙ ap (λ left. run_from left (cells_from n table 0 sizes) x (class_of n table 0 (block_of_x n table x 0)) (record { value = first (block_of_x n table x 0); words = 0 })) (let all : n ≡ n - 0 = omega arith in all)
    ∙ run_from_cut n table size x below sizes 0 0 (omega (arith, grouping_sum n sizes grouping))
    ∙ ap (λ k. record { value = get_or table x (pos 0); words = k }) (zero-add (length sizes))
  where
    size : length table ≡ 2 ^ n
    size = accepted.size

-- The values of the card at every X, in order, are the table.
pub card_values_lem : (n : ℕ) (table : List ℤ) → Accepted n table → (sizes : List ℕ) → is_grouping n sizes ≡ true → card_values (card_for n table sizes) ≡ table
unfolding card_values card_for
card_values_lem n table accepted sizes grouping = ext_get_or (pos 0) (map f (numbers_from 0 (2 ^ n))) table whole each
  where
    f : ℕ → ℤ
    f x = (run_card (card_for n table sizes) x).value

    runs : length (numbers_from 0 (2 ^ n)) ≡ 2 ^ n
    runs = length_range 0 (2 ^ n)

    whole : length (map f (numbers_from 0 (2 ^ n))) ≡ length table
    whole = length-map (numbers_from 0 (2 ^ n)) f ∙ runs ∙ sym accepted.size

    each : (x : ℕ) → x < length (map f (numbers_from 0 (2 ^ n))) → get_or (map f (numbers_from 0 (2 ^ n))) x (pos 0) ≡ get_or table x (pos 0)
    each x l =
        let below : x < 2 ^ n = (let s = accepted.size in omega (arith, whole)) in
        get_d_map f (numbers_from 0 (2 ^ n)) x 0 (pos 0) (omega (arith, runs))
        ∙ ap f (get_d_range 0 (2 ^ n) x 0 below ∙ zero-add x)
        ∙ ap (λ result. result.value) (card_value n table accepted sizes grouping x below)
