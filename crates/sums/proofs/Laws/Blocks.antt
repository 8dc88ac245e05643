-- The blocks of both tables: a block of the plain sum is the table of the low weights, with what the others sum up to at the block's number.
use Rattle.std.specs.Prelude.{ℕ, ◌+◌, ◌-◌, ◌*◌, ◌^◌, ◌≤◌, ◌<◌, ◌≡◌, List, map, length, take, drop, ◌+ℤ◌}
use Rattle.std.proofs.Math.Path.{sym, ap}
use Rattle.std.proofs.Common.{◌∙◌, ap₂, arith, take-append-drop, ext_get_or, length-take-le}
use Rattle.std.proofs.lemmas.List.{length-map}
use Rattle.std.proofs.Math.IntN.{ℤ, pos}
use Rattle.numbers.proofs.Laws.Lists.{get_d_map, map_take, map_drop, map_map}
use Rattle.numbers.proofs.Laws.Powers.{part_room, power_split}
use Rattle.blocks.specs.Blocks.{block}
use Rattle.blocks.proofs.Laws.Blocks.{block_at, block_length}
use Rattle.sums.specs.Sums.{sum_at, sum_table, remainder_by, remainder_table}
use Rattle.sums.proofs.Laws.Split.{sum_split, table_length, table_at}

module _ (weights : List ℤ) (i j : ℕ) (height : i ≤ length weights) (inside : j < 2 ^ (length weights - i)) where
  -- The place x of block j.
  at_place : (x : ℕ) → x < 2 ^ i → sum_at weights (j * 2 ^ i + x) ≡ sum_at (take i weights) x +ℤ sum_at (drop i weights) j
  at_place x l =
      let e = length-take-le i weights height in
      ap₂ (λ ws k. sum_at ws (j * 2 ^ k + x)) (sym (take-append-drop i weights)) (sym e)
      ∙ sum_split (take i weights) (drop i weights) j x (rw e l)

  room : j * 2 ^ i + 2 ^ i ≤ 2 ^ length weights
  room = let p = part_room (2 ^ (length weights - i)) i j inside in let s = power_split (length weights) i height in omega arith

  pub block_of_sums : block (sum_table weights) i j ≡ map (λ v. v +ℤ sum_at (drop i weights) j) (sum_table (take i weights))
  block_of_sums =
      let add : ℤ → ℤ = (λ v. v +ℤ sum_at (drop i weights) j) in
      let long = block_length (sum_table weights) i j (rw table_length room) in
      let short : length (sum_table (take i weights)) ≡ 2 ^ i = table_length (take i weights) ∙ ap (λ k. 2 ^ k) (length-take-le i weights height) in
      ext_get_or (pos 0) (block (sum_table weights) i j) (map add (sum_table (take i weights)))
      (long ∙ sym (length-map (sum_table (take i weights)) add ∙ short))
      (λ x l.
      let below : x < 2 ^ i = rw long at l in
      block_at (sum_table weights) i j x below
      ∙ table_at weights (j * 2 ^ i + x) (let r = room in omega arith)
      ∙ at_place x below
      ∙ sym (get_d_map add (sum_table (take i weights)) x (pos 0) (pos 0) (rw short below) ∙ ap add (table_at (take i weights) x (rw (length-take-le i weights height) below))))

  -- A block of the remainders, by the sum that its number has.
  pub block_of_remainders : (q : ℕ) → block (remainder_table q weights) i j ≡ map (λ v. pos (remainder_by (2 ^ q) (v +ℤ sum_at (drop i weights) j))) (sum_table (take i weights))
  unfolding remainder_table block
  block_of_remainders q =
      let reduce : ℤ → ℤ = (λ z. pos (remainder_by (2 ^ q) z)) in
      ap (take (2 ^ i)) (sym (map_drop reduce (j * 2 ^ i) (sum_table weights)))
      ∙ sym (map_take reduce (2 ^ i) (drop (j * 2 ^ i) (sum_table weights)))
      ∙ ap (map reduce) block_of_sums
      ∙ map_map (λ v. v +ℤ sum_at (drop i weights) j) reduce (sum_table (take i weights))
