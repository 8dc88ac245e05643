-- Paths: the weights on the path from a block's node are the block's differences.
use Rattle.std.specs.Prelude.{ℕ, zero, suc, ◌+◌, ◌%◌, ◌^◌, ◌≤◌, ◌≡◌, true, false, List, length, ℤ, pos, neg_ℤ, nat_abs, ◌+ℤ◌, ◌-ℤ◌}
use Rattle.std.proofs.Math.Path.{sym}
use Rattle.std.proofs.Common.{◌∙◌, ap, ap₂, mod-lt, get_or-take, get_or-drop, pow_pos}
use native.Mathlib.Omega.{arith}
use Rattle.std.proofs.Math.ListN.{get_or}
use Rattle.std.proofs.Math.IntN.{+ℤ_assoc, +ℤ_comm}
use Rattle.numbers.specs.Ranges.{eq_z}
use Rattle.numbers.proofs.Laws.Bools.{yes_or_no}
use Rattle.numbers.proofs.Laws.Integers.{sub_self, sub_add, eq_z_refl}
use Rattle.blocks.specs.Blocks.{first, lower_half, upper_half, differences}
use Rattle.blocks.specs.Classes.{number_in}
use Rattle.blocks.proofs.Laws.Known.{number_at}
use Rattle.diagram.specs.Records.{branches, kinds, records_below, node}
use Rattle.diagram.specs.Walk.{variable_at, bit_set, path_weight}
use Rattle.diagram.specs.Accepted.{written}
use Rattle.diagram.proofs.Laws.Alike.{BlockLike, like_length, like_lower, like_upper}
use Rattle.diagram.proofs.Laws.Nodes.{node_branching, node_passing, node_below, kind_known}
use Rattle.diagram.proofs.Laws.Numbering.{numbered, kind_variable, StandsFor, kind_stands}
use Rattle.diagram.proofs.Laws.Steps.{path_high, path_low, bit_one, bit_zero, Below, path_down}
use Rattle.diagram.proofs.Laws.Branching.{unbranched_halves}

-- The top bit of a block's place says in which half the value is.
value_high : (values : List ℤ) (i x : ℕ) → bit_set x i ≡ true → get_or values (x % 2 ^ suc i) (pos 0) ≡ get_or (upper_half i values) (x % 2 ^ i) (pos 0)
unfolding upper_half
value_high values i x e = ap (λ p. get_or values p (pos 0)) (bit_one x i e) ∙ sym (get_or-drop (2 ^ i) values (x % 2 ^ i) (pos 0))

value_low : (values : List ℤ) (i x : ℕ) → bit_set x i ≡ false → get_or values (x % 2 ^ suc i) (pos 0) ≡ get_or (lower_half i values) (x % 2 ^ i) (pos 0)
unfolding lower_half
value_low values i x e = ap (λ p. get_or values p (pos 0)) (bit_zero x i e) ∙ sym (get_or-take (2 ^ i) values (x % 2 ^ i) (pos 0) (mod-lt x (pow_pos i)))

-- A block begins as its lower half does.
pub first_lower : (values : List ℤ) (i : ℕ) → first (lower_half i values) ≡ first values
unfolding first lower_half
first_lower values i = get_or-take (2 ^ i) values 0 (pos 0) (pow_pos i)

-- (a - b) + (c - a) is c - b.
sub_chain : (a b c : ℤ) → (a -ℤ b) +ℤ (c -ℤ a) ≡ c -ℤ b
sub_chain a b c =
    +ℤ_comm (a -ℤ b) (c -ℤ a)
    ∙ sym (+ℤ_assoc (c -ℤ a) a (neg_ℤ b))
    ∙ ap (λ z. z -ℤ b) (sub_add c a)

-- ---- the path from a record

module _ (n : ℕ) (table : List ℤ) where
  -- A record numbered below a height has a variable below it.
  pub numbered_below : (i m : ℕ) → i ≤ n → m ≤ records_below n table i → Below (written n table) i m
  numbered_below i m h l = record {
    lower = λ one.
        let r = numbered n table i m one l in
        (r.height, (r.lower, ap (variable_at (written n table)) r.number ∙ kind_variable n table r.height r.kind (let p = r.lower in omega arith) r.known));
  }

  -- A record reads its own variable: the weight and the high child, or the low child.
  module _ (i m : ℕ) (values : List ℤ) (s : StandsFor n table (suc m) i values) where
    -- Its own variable is told.
    own_variable : eq_z (variable_at (written n table) (suc m)) (pos i) ≡ true
    own_variable = ap (λ v. eq_z v (pos i)) s.variable ∙ eq_z_refl (pos i)

    pub take_high : (x : ℕ) → bit_set x i ≡ true → path_weight (written n table) (suc i) (suc m) x ≡ (first (upper_half i values) -ℤ first (lower_half i values)) +ℤ path_weight (written n table) i (node n table i (upper_half i values)) x
    take_high x b =
        path_high (written n table) i m x own_variable b
        ∙ ap₂ (λ w c. w +ℤ path_weight (written n table) i (nat_abs c) x) s.weight s.high

    pub take_low : (x : ℕ) → bit_set x i ≡ false → path_weight (written n table) (suc i) (suc m) x ≡ path_weight (written n table) i (node n table i (lower_half i values)) x
    take_low x b = path_low (written n table) i m x own_variable b ∙ ap (λ c. path_weight (written n table) i (nat_abs c) x) s.low

module _ (n : ℕ) (table : List ℤ) (size : length table ≡ 2 ^ n) where
  -- The record of a branching block stands for it.
  pub branching_stands : (i : ℕ) (values : List ℤ) → suc i ≤ n → BlockLike n table (suc i) values → branches i values ≡ true → StandsFor n table (suc (records_below n table i + number_in (kinds n table i) (differences values))) i values
  branching_stands i values h b e =
      let l = kind_known n table i values b e in
      kind_stands n table i (number_in (kinds n table i) (differences values)) values h l
      (like_length n table size (suc i) values h b)
      (number_at (kinds n table i) (differences values) l)

  -- The path from a block's node, where those from its halves' nodes are known.
  module _ (i : ℕ) (values : List ℤ) (x : ℕ) (h : suc i ≤ n) (b : BlockLike n table (suc i) values)
      (lower : path_weight (written n table) i (node n table i (lower_half i values)) x ≡ get_or (lower_half i values) (x % 2 ^ i) (pos 0) -ℤ first (lower_half i values))
      (upper : path_weight (written n table) i (node n table i (upper_half i values)) x ≡ get_or (upper_half i values) (x % 2 ^ i) (pos 0) -ℤ first (upper_half i values)) where
    -- A block that branches: its record's two edges.
    branching_path : branches i values ≡ true → path_weight (written n table) (suc i) (node n table (suc i) values) x ≡ get_or values (x % 2 ^ suc i) (pos 0) -ℤ first values
    branching_path e =
        ap (λ m. path_weight (written n table) (suc i) m x) (node_branching n table i values e)
        ∙ yes_or_no (bit_set x i)
        (λ one.
        take_high n table i before values stands x one
        ∙ ap (λ w. (first (upper_half i values) -ℤ first (lower_half i values)) +ℤ w) upper
        ∙ sub_chain (first (upper_half i values)) (first (lower_half i values)) (get_or (upper_half i values) (x % 2 ^ i) (pos 0))
        ∙ ap₂ (λ v f. v -ℤ f) (sym (value_high values i x one)) (first_lower values i))
        (λ none.
        take_low n table i before values stands x none
        ∙ lower
        ∙ ap₂ (λ v f. v -ℤ f) (sym (value_low values i x none)) (first_lower values i))
      where
        before : ℕ
        before = records_below n table i + number_in (kinds n table i) (differences values)

        stands : StandsFor n table (suc before) i values
        stands = branching_stands i values h b e

    -- A block that does not: the lower half's path, which is also the upper half's.
    passing_path : branches i values ≡ false → path_weight (written n table) (suc i) (node n table (suc i) values) x ≡ get_or values (x % 2 ^ suc i) (pos 0) -ℤ first values
    passing_path e =
        ap (λ m. path_weight (written n table) (suc i) m x) (node_passing n table i values e)
        ∙ path_down (written n table) i (node n table i (lower_half i values)) x (numbered_below n table i (node n table i (lower_half i values)) (omega arith) (node_below n table size i (lower_half i values) (omega arith) (like_lower n table size i values h b)))
        ∙ lower
        ∙ ap₂ (λ v f. v -ℤ f)
        (yes_or_no (bit_set x i)
        (λ one. ap (λ l. get_or l (x % 2 ^ i) (pos 0)) (unbranched_halves i values e) ∙ sym (value_high values i x one))
        (λ none. sym (value_low values i x none)))
        (first_lower values i)

  -- A single value has no path.
  single_path : (values : List ℤ) (x : ℕ) → path_weight (written n table) 0 (node n table 0 values) x ≡ get_or values (x % 2 ^ 0) (pos 0) -ℤ first values
  unfolding first node path_weight
  single_path values x =
      sym (ap (λ p. get_or values p (pos 0) -ℤ first values) (let e : x % 1 ≡ 0 = omega arith in e) ∙ sub_self (first values))

  -- The weights on the path from a block's node are the block's values less its first.
  pub block_path : (i : ℕ) (values : List ℤ) (x : ℕ) → i ≤ n → BlockLike n table i values → path_weight (written n table) i (node n table i values) x ≡ get_or values (x % 2 ^ i) (pos 0) -ℤ first values
  block_path zero values x h b = single_path values x
  block_path (suc i) values x h b =
      let lower = block_path i (lower_half i values) x (omega arith) (like_lower n table size i values h b) in
      let upper = block_path i (upper_half i values) x (omega arith) (like_upper n table size i values h b) in
      yes_or_no (branches i values) (branching_path i values x h b lower upper) (passing_path i values x h b lower upper)
