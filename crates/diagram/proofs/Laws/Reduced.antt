-- The diagram is reduced: each record stands for a block, none is redundant, and no two nodes stand for one function.
use Rattle.std.specs.Prelude.{ℕ, zero, suc, ◌+◌, ◌-◌, ◌%◌, ◌^◌, ◌≤◌, ◌<◌, ◌≡◌, refl, List, length, get_or, ℤ, pos, nat_abs, ◌+ℤ◌, ◌-ℤ◌}
use Rattle.std.proofs.Common.{sym, ◌∙◌, ap, ap₂, mod-lt, mod-eq_of_lt, arith, ext_get_or, get_or-take, get_or-drop, pow_pos, pow_mono}
use Rattle.std.proofs.Math.Nat.{mul-add-mod_self_right, two-pow-succ}
use Rattle.std.proofs.Math.Decide.{dec_lt}
use Rattle.numbers.proofs.Laws.Integers.{sub_add}
use Rattle.numbers.proofs.Laws.Order.{no_difference}
use Rattle.numbers.proofs.Laws.Powers.{power_split}
use Rattle.blocks.specs.Blocks.{block, first, lower_half, upper_half, differences}
use Rattle.blocks.proofs.Laws.Differences.{length_differences, differences_at}
use Rattle.diagram.specs.Records.{node, records}
use Rattle.diagram.specs.Walk.{variable_at, low_at, high_at, weight_at, path_weight}
use Rattle.diagram.specs.Accepted.{written, node_function}
use Rattle.diagram.proofs.Laws.Alike.{whole_length, block_like}
use Rattle.diagram.proofs.Laws.Nodes.{same_node, node_below, root_last}
use Rattle.diagram.proofs.Laws.Numbering.{records_count}
use Rattle.diagram.proofs.Laws.Paths.{numbered_below, block_path}
use Rattle.diagram.proofs.Laws.RecordBlocks.{RecordBlock, block_of, record_block, height_within, lower_like, upper_like, halves_differ}
use Rattle.diagram.proofs.Laws.Steps.{path_terminal, path_from_above}

-- ---- differences that agree

-- Equal differences from one number are of equal numbers.
sub_cancel : (a b c : ℤ) → a -ℤ c ≡ b -ℤ c → a ≡ b
sub_cancel a b c e = sym (sub_add a c) ∙ ap (λ z. z +ℤ c) e ∙ sub_add b c

-- Places that are a multiple of 2^i apart.
same_low_bits : (i above y : ℕ) → i ≤ above → (2 ^ above + y) % 2 ^ i ≡ y % 2 ^ i
same_low_bits i above y h =
    ap (λ p. (p + y) % 2 ^ i) (sym (power_split above i h)) ∙ mul-add-mod_self_right (2 ^ (above - i)) (2 ^ i) y

-- The values of the halves.
get_d_lower : (values : List ℤ) (i y : ℕ) → y < 2 ^ i → get_or (lower_half i values) y (pos 0) ≡ get_or values y (pos 0)
unfolding lower_half
get_d_lower values i y h = get_or-take (2 ^ i) values y (pos 0) h

get_d_upper : (values : List ℤ) (i y : ℕ) → get_or (upper_half i values) y (pos 0) ≡ get_or values (2 ^ i + y) (pos 0)
unfolding upper_half
get_d_upper values i y = get_or-drop (2 ^ i) values y (pos 0)

module _ (n : ℕ) (table : List ℤ) (size : length table ≡ 2 ^ n) where
  -- ---- every block has its node, every record its block

  -- The weights on the path from a block's node, with all variables still to be read.
  block_values : (i j x : ℕ) → i ≤ n → j < 2 ^ (n - i) → node_function n table (node n table i (block table i j)) x ≡ get_or (block table i j) (x % 2 ^ i) (pos 0) -ℤ first (block table i j)
  block_values i j x h l =
      let b = block_like n table size i j l in
      path_from_above (written n table) i n (node n table i (block table i j)) x h (numbered_below n table i (node n table i (block table i j)) h (node_below n table size i (block table i j) h b))
      ∙ block_path n table size i (block table i j) x h b

  -- They are the block's differences.
  pub block_differences : (i j : ℕ) → i ≤ n → j < 2 ^ (n - i) → (x : ℕ) → node_function n table (node n table i (block table i j)) x ≡ get_or (differences (block table i j)) (x % 2 ^ i) (pos 0)
  block_differences i j h l x =
      block_values i j x h l
      ∙ sym (differences_at (block table i j) (x % 2 ^ i) (let m = mod-lt x (pow_pos i) in omega (arith, whole_length n table size i j h l)))

  -- The weights on the path from a record.
  record_values : (m x : ℕ) (r : RecordBlock n table m) → node_function n table m x ≡ get_or (block_of r) (x % 2 ^ suc r.height) (pos 0) -ℤ first (block_of r)
  record_values m x r =
      ap (λ k. node_function n table k x) (sym r.number) ∙ block_values (suc r.height) r.place x r.lower r.inside

  -- They are the differences of its block.
  pub record_differences : (m x : ℕ) (r : RecordBlock n table m) → node_function n table m x ≡ get_or (differences (block_of r)) (x % 2 ^ suc r.height) (pos 0)
  record_differences m x r =
      ap (λ k. node_function n table k x) (sym r.number) ∙ block_differences (suc r.height) r.place r.lower r.inside x

  pub record_has_block : (k : ℕ) → 1 ≤ k → k ≤ length (records n table)
      → (i : ℕ) × (j : ℕ) × (i < n) × (j < 2 ^ (n - suc i)) × (variable_at (written n table) k ≡ pos i)
      × ((x : ℕ) → node_function n table k x ≡ get_or (differences (block table (suc i) j)) (x % 2 ^ suc i) (pos 0))
  record_has_block k h l =
      let r = record_block n table size k h l in
      (r.height, r.place, r.lower, r.inside, r.stands.variable, λ x. record_differences k x r)

  -- The node of the whole table is the last.
  pub root_is_last : node n table n table ≡ length (records n table)
  root_is_last = root_last n table size ∙ sym (records_count n table)

  -- ---- no record is redundant

  -- Equal children and weight 0 would make the block's halves equal.
  not_redundant : (m : ℕ) → RecordBlock n table m → low_at (written n table) m ≡ high_at (written n table) m → weight_at (written n table) m ≡ pos 0 → ⊥
  not_redundant m r children weightless =
      halves_differ n table size r (λ y l. sub_cancel (get_or lower y (pos 0)) (get_or upper y (pos 0)) (first upper) (at_place y l))
    where
      i : ℕ
      i = r.height

      lower : List ℤ
      lower = lower_half i (block_of r)

      upper : List ℤ
      upper = upper_half i (block_of r)

      same_child : node n table i lower ≡ node n table i upper
      same_child = ap nat_abs (sym r.stands.low ∙ children ∙ r.stands.high)

      same_first : first upper ≡ first lower
      same_first = no_difference (first upper) (first lower) (sym r.stands.weight ∙ weightless)

      at_place : (y : ℕ) → y < 2 ^ i → get_or lower y (pos 0) -ℤ first upper ≡ get_or upper y (pos 0) -ℤ first upper
      at_place y l =
          ap₂ (λ p f. get_or lower p (pos 0) -ℤ f) (sym (mod-eq_of_lt l)) same_first
          ∙ sym (block_path n table size i lower y (height_within n table size r) (lower_like n table size r))
          ∙ ap (λ k. path_weight (written n table) i k y) same_child
          ∙ block_path n table size i upper y (height_within n table size r) (upper_like n table size r)
          ∙ ap (λ p. get_or upper p (pos 0) -ℤ first upper) (mod-eq_of_lt l)

  pub no_redundant_record : (k : ℕ) → 1 ≤ k → k ≤ length (records n table) → ¬ ((low_at (written n table) k ≡ high_at (written n table) k) × (weight_at (written n table) k ≡ pos 0))
  no_redundant_record k h l both = not_redundant k (record_block n table size k h l) both.0 both.1

  -- ---- no two nodes stand for one function

  -- A record's function depends on its variable: else its block would have equal halves.
  own_variable_counts : (k : ℕ) (r : RecordBlock n table k) → ((y : ℕ) → y < 2 ^ r.height → node_function n table k y ≡ node_function n table k (2 ^ r.height + y)) → ⊥
  own_variable_counts k r same =
      halves_differ n table size r (λ y l.
      get_d_lower (block_of r) i y l
      ∙ sub_cancel (get_or (block_of r) y (pos 0)) (get_or (block_of r) (2 ^ i + y) (pos 0)) (first (block_of r)) (at_place y (omega arith) ∙ same y l ∙ sym (at_place (2 ^ i + y) (omega arith)))
      ∙ sym (get_d_upper (block_of r) i y))
    where
      i : ℕ
      i = r.height

      at_place : (x : ℕ) → x < 2 ^ i + 2 ^ i → get_or (block_of r) x (pos 0) -ℤ first (block_of r) ≡ node_function n table k x
      at_place x l = sym (record_values k x r ∙ ap (λ p. get_or (block_of r) p (pos 0) -ℤ first (block_of r)) (mod-eq_of_lt (rw two-pow-succ l)))

  -- Both halves of a record's block are places below 2^n.
  room : (k : ℕ) (r : RecordBlock n table k) → 2 ^ r.height + 2 ^ r.height ≤ 2 ^ n
  room k r = rw two-pow-succ at (pow_mono r.lower)

  -- No record stands for the terminal's function, which is 0.
  not_terminal : (k : ℕ) → RecordBlock n table k → ((x : ℕ) → x < 2 ^ n → node_function n table k x ≡ pos 0) → ⊥
  not_terminal k r zeros =
      own_variable_counts k r (λ y l. zeros y (omega (arith, room k r)) ∙ sym (zeros (2 ^ r.height + y) (omega (arith, room k r))))

  -- Two records of one function.
  module _ (m k : ℕ) (r : RecordBlock n table m) (t : RecordBlock n table k) (same : (x : ℕ) → x < 2 ^ n → node_function n table m x ≡ node_function n table k x) where
    -- Neither has the lower variable.
    not_lower : r.height < t.height → ⊥
    not_lower h =
        own_variable_counts k t (λ y l.
        sym (same y (omega (arith, room k t)))
        ∙ record_values m y r
        ∙ ap (λ p. get_or (block_of r) p (pos 0) -ℤ first (block_of r)) (sym (same_low_bits (suc r.height) t.height y h))
        ∙ sym (record_values m (2 ^ t.height + y) r)
        ∙ same (2 ^ t.height + y) (omega (arith, room k t)))

    -- With one variable they have blocks of equal differences, and so one node.
    same_height : r.height ≡ t.height → m ≡ k
    same_height e =
        sym r.number
        ∙ ap (λ i. node n table (suc i) (block_of r)) e
        ∙ same_node n table (suc t.height) (block_of r) (block_of t) alike
        ∙ t.number
      where
        left_length : length (differences (block_of r)) ≡ 2 ^ suc r.height
        left_length = length_differences (block_of r) ∙ whole_length n table size (suc r.height) r.place r.lower r.inside

        right_length : length (differences (block_of t)) ≡ 2 ^ suc r.height
        right_length = length_differences (block_of t) ∙ whole_length n table size (suc t.height) t.place t.lower t.inside ∙ ap (λ i. 2 ^ suc i) (sym e)

        at_place : (x : ℕ) → x < 2 ^ suc r.height → get_or (differences (block_of r)) x (pos 0) ≡ get_or (differences (block_of t)) x (pos 0)
        at_place x l =
            ap (λ p. get_or (differences (block_of r)) p (pos 0)) (sym (mod-eq_of_lt l))
            ∙ sym (record_differences m x r)
            ∙ same x (let p = pow_mono r.lower in omega arith)
            ∙ record_differences k x t
            ∙ ap (λ p. get_or (differences (block_of t)) p (pos 0)) (ap (λ i. x % 2 ^ suc i) (sym e) ∙ mod-eq_of_lt l)

        alike : differences (block_of r) ≡ differences (block_of t)
        alike = ext_get_or (pos 0) (differences (block_of r)) (differences (block_of t)) (left_length ∙ sym right_length) (λ x l. at_place x (omega (arith, left_length)))

  -- Records of one function are one record.
  one_function_one_record : (m k : ℕ) → RecordBlock n table m → RecordBlock n table k → ((x : ℕ) → x < 2 ^ n → node_function n table m x ≡ node_function n table k x) → m ≡ k
  one_function_one_record m k r t same = by_height (dec_lt r.height t.height) (dec_lt t.height r.height)
    where
      by_height : Dec (r.height < t.height) → Dec (t.height < r.height) → m ≡ k
      by_height (yes h) d = absurd (not_lower m k r t same h)
      by_height (no h) (yes l) = absurd (not_lower k m t r (λ x p. sym (same x p)) l)
      by_height (no h) (no l) = same_height m k r t same (omega arith)

  -- And so nodes of one function are one node.
  pub one_function_one_node : (m k : ℕ) → m ≤ length (records n table) → k ≤ length (records n table) → ((x : ℕ) → x < 2 ^ n → node_function n table m x ≡ node_function n table k x) → m ≡ k
  one_function_one_node zero zero lm lk same = refl
  one_function_one_node zero (suc k) lm lk same =
      absurd (not_terminal (suc k) (record_block n table size (suc k) (omega arith) lk) (λ x p. sym (same x p) ∙ path_terminal (written n table) n x))
  one_function_one_node (suc m) zero lm lk same =
      absurd (not_terminal (suc m) (record_block n table size (suc m) (omega arith) lm) (λ x p. same x p ∙ path_terminal (written n table) n x))
  one_function_one_node (suc m) (suc k) lm lk same =
      one_function_one_record (suc m) (suc k) (record_block n table size (suc m) (omega arith) lm) (record_block n table size (suc k) (omega arith) lk) same
