-- The range of a node's function: 0 for the terminal, for a record by its children's, as the least and the greatest over the domain, and
-- within 32 bits.
use Prim.Native.Nat.{ℕ, zero, suc, ◌+◌, ◌-◌, ◌*◌, ◌%◌, ◌^◌, ◌≤◌, ◌<◌}
use Rattle.std.specs.Prelude.{◌≡◌, refl, ◌↔◌, Bool, true, false, ◌&&◌, List, length, get_or, ℤ, pos, nat_abs, ◌+ℤ◌}
use Rattle.std.proofs.Math.Path.{sym, ap₂}
use Rattle.std.proofs.Common.{◌∙◌, ap, mod-lt, mod-eq_of_lt, one-mul, zero-add, arith, pow_pos, pow_mono, ltb-true}
use Rattle.std.proofs.Math.Logic.Iff
use Rattle.std.proofs.Math.Nat.{mul-add-mod_self_right, two-pow-succ}
use Rattle.std.proofs.lemmas.List.{length-map}
use Rattle.std.specs.Int.Signed.{mag, lt_z}
use Rattle.numbers.specs.Conditions.{Domain, LeastOver, GreatestOver, Signed32}
use Rattle.numbers.specs.Extremes.{least_of, greatest_of}
use Rattle.numbers.specs.Lists.{numbers_from}
use Rattle.numbers.specs.Ranges.{eq_z, lesser, greater}
use Rattle.numbers.proofs.Laws.Bools.{yes_or_no, both, and_both}
use Rattle.numbers.proofs.Laws.Bounds.{signed_32_of_mag}
use Rattle.numbers.proofs.Laws.Extremal.{Extreme, leasts, greatests, extreme_is, FirstOver, first_is_least, first_is_greatest}
use Rattle.numbers.proofs.Laws.Integers.{eq_z_true, eq_z_refl}
use Rattle.numbers.proofs.Laws.Lists.{length_range, get_d_range, get_d_map}
use Rattle.numbers.proofs.Laws.Machine.{mag_add}
use Rattle.numbers.proofs.Laws.Tests.{same_test, signed_32_test}
use Rattle.diagram.specs.Walk.{variable_at, low_at, high_at, weight_at, least_at, greatest_at, child_fits, edges_fit, bit_set, path_weight, node_values, range_fits, record_fits, record_count}
use Rattle.diagram.specs.Inner.Edges.{Walkable, range_at, range_by, range_from, range_follows, EarlierPass, edge_at}
use Rattle.diagram.proofs.Laws.Checks.{EdgeParts, counted, child_within, child_node, child_record, parts_of_edges, edges_of_record, range_of_record, range_left}
use Rattle.diagram.proofs.Laws.Edges.{edge_weight, edge_before, path_edge}
use Rattle.diagram.proofs.Laws.Steps.{path_terminal, path_high, path_low, Below, path_from_above, path_bits, bit_clear, bit_there}

-- ---- the values of a node

pub values_length : (n : ℕ) (list : List ℤ) (k : ℕ) → length (node_values n list k) ≡ 2 ^ n
unfolding node_values
values_length n list k = length-map (numbers_from 0 (2 ^ n)) (path_weight list n k) ∙ length_range 0 (2 ^ n)

pub value_at : (n : ℕ) (list : List ℤ) (k x : ℕ) → x < 2 ^ n → get_or (node_values n list k) x (pos 0) ≡ path_weight list n k x
unfolding node_values
value_at n list k x h =
    get_d_map (path_weight list n k) (numbers_from 0 (2 ^ n)) x 0 (pos 0) (rw length_range h)
    ∙ ap (path_weight list n k) (get_d_range 0 (2 ^ n) x 0 h ∙ zero-add x)

-- ---- by the children

module _ {le : ℤ → ℤ → Bool} {pick : ℤ → ℤ → ℤ} {of : List ℤ → ℤ} (e : Extreme le pick of) (n : ℕ) (list : List ℤ) where
  -- It comes before every value, and is one.
  pub before_value : (k x : ℕ) → x < 2 ^ n → le (of (node_values n list k)) (path_weight list n k x) ≡ true
  before_value k x h = ap (le (of (node_values n list k))) (sym (value_at n list k x h)) ∙ e.before (node_values n list k) x (rw values_length h)

  pub some_value : (k : ℕ) → (x : ℕ) × ((x < 2 ^ n) × (of (node_values n list k) ≡ path_weight list n k x))
  some_value k =
      let m = e.among (node_values n list k) (rw values_length (pow_pos n)) in
      let h : m.0 < 2 ^ n = rw values_length at m.1.0 in
      (m.0, (h, m.1.1 ∙ value_at n list k m.0 h))

  -- A number is it exactly where it is the first over the domain.
  pub extreme_over : (k : ℕ) (z : ℤ) → (z ≡ of (node_values n list k)) ↔ FirstOver le (Domain n) (path_weight list n k) z
  extreme_over k z = (
    (λ p.
        let m = some_value k in
        record {
          before = λ x h. ap (λ y. le y (path_weight list n k x)) p ∙ before_value k x h;
          met = (m.0, (m.1.0, p ∙ m.1.1));
        }),
    (λ r.
        let m = r.met in
        sym (extreme_is e (node_values n list k) z m.0 (rw values_length m.1.0) (m.1.1 ∙ sym (value_at n list k m.0 m.1.0)) (λ y l.
        let inside : y < 2 ^ n = rw values_length at l in
        ap (le z) (value_at n list k y inside) ∙ r.before y inside))),
  )

  -- The terminal's is 0.
  pub terminal_extreme : of (node_values n list 0) ≡ pos 0
  terminal_extreme = let m = some_value 0 in m.1.1 ∙ path_terminal list n m.0

  -- A record of variable i: the first of its lower child's and of its weight with its upper child's.
  module _ (i k : ℕ) (inside : i < n) (own : variable_at list (suc k) ≡ pos i) (lower : Below list i (nat_abs (low_at list (suc k)))) (upper : Below list i (nat_abs (high_at list (suc k)))) where
    abbrev low : ℕ
    low = nat_abs (low_at list (suc k))

    abbrev high : ℕ
    high = nat_abs (high_at list (suc k))

    abbrev weight : ℤ
    weight = weight_at list (suc k)

    told : eq_z (variable_at list (suc k)) (pos i) ≡ true
    told = ap (λ v. eq_z v (pos i)) own ∙ eq_z_refl (pos i)

    from_own : (x : ℕ) → path_weight list n (suc k) x ≡ path_weight list (suc i) (suc k) x
    from_own x = path_from_above list (suc i) n (suc k) x inside (record { lower = λ one. (i, (omega arith, own)) })

    on_low : (x : ℕ) → bit_set x i ≡ false → path_weight list n (suc k) x ≡ path_weight list n low x
    on_low x b = from_own x ∙ path_low list i k x told b ∙ sym (path_from_above list i n low x (omega arith) lower)

    on_high : (x : ℕ) → bit_set x i ≡ true → path_weight list n (suc k) x ≡ weight +ℤ path_weight list n high x
    on_high x b = from_own x ∙ path_high list i k x told b ∙ ap (λ z. weight +ℤ z) (sym (path_from_above list i n high x (omega arith) upper))

    -- A child's value stays where only the low bits do.
    child_bits : (c x y : ℕ) → Below list i c → x % 2 ^ i ≡ y % 2 ^ i → path_weight list n c x ≡ path_weight list n c y
    child_bits c x y b s = path_from_above list i n c x (omega arith) b ∙ path_bits list i c x y s ∙ sym (path_from_above list i n c y (omega arith) b)

    before_low : le (of (node_values n list (suc k))) (of (node_values n list low)) ≡ true
    before_low =
        let m = some_value low in
        let l = mod-lt m.0 (pow_pos i) in
        ap (le (of (node_values n list (suc k)))) (m.1.1 ∙ child_bits low m.0 (m.0 % 2 ^ i) lower (sym (mod-eq_of_lt l)) ∙ sym (on_low (m.0 % 2 ^ i) (bit_clear (m.0 % 2 ^ i) i l)))
        ∙ before_value (suc k) (m.0 % 2 ^ i) (let p = pow_mono inside in let q = two-pow-succ i in omega arith)

    before_high : le (of (node_values n list (suc k))) (weight +ℤ of (node_values n list high)) ≡ true
    before_high =
        let m = some_value high in
        let r = m.0 % 2 ^ i in
        let l : r < 2 ^ i = mod-lt m.0 (pow_pos i) in
        ap (le (of (node_values n list (suc k))))
        (ap (λ z. weight +ℤ z) (m.1.1 ∙ child_bits high m.0 (2 ^ i + r) upper (sym (low_bits m.0)))
        ∙ sym (on_high (2 ^ i + r) (bit_there r i l)))
        ∙ before_value (suc k) (2 ^ i + r) (let p = pow_mono inside in let q = two-pow-succ i in omega arith)
      where
        low_bits : (x : ℕ) → (2 ^ i + x % 2 ^ i) % 2 ^ i ≡ x % 2 ^ i
        low_bits x = ap (λ p. (p + x % 2 ^ i) % 2 ^ i) (sym (one-mul (2 ^ i))) ∙ mul-add-mod_self_right 1 (2 ^ i) (x % 2 ^ i) ∙ mod-eq_of_lt (mod-lt x (pow_pos i))

    extreme_by_children : of (node_values n list (suc k)) ≡ pick (of (node_values n list low)) (weight +ℤ of (node_values n list high))
    extreme_by_children =
        e.apart (of (node_values n list (suc k))) first
        (e.after_both (of (node_values n list (suc k))) (of (node_values n list low)) (weight +ℤ of (node_values n list high)) before_low before_high)
        (ap (le first) m.1.1
        ∙ yes_or_no (bit_set x i)
        (λ b.
        ap (le first) (on_high x b)
        ∙ e.through first (weight +ℤ of (node_values n list high)) (weight +ℤ path_weight list n high x)
        (e.before_right (of (node_values n list low)) (weight +ℤ of (node_values n list high)))
        (e.more weight (of (node_values n list high)) (path_weight list n high x) ∙ before_value high x m.1.0))
        (λ b.
        ap (le first) (on_low x b)
        ∙ e.through first (of (node_values n list low)) (path_weight list n low x)
        (e.before_left (of (node_values n list low)) (weight +ℤ of (node_values n list high)))
        (before_value low x m.1.0)))
      where
        first : ℤ
        first = pick (of (node_values n list low)) (weight +ℤ of (node_values n list high))

        m : (x : ℕ) × ((x < 2 ^ n) × (of (node_values n list (suc k)) ≡ path_weight list n (suc k) x))
        m = some_value (suc k)

        x : ℕ
        x = m.0

  -- The same of record k, from 1.
  pub extreme_of_record : (i k : ℕ) → 1 ≤ k → i < n → variable_at list k ≡ pos i → Below list i (nat_abs (low_at list k)) → Below list i (nat_abs (high_at list k)) → of (node_values n list k) ≡ pick (of (node_values n list (nat_abs (low_at list k)))) (weight_at list k +ℤ of (node_values n list (nat_abs (high_at list k))))
  extreme_of_record i zero one h own lower upper = absurd (omega arith)
  extreme_of_record i (suc k) one h own lower upper = extreme_by_children i k h own lower upper

-- ---- a record judged by its children's numbers

-- What a list gives for node 0, and for a record.
pub range_terminal : (list : List ℤ) (k : ℕ) → k ≡ 0 → range_at list k ≡ record { least = pos 0; greatest = pos 0 }
unfolding range_at
range_terminal list k e = rw e

pub range_record : (list : List ℤ) (k : ℕ) → 1 ≤ k → range_at list k ≡ record { least = least_at list k; greatest = greatest_at list k }
unfolding range_at
range_record list zero h = absurd (omega arith)
range_record list (suc k) h = refl

module _ (n : ℕ) (list : List ℤ) (k : ℕ) where
  -- Its last two numbers as tests, and as the least and the greatest of its function.
  least_over : (least_at list k ≡ least_of (node_values n list k)) ↔ LeastOver (Domain n) (path_weight list n k) (least_at list k)
  least_over = Iff.trans (extreme_over leasts n list k (least_at list k)) (first_is_least (Domain n) (path_weight list n k) (least_at list k))

  greatest_over : (greatest_at list k ≡ greatest_of (node_values n list k)) ↔ GreatestOver (Domain n) (path_weight list n k) (greatest_at list k)
  greatest_over = Iff.trans (extreme_over greatests n list k (greatest_at list k)) (first_is_greatest (Domain n) (path_weight list n k) (greatest_at list k))

  pub least_test : (eq_z (least_at list k) (least_of (node_values n list k)) ≡ true) ↔ LeastOver (Domain n) (path_weight list n k) (least_at list k)
  least_test = Iff.trans (same_test (least_at list k) (least_of (node_values n list k))) least_over

  pub greatest_test : (eq_z (greatest_at list k) (greatest_of (node_values n list k)) ≡ true) ↔ GreatestOver (Domain n) (path_weight list n k) (greatest_at list k)
  greatest_test = Iff.trans (same_test (greatest_at list k) (greatest_of (node_values n list k))) greatest_over

  -- The numbers of a record that passes are true.
  passing_range : record_fits n list k ≡ true → (least_at list k ≡ least_of (node_values n list k)) × (greatest_at list k ≡ greatest_of (node_values n list k))
  unfolding range_fits
  passing_range fits =
      let r = both (eq_z (least_at list k) (least_of (node_values n list k))) (eq_z (greatest_at list k) (greatest_of (node_values n list k))) (range_of_record n list k fits) in
      (eq_z_true (least_at list k) (least_of (node_values n list k)) r.0, eq_z_true (greatest_at list k) (greatest_of (node_values n list k)) r.1)

  pub passing_least : record_fits n list k ≡ true → LeastOver (Domain n) (path_weight list n k) (least_at list k)
  passing_least fits = least_over.0 (passing_range fits).0

  pub passing_greatest : record_fits n list k ≡ true → GreatestOver (Domain n) (path_weight list n k) (greatest_at list k)
  passing_greatest fits = greatest_over.0 (passing_range fits).1

  -- True numbers of fitting edges pass.
  pub true_range_passes : edges_fit n list k ≡ true → LeastOver (Domain n) (path_weight list n k) (least_at list k) → GreatestOver (Domain n) (path_weight list n k) (greatest_at list k) → record_fits n list k ≡ true
  unfolding range_fits
  true_range_passes fits low high =
      range_left n list k fits
      ∙ and_both (eq_z (least_at list k) (least_of (node_values n list k))) (eq_z (greatest_at list k) (greatest_of (node_values n list k))) (least_test.1 low) (greatest_test.1 high)

-- The path from a node of walkable records stays small.
pub path_small : (list : List ℤ) (i k x : ℕ) → ((m : ℕ) → m ≤ k → Walkable list m) → mag (path_weight list i k x) ≤ i * 16777216
unfolding path_weight
path_small list zero k x w = omega arith
path_small list (suc i) k x w =
    let edge = edge_at list i k x in
    let inner = path_small list i edge.node x (λ m l. w m (let b = edge_before list i k x (w k (omega arith)) in omega arith)) in
    let heavy = edge_weight list i k x (w k (omega arith)) in
    let both_of = mag_add edge.weight (path_weight list i edge.node x) in
    rw (path_edge list i k x) (omega arith)

module _ (n : ℕ) (list : List ℤ) (k : ℕ) (earlier : EarlierPass n list k) where
  -- What the list gives for an earlier node is true.
  range_true : (c : ℕ) → c < k → ((range_at list c).least ≡ least_of (node_values n list c)) × ((range_at list c).greatest ≡ greatest_of (node_values n list c))
  unfolding range_at
  range_true zero h = (sym (terminal_extreme leasts n list), sym (terminal_extreme greatests n list))
  range_true (suc c) h = passing_range n list (suc c) (earlier.pass (suc c) (omega arith) h)

  -- An earlier node may be walked from.
  earlier_walkable : k ≤ suc (record_count list) → (c : ℕ) → c < k → Walkable list c
  earlier_walkable l c h = record {
    known = omega arith;
    low = λ one. (edges_of_record n list c (earlier.pass c one h)).low;
    high = λ one. (edges_of_record n list c (earlier.pass c one h)).high;
    weight = λ one. (edges_of_record n list c (earlier.pass c one h)).weight;
  }

  -- So its range is small.
  pub range_small : k ≤ suc (record_count list) → n ≤ 12 → (c : ℕ) → c < k → (mag (range_at list c).least ≤ 201326592) × (mag (range_at list c).greatest ≤ 201326592)
  range_small l v c h =
      let t = range_true c h in
      let a = some_value leasts n list c in
      let b = some_value greatests n list c in
      (rw (t.0, a.1.1) (small a.0), rw (t.1, b.1.1) (small b.0))
    where
      small : (x : ℕ) → mag (path_weight list n c x) ≤ 201326592
      small x = let p = path_small list n c x (λ m b. earlier_walkable l m (omega arith)) in omega arith

  -- A child of record k is a node below its variable.
  child_below : 1 ≤ k → (i : ℕ) → variable_at list k ≡ pos i → (child : ℤ) → child_fits list k child ≡ true → Below list i (nat_abs child)
  child_below one i own child fits = record {
    lower = λ some.
        let c = child_node list k child fits in
        let v = counted (n - 1) (variable_at list (nat_abs child)) (edges_of_record n list (nat_abs child) (earlier.pass (nat_abs child) some (let l = c.1 in omega arith))).variable in
        let apart : child ≡ pos 0 → ⊥ = (λ z. let q = ap nat_abs z in omega arith) in
        let lower = child_record list k child (child_within list k child fits) apart in
        (nat_abs (variable_at list (nat_abs child)), (ltb-true (nat_abs (variable_at list (nat_abs child))) i (sym (ap₂ (λ a b. lt_z a b) v.0 own) ∙ sym lower ∙ fits), v.0));
  }

  -- The record's own range follows from its children's.
  module _ (one : 1 ≤ k) (fits : edges_fit n list k ≡ true) where
    parts : EdgeParts n list k
    parts = parts_of_edges n list k fits

    by_numbers : {le : ℤ → ℤ → Bool} {pick : ℤ → ℤ → ℤ} {of : List ℤ → ℤ} (e : Extreme le pick of) → 1 ≤ n → of (node_values n list k) ≡ pick (of (node_values n list (nat_abs (low_at list k)))) (weight_at list k +ℤ of (node_values n list (nat_abs (high_at list k))))
    by_numbers e some =
        let c = counted (n - 1) (variable_at list k) parts.variable in
        extreme_of_record e n list (nat_abs (variable_at list k)) k one (let l = c.1 in omega arith) c.0
        (child_below one (nat_abs (variable_at list k)) c.0 (low_at list k) parts.low)
        (child_below one (nat_abs (variable_at list k)) c.0 (high_at list k) parts.high)

    pub range_judged : 1 ≤ n → range_follows list k ≡ range_fits n list k
    unfolding range_follows range_from range_by range_fits
    range_judged some =
        let a = range_true (nat_abs (low_at list k)) (let l = (child_node list k (low_at list k) parts.low).1 in omega arith) in
        let b = range_true (nat_abs (high_at list k)) (let l = (child_node list k (high_at list k) parts.high).1 in omega arith) in
        ap₂ (λ l g. eq_z (least_at list k) l && eq_z (greatest_at list k) g)
        (ap₂ (λ l h. lesser l (weight_at list k +ℤ h)) a.0 b.0 ∙ sym (by_numbers leasts some))
        (ap₂ (λ l h. greater l (weight_at list k +ℤ h)) a.1 b.1 ∙ sym (by_numbers greatests some))

-- ---- lists whose edges fit

module _ (n : ℕ) (list : List ℤ) (edges : (k : ℕ) → 1 ≤ k → k ≤ record_count list → edges_fit n list k ≡ true) where
  -- Every node may be walked from.
  fitting_walkable : (k : ℕ) → k ≤ record_count list → Walkable list k
  fitting_walkable k l = record {
    known = l;
    low = λ one. (parts_of_edges n list k (edges k one l)).low;
    high = λ one. (parts_of_edges n list k (edges k one l)).high;
    weight = λ one. (parts_of_edges n list k (edges k one l)).weight;
  }

  -- So a value of its function is small.
  pub fitting_small : n ≤ 12 → (k : ℕ) → k ≤ record_count list → (x : ℕ) → Signed32 (path_weight list n k x)
  fitting_small v k l x =
      let p = path_small list n k x (λ j b. fitting_walkable j (omega arith)) in
      (signed_32_test (path_weight list n k x)).0 (signed_32_of_mag (path_weight list n k x) (omega arith))
