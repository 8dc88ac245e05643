-- Values from a to b: one after the other, one more, and their sum within bounds.
use Rattle.std.proofs.Common.{ℕ, suc, ◌+◌, ◌-◌, ◌*◌, ◌^◌, ◌≤◌, ◌<◌, List, [], ◌∷◌, ◌++◌, map, arith}
use Rattle.std.specs.Prelude.{◌≡◌, Bool, length, get_or, take, drop, ℤ, pos, ◌+ℤ◌}
use Rattle.std.proofs.Common.{sym, ◌∙◌, mul-le-mul_right, length-drop, ext_get_or, get_or-take, get_or-drop, length-take-le, pow_mono}
use Rattle.std.proofs.Math.Path.{ap}
use Rattle.std.proofs.Math.ListN.{length-map}
use Rattle.std.specs.Int.Signed.{mag}
use Rattle.numbers.specs.Conditions.{Part}
use Rattle.numbers.specs.Lists.{numbers_from, exact_sum}
use Rattle.numbers.proofs.Laws.Bounds.{value_mag}
use Rattle.numbers.proofs.Laws.Extremal.{Extreme, FirstOver}
use Rattle.numbers.proofs.Laws.Lists.{length_range, get_d_range, get_d_map, range_suc, map_append}
use Rattle.numbers.proofs.Laws.Machine.{mag_add}
use Rattle.numbers.proofs.Laws.Sums.{exact_one, sum_snoc, sum_small}
use Rattle.diagram.specs.Accepted.{written}
use Rattle.diagram.specs.Records.{offset as table_offset}
use Rattle.diagram.specs.Walk.{record_count, path_weight, walk_value}
use Rattle.diagram.specs.Inner.Edges.{Passing}
use Rattle.diagram.proofs.Laws.Checks.{variables_range}
use Rattle.diagram.proofs.Laws.Edges.{passes_walkable}
use Rattle.diagram.proofs.Laws.NodeRanges.{path_small}
use Rattle.diagram.proofs.Laws.Walks.{walk_value_lem}
use Rattle.report.specs.Report.{values_from}

-- ---- values from a to b

module _ (n : ℕ) (offset : ℤ) (list : List ℤ) (a : ℕ) where
  pub values_count : (b : ℕ) → length (values_from n offset list a b) ≡ suc b - a
  unfolding values_from
  values_count b = length-map (numbers_from a (suc b - a)) (walk_value n offset list) ∙ length_range a (suc b - a)

  pub values_at_lem : (b j : ℕ) → j < suc b - a → get_or (values_from n offset list a b) j (pos 0) ≡ walk_value n offset list (a + j)
  unfolding values_from
  values_at_lem b j h =
      get_d_map (walk_value n offset list) (numbers_from a (suc b - a)) j 0 (pos 0) (rw length_range h)
      ∙ ap (walk_value n offset list) (get_d_range a (suc b - a) j 0 h)

  -- The first alone, and one more.
  values_one : values_from n offset list a a ≡ walk_value n offset list a ∷ []
  unfolding values_from numbers_from
  values_one = ap (λ k. map (walk_value n offset list) (numbers_from a k)) (let e : suc a - a ≡ 1 = omega arith in e)

  values_next : (x : ℕ) → a ≤ x → values_from n offset list a (x + 1) ≡ values_from n offset list a x ++ walk_value n offset list (x + 1) ∷ []
  unfolding values_from
  values_next x h =
      ap (λ k. map (walk_value n offset list) (numbers_from a k)) (let e : suc (x + 1) - a ≡ suc (suc x - a) = omega arith in e)
      ∙ ap (map (walk_value n offset list)) (range_suc a (suc x - a) ∙ ap (λ k. numbers_from a (suc x - a) ++ k ∷ []) (let e : a + (suc x - a) ≡ x + 1 = omega arith in e))
      ∙ map_append (walk_value n offset list) (numbers_from a (suc x - a)) ((x + 1) ∷ [])

  -- Their extremes and their sum, likewise.
  module _ {le : ℤ → ℤ → Bool} {pick : ℤ → ℤ → ℤ} {of : List ℤ → ℤ} (e : Extreme le pick of) where
    pub extreme_one : of (values_from n offset list a a) ≡ walk_value n offset list a
    extreme_one =
        let m = e.among (values_from n offset list a a) (rw (values_count a) (omega arith)) in
        let l : m.0 < suc a - a = rw (values_count a) at m.1.0 in
        m.1.1 ∙ values_at_lem a m.0 l ∙ ap (walk_value n offset list) (let z : a + m.0 ≡ a = omega arith in z)

    pub extreme_more : (x : ℕ) → a ≤ x → of (values_from n offset list a (x + 1)) ≡ pick (of (values_from n offset list a x)) (walk_value n offset list (x + 1))
    extreme_more x h = ap of (values_next x h) ∙ e.snoc (values_from n offset list a x) (walk_value n offset list (x + 1)) (rw (values_count x) (omega arith))

    -- It comes before every value, and is one.
    pub values_first : (b : ℕ) → a ≤ b → FirstOver le (Part a b) (walk_value n offset list) (of (values_from n offset list a b))
    values_first b h =
        let m = e.among (values_from n offset list a b) (rw (values_count b) (omega arith)) in
        let l : m.0 < suc b - a = rw (values_count b) at m.1.0 in
        record {
          before = λ x k.
              let at = k.0 in
              let most = k.1 in
              ap (le (of (values_from n offset list a b))) (sym (values_at_lem b (x - a) (omega arith) ∙ ap (walk_value n offset list) (let p : a + (x - a) ≡ x = omega arith in p)))
              ∙ e.before (values_from n offset list a b) (x - a) (rw (values_count b) (omega arith));
          met = (a + m.0, ((omega arith, omega arith), m.1.1 ∙ values_at_lem b m.0 l));
        }

  pub sum_one : exact_sum (values_from n offset list a a) ≡ walk_value n offset list a
  sum_one = ap exact_sum values_one ∙ exact_one (walk_value n offset list a)

  pub sum_more : (x : ℕ) → a ≤ x → exact_sum (values_from n offset list a (x + 1)) ≡ exact_sum (values_from n offset list a x) +ℤ walk_value n offset list (x + 1)
  sum_more x h = ap exact_sum (values_next x h) ∙ sum_snoc (values_from n offset list a x) (walk_value n offset list (x + 1))

-- ---- how great they are

-- A value of a list that passed its checks.
pub value_small : (n : ℕ) (offset : ℤ) (list : List ℤ) → Passing n offset list → (x : ℕ) → mag (walk_value n offset list x) ≤ 209715200
unfolding walk_value
value_small n offset list p x =
    let v = (variables_range n p.variables).1 in
    let o = value_mag offset p.start in
    let w = path_small list n (record_count list) x (λ m l. passes_walkable n list p.records m l) in
    let s = mag_add offset (path_weight list n (record_count list) x) in
    omega arith

-- The sum of so many.
values_sum_small : (n : ℕ) (offset : ℤ) (list : List ℤ) → Passing n offset list → (a b : ℕ) → mag (exact_sum (values_from n offset list a b)) ≤ (suc b - a) * 209715201
values_sum_small n offset list p a b =
    let c = values_count n offset list a b in
    let s = sum_small 209715200 (values_from n offset list a b) (λ j h. rw (values_at_lem n offset list a b j (omega arith)) (value_small n offset list p (a + j))) in
    rw c at s

-- Over a part of the domain it is below 2^40.
pub part_sum_small : (n : ℕ) (offset : ℤ) (list : List ℤ) → Passing n offset list → (a b : ℕ) → b < 2 ^ n → mag (exact_sum (values_from n offset list a b)) < 2 ^ 40
part_sum_small n offset list p a b h =
    let v = (variables_range n p.variables).1 in
    let most = pow_mono {i = n} {j = 12} v in
    let s = values_sum_small n offset list p a b in
    let few : suc b - a ≤ 4096 = omega arith in
    let m = mul-le-mul_right 209715201 few in
    omega arith

-- ---- the records of a table

-- Its values from a to b are the table's.
pub values_of_table : (n : ℕ) (table : List ℤ) → length table ≡ 2 ^ n → (a b : ℕ) → b < 2 ^ n → values_from n (table_offset table) (written n table) a b ≡ take (suc b - a) (drop a table)
values_of_table n table size a b h =
    ext_get_or (pos 0) (values_from n (table_offset table) (written n table) a b) (take (suc b - a) (drop a table))
    (values_count n (table_offset table) (written n table) a b ∙ sym (length-take-le (suc b - a) (drop a table) (rw length-drop (omega arith))))
    (λ j l.
    let k : j < suc b - a = rw (values_count n (table_offset table) (written n table) a b) at l in
    values_at_lem n (table_offset table) (written n table) a b j k
    ∙ walk_value_lem n table size (a + j) (omega arith)
    ∙ sym (get_or-take (suc b - a) (drop a table) j (pos 0) k ∙ get_or-drop a table j (pos 0)))
