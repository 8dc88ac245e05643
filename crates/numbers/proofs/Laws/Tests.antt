-- Each test passes exactly where its plain condition holds.
use Rattle.std.specs.Prelude.{ℕ, ◌+◌, ◌-◌, ◌≤◌, ◌<◌, ◌≡◌, refl, ◌↔◌, Bool, true, false, not, ◌&&◌, ◌||◌, List, length, get_or, T, leb, ltb, eqb, ℤ, pos, negsuc, neg_ℤ, ◌≤ℤ◌, ◌<ℤ◌}
use Rattle.std.proofs.Common.{zero-le, sym, ◌∙◌, ap, subst, arith, ltb-true, leb-true, eqb-true, lt-ltb, le-leb, eq-eqb}
use Rattle.std.proofs.lemmas.Bool.{false≢true}
use Rattle.std.specs.Int.Signed.{le_z, lt_z, non_neg, lt_z_no, clash_ℤ, yes_non_neg}
use Rattle.numbers.specs.Lists.{numbers_from, every}
use Rattle.numbers.specs.Ranges.{most_variables, widest_address, is_variables, is_limit, within, is_value, eq_z}
use Rattle.numbers.proofs.Laws.Bools.{both, and_both}
use Rattle.numbers.proofs.Laws.Integers.{eq_z_true, eq_z_refl}
use Rattle.numbers.proofs.Laws.Lists.{every_at, every_from, every_not, length_range, get_d_range}
use Rattle.numbers.specs.Conditions.{Between, Variables, Limit, TableValue, Signed32}

-- ---- tests of numbers

pub le_test : (a b : ℕ) → (leb a b ≡ true) ↔ (a ≤ b)
le_test a b = (leb-true a b, le-leb a b)

pub lt_test : (a b : ℕ) → (ltb a b ≡ true) ↔ (a < b)
lt_test a b = (ltb-true a b, lt-ltb a b)

pub eq_test : (a b : ℕ) → (eqb a b ≡ true) ↔ (a ≡ b)
eq_test a b = (eqb-true a b, eq-eqb a b)

-- A test as a type, and as an equation.
passed : (b : Bool) → (b ≡ true) ↔ T b
passed true = ((λ h. tt), (λ t. refl))
passed false = ((λ h. absurd (false≢true h)), (λ t. absurd t))

-- A test fails exactly where its condition does not hold.
pub fails_test : {P : Type 0} (b : Bool) → (b ≡ true) ↔ P → (b ≡ false) ↔ (¬ P)
fails_test true t = ((λ h. absurd (false≢true (sym h))), (λ n. absurd (n (t.0 refl))))
fails_test false t = ((λ h p. false≢true (t.1 p)), (λ n. refl))

-- The order of integers.
pub less_test : (a b : ℤ) → (lt_z a b ≡ true) ↔ (a <ℤ b)
less_test a b = ((λ h. record { lt = (passed (lt_z a b)).0 h }), (λ h. (passed (lt_z a b)).1 h.lt))

pub at_most_test : (a b : ℤ) → (le_z a b ≡ true) ↔ (a ≤ℤ b)
at_most_test a b = ((λ h. record { le = (passed (le_z a b)).0 h }), (λ h. (passed (le_z a b)).1 h.le))

-- What is not less is at least the other; what is not negative is at least 0.
pub not_less_test : (a b : ℤ) → (lt_z a b ≡ false) ↔ (b ≤ℤ a)
not_less_test a b = (
  (λ h. lt_z_no ((passed (not (lt_z a b))).0 (ap not h))),
  (λ h. (fails_test (lt_z a b) (less_test a b)).1 (λ l. clash_ℤ l h)),
)

pub non_negative_test : (z : ℤ) → (non_neg z ≡ true) ↔ (pos 0 ≤ℤ z)
non_negative_test (pos a) = ((λ h. (at_most_test (pos 0) (pos a)).0 (le-leb 0 a zero-le)), (λ h. refl))
non_negative_test (negsuc a) = ((λ h. absurd (false≢true h)), (λ h. (passed (non_neg (negsuc a))).1 (yes_non_neg h)))

-- ---- two tests

pub and_test : {P Q : Type 0} (a b : Bool) → (a ≡ true) ↔ P → (b ≡ true) ↔ Q → ((a && b) ≡ true) ↔ (P × Q)
and_test a b p q = (
  (λ h. let parts = both a b h in (p.0 parts.0, q.0 parts.1)),
  (λ h. and_both a b (p.1 h.0) (q.1 h.1)),
)

-- ---- ranges

pub between_test : (low high z : ℤ) → (within low high z ≡ true) ↔ Between low high z
unfolding within Between
between_test low high z = and_test (le_z low z) (le_z z high) (at_most_test low z) (at_most_test z high)

pub variables_test : (n : ℕ) → (is_variables n ≡ true) ↔ Variables n
unfolding is_variables most_variables Variables
variables_test n = and_test (leb 1 n) (leb n 12) (le_test 1 n) (le_test n 12)

pub limit_test : (limit : ℕ) → (is_limit limit ≡ true) ↔ Limit limit
unfolding is_limit widest_address Limit
limit_test limit = and_test (leb 1 limit) (leb limit 12) (le_test 1 limit) (le_test limit 12)

pub value_test : (z : ℤ) → (is_value z ≡ true) ↔ TableValue z
unfolding is_value TableValue
value_test z = between_test _ _ z

pub signed_32_test : (z : ℤ) → (within (neg_ℤ (pos 2147483648)) (pos 2147483647) z ≡ true) ↔ Signed32 z
unfolding Signed32
signed_32_test z = between_test _ _ z

-- ---- every element

-- Every element of a list, by its place.
pub every_test : {A : Type 0} {P : A → Type 0} (test : A → Bool) (l : List A) (d : A) → ((a : A) → (test a ≡ true) ↔ P a) → (every test l ≡ true) ↔ ((x : ℕ) → x < length l → P (get_or l x d))
every_test test l d t = (
  (λ h x r. (t (get_or l x d)).0 (every_at test l d h x r)),
  (λ h. every_from test l d (λ x r. (t (get_or l x d)).1 (h x r))),
)

-- Every number from 1 to count.
pub every_from_one : {P : ℕ → Type 0} (test : ℕ → Bool) (count : ℕ) → ((k : ℕ) → (test k ≡ true) ↔ P k) → (every test (numbers_from 1 count) ≡ true) ↔ ((k : ℕ) → 1 ≤ k → k ≤ count → P k)
every_from_one {P} test count t =
    let all = every_test {P = P} test (numbers_from 1 count) 0 t in
    let long : length (numbers_from 1 count) ≡ count = length_range 1 count in (
      (λ h k low high.
          let same : 1 + (k - 1) ≡ k = omega arith in
          subst P (get_d_range 1 count (k - 1) 0 (omega arith) ∙ same) (all.0 h (k - 1) (rw long (omega arith)))),
      (λ h. all.1 (λ x r.
          let inside : x < count = rw long at r in
          subst P (sym (get_d_range 1 count x 0 inside)) (h (1 + x) (omega arith) (omega arith)))),
    )

-- The second test, where the first fails.
pub or_test : {P Q : Type 0} (a b : Bool) → (a ≡ true) ↔ P → (b ≡ true) ↔ Q → ((a || b) ≡ true) ↔ ((¬ P) → Q)
or_test true b p q = ((λ h n. absurd (n (p.0 refl))), (λ h. refl))
or_test false b p q = ((λ h n. q.0 h), (λ h. q.1 (h (λ x. absurd (false≢true (p.1 x))))))

-- Equal integers.
pub same_test : (a b : ℤ) → (eq_z a b ≡ true) ↔ (a ≡ b)
same_test a b = (eq_z_true a b, λ e. subst (λ c. eq_z a c ≡ true) e (eq_z_refl a))

-- ---- tests that fail

-- A test fails exactly where its condition does not hold.
pub fails : {P : Type 0} (b : Bool) → (b ≡ true) ↔ P → (b ≡ false) ↔ (¬ P)
fails true t = ((λ h. absurd (false≢true (sym h))), (λ n. absurd (n (t.0 refl))))
fails false t = ((λ h p. absurd (false≢true (t.1 p))), (λ n. refl))

-- The elements of a list of known length: all pass, or one, at some place, does not meet the condition.
module _ {A : Type 0} {P : A → Type 0} (test : A → Bool) (d : A) (t : (a : A) → (test a ≡ true) ↔ P a) (l : List A) (size : ℕ) (long : length l ≡ size) where
  pub all_pass : (every test l ≡ true) ↔ ((x : ℕ) → x < size → P (get_or l x d))
  all_pass = let all = every_test {P = P} test l d t in ((λ h x r. all.0 h x (rw long r)), (λ h. all.1 (λ x r. h x (rw long at r))))

  pub some_fails : (every test l ≡ false) ↔ ((x : ℕ) × (x < size) × (¬ P (get_or l x d)))
  some_fails = (
    (λ h. let some = every_not test l d h in let a = get_or l some.0 d in (some.0, rw long at some.1.0, (fails (test a) (t a)).0 some.1.1)),
    (λ some. (fails (every test l) all_pass).1 (λ all. some.2 (all some.0 some.1))),
  )
