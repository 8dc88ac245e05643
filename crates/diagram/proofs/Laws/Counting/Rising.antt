-- Rising lists: those whose steps are 0 to p. There are (p + 1)^m with m steps, and one of them is constant.
use Rattle.std.specs.Prelude.{ℕ, zero, suc, ◌+◌, ◌*◌, ◌^◌, ◌≤◌, ◌<◌, ◌≡◌, refl, true, false, ◌||◌, length, replicate, drop, ltb, ℤ, pos, negsuc, ◌+ℤ◌, ◌-ℤ◌}
use Rattle.std.proofs.Common.{sym, ◌∙◌, ap, true≢false, zero-add, suc-add, pow-suc, arith, ltb-false}
use Rattle.std.proofs.Math.Bool.{or-true}
use mathlib.Core.List.{List, [], ◌∷◌, ◌++◌, map, flat_map}
use Rattle.std.proofs.Math.Nat.{pow-zero}
use Rattle.std.proofs.lemmas.List.{length-map}
use Rattle.std.proofs.Math.IntN.{+ℤ_idr, +ℤ_comm}
use Rattle.numbers.specs.Lists.{numbers_from}
use Rattle.numbers.proofs.Laws.Bools.{yes_or_no}
use Rattle.numbers.proofs.Laws.Integers.{sub_add}
use Rattle.numbers.proofs.Laws.Lists.{length_range}
use Rattle.numbers.proofs.Laws.Selections.{length_flat_map}
use Rattle.blocks.specs.Blocks.{first}
use Rattle.blocks.specs.Classes.{same}
use Rattle.blocks.proofs.Laws.Same.{same_refl}
use Rattle.diagram.specs.Bound.{step_at, is_jump}
use Rattle.diagram.proofs.Laws.Counting.Different.{is_among, among_cons, among_run}

-- A step that is no jump is one of 0 to p.
pub no_jump : (p : ℕ) (step : ℤ) → is_jump p step ≡ false → (s : ℕ) × ((s ≤ p) × (step ≡ pos s))
unfolding is_jump
no_jump p (pos s) h =
    yes_or_no (ltb p s)
    (λ over. absurd (true≢false (sym (or-true (ltb s 0)) ∙ ap (λ b. ltb s 0 || b) (sym over) ∙ h)))
    (λ within. (s, (ltb-false p s within, refl)))
no_jump p (negsuc s) h = absurd (true≢false h)

-- ---- the rising lists

-- All lists of m + 1 values, v the first, with steps from 0 to p; the constant list stands first.
unfoldable pub rising : ℕ → ℕ → ℤ → List (List ℤ)
rising p zero v = (v ∷ []) ∷ []
rising p (suc m) v = flat_map (λ s. map (λ l. v ∷ l) (rising p m (v +ℤ pos s))) (numbers_from 0 (suc p))

-- With m steps, each one of p + 1.
pub rising_count : (p m : ℕ) (v : ℤ) → length (rising p m v) ≡ (p + 1) ^ m
unfolding rising
rising_count p zero v = sym (pow-zero (p + 1))
rising_count p (suc m) v =
    length_flat_map (λ s. map (λ l. v ∷ l) (rising p m (v +ℤ pos s))) ((p + 1) ^ m)
    (λ s. length-map (rising p m (v +ℤ pos s)) (λ l. v ∷ l) ∙ rising_count p m (v +ℤ pos s))
    (numbers_from 0 (suc p))
    ∙ ap (λ n. (p + 1) ^ m * n) (length_range 0 (suc p) ∙ (let e : suc p ≡ p + 1 = omega arith in e))
    ∙ sym (pow-suc (p + 1) m)

-- The first rising list is the constant one.
constant_first : (p m : ℕ) (v : ℤ) → (others : List (List ℤ)) × (rising p m v ≡ replicate (suc m) v ∷ others)
unfolding rising flat_map numbers_from
constant_first p zero v = ([], refl)
constant_first p (suc m) v =
    let rest = constant_first p m v in
    let risen : List (List ℤ) = flat_map (λ s. map (λ l. v ∷ l) (rising p m (v +ℤ pos s))) (numbers_from 1 p) in (
      map (λ l. v ∷ l) rest.0 ++ risen,
      ap (λ ls. map (λ l. v ∷ l) ls ++ risen) (ap (rising p m) (+ℤ_idr v) ∙ rest.1),
    )

-- ---- every rising list is among them

-- A value in front moves the steps on by one.
step_later : (v : ℤ) (l : List ℤ) (x : ℕ) → step_at (v ∷ l) (suc x) ≡ step_at l x
unfolding step_at
step_later v l x = rw suc-add

-- A list without a jump is one of the rising lists from its first value.
pub rising_complete : (p m : ℕ) (v : ℤ) (l : List ℤ) → length l ≡ m → ((x : ℕ) → x < m → is_jump p (step_at (v ∷ l) x) ≡ false) → is_among (rising p m v) (v ∷ l) ≡ true
unfolding rising is_among step_at
rising_complete p zero v [] e calm = ap (λ b. b || false) (same_refl (v ∷ []))
rising_complete p zero v (w ∷ l) e calm = absurd (omega arith)
rising_complete p (suc m) v [] e calm = absurd (omega arith)
rising_complete p (suc m) v (w ∷ l) e calm =
    risen (no_jump p (w -ℤ v) (calm 0 (omega arith)))
    (rising_complete p m w l (omega arith) (λ x h. ap (is_jump p) (sym (step_later v (w ∷ l) x)) ∙ calm (suc x) (omega arith)))
  where
    risen : (s : ℕ) × ((s ≤ p) × (w -ℤ v ≡ pos s)) → is_among (rising p m w) (w ∷ l) ≡ true → is_among (rising p (suc m) v) (v ∷ w ∷ l) ≡ true
    risen (s, (few, step)) rest =
        among_run (λ s. map (λ l. v ∷ l) (rising p m (v +ℤ pos s))) 0 (suc p) s (v ∷ w ∷ l) (omega arith)
        (among_cons v (rising p m (v +ℤ pos (0 + s))) (w ∷ l) ∙ ap (λ u. is_among (rising p m u) (w ∷ l)) reached ∙ rest)
      where
        reached : v +ℤ pos (0 + s) ≡ w
        reached = ap (λ k. v +ℤ pos k) (zero-add s) ∙ ap (λ z. v +ℤ z) (sym step) ∙ +ℤ_comm v (w -ℤ v) ∙ sub_add w v

-- ---- but for the constant list

-- The rising lists from 0 on that are not constant.
unfoldable pub changing : ℕ → ℕ → List (List ℤ)
changing p m = drop 1 (rising p m (pos 0))

-- One fewer than all.
pub changing_count : (p m : ℕ) → length (changing p m) + 1 ≡ (p + 1) ^ m
unfolding changing
changing_count p m =
    let split = constant_first p m (pos 0) in
    let e : suc (length split.0) ≡ (p + 1) ^ m = ap length (sym split.1) ∙ rising_count p m (pos 0) in
    rw split.1 (omega arith)

-- A list from 0 on without a jump is one of them, where it is not constant.
pub changing_complete : (p m : ℕ) (l : List ℤ) → length l ≡ suc m → first l ≡ pos 0 → ((x : ℕ) → x < m → is_jump p (step_at l x) ≡ false) → same l (replicate (suc m) (pos 0)) ≡ false → is_among (changing p m) l ≡ true
unfolding changing first is_among
changing_complete p m [] e start calm changes = absurd (omega arith)
changing_complete p m (v ∷ l) e start calm changes =
    let split = constant_first p m (pos 0) in
    rw split.1
    (sym (ap (λ b. b || is_among split.0 (v ∷ l)) changes)
    ∙ ap (λ ls. is_among ls (v ∷ l)) (sym split.1 ∙ ap (rising p m) (sym start))
    ∙ rising_complete p m v l (omega arith) calm)
