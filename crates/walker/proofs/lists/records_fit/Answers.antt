-- `lists::records_fit` meets its contract: record k is looked at where all before it passed.
use Rattle.std.proofs.Common.{rules, ◌≡◌, refl, sym, ◌∙◌, ap, subst, arith, ℕ, ◌+◌, ◌-◌, ◌<◌, ◌≤◌, Bool, true, false, cond, List, [], ◌∷◌, Some, Option, length, suc, ap₂, ℤ}
use Rattle.std.proofs.Math.Decide.{dec_lt}
use Rattle.std.proofs.iter.Yields.{listed}
use Rattle.std.proofs.lemmas.Iterator.{YieldsList}
use Rattle.std.proofs.lemmas.Iterator.Search.{all_from_yields_List}
use Rattle.std.specs.Iterator.{Yields, CallableAtEachTurn}
use Rattle.std.specs.List.{FoldsTo}
use Rattle.std.specs.Range.{range_inclusive_len, range_inclusive_steps}
use Rattle.std.specs.declared.ops.RangeInclusive.{RangeInclusive}
use borrow.Author.Tests.{tests}
use Rattle.numbers.specs.Lists.{numbers_from, every}
use Rattle.numbers.proofs.Laws.Lists.{every_all}
use Rattle.diagram.specs.Records.{record_size}
use Rattle.diagram.specs.Walk.{record_fits, record_count}
use Rattle.diagram.specs.Inner.Edges.{Recorded, EarlierPass}
use Rattle.walker.proofs.lists.records_fit.Goals as goal

-- ---- the numbers of an inclusive range

abbrev gap : ℕ → ℕ → ℕ
gap a b = b - a

abbrev steps : RangeInclusive ℕ → Option ℕ → RangeInclusive ℕ → Type 0
steps = range_inclusive_steps gap (λ a b. b ≡ a + 1)

-- The number that comes next, or would.
abbrev next_at : ℕ → ℕ → Bool → ℕ
next_at first last spent = cond spent (last + 1) first

abbrev next : RangeInclusive ℕ → ℕ
next s = next_at s.start s.end s.exhausted

begins : (s : RangeInclusive ℕ) (first : ℕ) → s.start ≡ first → s.exhausted ≡ false → next s ≡ first
begins s first e f = ap (next_at s.start s.end) f ∙ e

-- One number came.
came_at : (a e a' e' x : ℕ) (d d' : Bool) → e' ≡ e → x ≡ a → range_inclusive_len gap a' e' d' + 1 ≡ range_inclusive_len gap a e d → (d' ≡ false → a' ≡ a + 1) → (x ≡ next_at a e d) × (next_at a' e' d' ≡ x + 1) × (x ≤ e)
came_at a e a' e' x true d' p q h f = absurd (omega arith)
came_at a e a' e' x false true p q h f = (q, omega arith, omega arith)
came_at a e a' e' x false false p q h f = let z = f refl in (q, omega arith, omega arith)

came : (s : RangeInclusive ℕ) (x : ℕ) (t : RangeInclusive ℕ) → steps s (Some x) t → (x ≡ next s) × (next t ≡ x + 1) × (x ≤ s.end)
came s x t h = came_at s.start s.end t.start t.end x s.exhausted t.exhausted h.0 h.1.0 h.1.1 h.1.2

-- What holds of the next number, turn by turn, where each turn leaves the called value as it was.
turns : {P : Type 0} (R : P → ℕ → P → Type 0) (p : P) (Good : ℕ → Type 0) → ((k : ℕ) (q : P) → R p k q → Good k → (q ≡ p) × Good (k + 1))
    → (xs : List ℕ) (s t : RangeInclusive ℕ) (q : P) → Yields steps s xs t → FoldsTo R p xs q → Good (next s) → (q ≡ p) × Good (next t) × (t.end ≡ s.end)
turns R p Good more [] s t q y f g = (sym f, subst (λ u. Good (next u)) y g, ap (λ u. u.end) (sym y))
turns R p Good more (x ∷ xs) s t q y f g =
    let here = came s x y.0 y.1 in
    let w = more x f.0 f.1 (subst Good (sym here.0) g) in
    let r = turns R p Good more xs y.0 t q y.2 (subst (λ k. FoldsTo R k xs q) w.0 f.2) (subst Good (sym here.1) w.1) in
    (r.0, r.1, r.2 ∙ y.1.0)

-- So it may be asked of each.
serves : {P : Type 0} {R : P → ℕ → P → Type 0} {Q : P → ℕ → Type 0} {s : RangeInclusive ℕ} {p : P} (Good : ℕ → Type 0) → ((k : ℕ) (q : P) → R p k q → Good k → (q ≡ p) × Good (k + 1))
    → Good (next s) → ((k : ℕ) → Good k → k ≤ s.end → Q p k) → CallableAtEachTurn steps R Q s p
serves {R = R} {Q = Q} {s = s} {p = p} Good more first fine = record {
  at = λ xs t q x u y f e.
      let w = turns R p Good more xs s t q y f first in
      let here = came t x u e in
      subst (λ k. Q k x) (sym w.0) (fine x (subst Good (sym here.0) w.1) (let l = here.2 in let same = w.2 in omega arith));
}

-- The numbers that come.
abbrev left : RangeInclusive ℕ → ℕ
left s = range_inclusive_len gap s.start s.end s.exhausted

numbers : (s : RangeInclusive ℕ) → YieldsList steps (λ x. x) s (numbers_from (next s) (left s))
unfolding numbers_from
numbers s = record {
  runs = listed steps (λ x. x) (λ s. numbers_from (next s) (left s))
      (λ s t e. ap (λ k. length (numbers_from (next s) k)) e.1.0)
      (λ s x t e.
      let here = came s x t e in
      ap (numbers_from (next s)) (let p : left s ≡ suc (left t) = (let q = e.1.1 in omega arith) in p)
      ∙ ap₂ (λ a b. a ∷ numbers_from b (left t)) (sym here.0) (let p : suc (next s) ≡ next t = (let a = here.0 in let b = here.1 in omega arith) in p))
      s;
}

-- ---- the records

-- One record more passed.
one_more : (n : ℕ) (list : List ℤ) (k : ℕ) → EarlierPass n list k → record_fits n list k ≡ true → EarlierPass n list (k + 1)
one_more n list k e h = record { pass = λ m one l. before_or_here m one l (dec_lt m k) }
  where
    before_or_here : (m : ℕ) → 1 ≤ m → m < k + 1 → Dec (m < k) → record_fits n list m ≡ true
    before_or_here m one l (yes p) = e.pass m one p
    before_or_here m one l (no p) = ap (record_fits n list) (let q : m ≡ k = omega arith in q) ∙ h

pub all-requires-clause-callable : goal.all-requires-clause-callable
unfolding record_count record_size
all-requires-clause-callable c =
    let a = c.args in
    let e = c.new.ensures in
    serves (λ k. (1 ≤ k) × EarlierPass a.n a.records.now k)
    (λ k q r g.
    let told : (q ≡ _) × (true ≡ record_fits a.n a.records.now k) = search (rules, tests) in
    (told.0, (omega arith, one_more a.n a.records.now k g.1 (sym told.1))))
    (rw (begins c.new.result 1 e.start e.exhausted) (omega arith, record { pass = λ m one l. absurd (omega arith) }))
    (λ k g l.
    let here : Recorded a.records.now k = record { from_one = g.0; among = omega arith } in
    search rules)

pub returns : goal.returns
unfolding record_count record_size
returns c =
    let a = c.args in
    let e = c.new.ensures in
    all_from_yields_List (record_fits a.n a.records.now) _ _ _ c.all.ensures.ran (numbers c.new.result) (λ x b q k. search (rules, tests))
    ∙ sym (every_all (record_fits a.n a.records.now) _)
    ∙ ap₂ (λ first count. every (record_fits a.n a.records.now) (numbers_from first count)) (begins c.new.result 1 e.start e.exhausted)
    (ap (range_inclusive_len gap c.new.result.start c.new.result.end) e.exhausted ∙ omega arith)
