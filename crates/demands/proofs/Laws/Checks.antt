-- Orders of checks, put together: no check, one test, one order after another, and an answer with another value.
use Rattle.std.specs.Prelude.{ℕ, ◌≡◌, refl, ◌↔◌, ◌⊎◌, Bool, true, false, List, [], ◌∷◌, ◌++◌, length, drop}
use Rattle.std.proofs.Common.{sym, ◌∙◌, ap, inl, inr}
use Rattle.std.proofs.lemmas.Bool.{false≢true}
use Rattle.numbers.specs.Answers.{Answer, accepted, refused, unless, map_answer, and_then, buffer_after}
use Rattle.numbers.proofs.Laws.Answers.{not_refused, unless_accepted}
use Rattle.demands.specs.Checks.{Check, ◌otherwise◌, AllHold, FirstFails, Decided}

-- An accepted value goes by no check.
pub decided_accepted : {A : Type 0} (a : A) → Decided (accepted a) []
unfolding AllHold FirstFails
decided_accepted a = record {
  accepts = ((λ h. (a, refl)), (λ s. tt));
  refuses = λ k. ((λ h. absurd h), (λ h. not_refused a k h));
}

-- What is accepted is not refused.
one_answer {ℓ} : {A : Type 0} {X : Type ℓ} {answer : Answer A} (a : A) (k : ℕ) → answer ≡ accepted a → answer ≡ refused k → X
one_answer a k e h = not_refused a k (sym e ∙ h)

-- Equal refusals have one number.
same_number : {A : Type 0} (j k : ℕ) → ◌≡◌ {A = Answer A} (refused j) (refused k) → j ≡ k
same_number j k h = cc

-- One test, and what follows it where it passes.
pub decided_passing : {A : Type 0} {P : Type 0} {number : ℕ} {rest : Answer A} {checks : List Check} (b : Bool) → (b ≡ true) ↔ P → (b ≡ true → Decided rest checks) → Decided (unless b number rest) ((P otherwise number) ∷ checks)
unfolding AllHold FirstFails
decided_passing {number = number} true t next =
    let d = next refl in
    record {
      accepts = ((λ h. d.accepts.0 h.1), (λ s. (t.0 refl, d.accepts.1 s)));
      refuses = λ k. (
        (λ h. elim h [ inl f ↦ absurd (f.0 (t.0 refl)) | inr l ↦ (d.refuses k).0 l.1 ]),
        (λ e. inr (t.0 refl, (d.refuses k).1 e)),
      );
    }
decided_passing {number = number} false t next = record {
  accepts = ((λ h. absurd (false≢true (t.1 h.0))), (λ s. not_refused s.0 number (sym s.1)));
  refuses = λ k. (
    (λ h. elim h [ inl f ↦ ap refused (sym f.1) | inr l ↦ absurd (false≢true (t.1 l.0)) ]),
    (λ e. inl ((λ p. absurd (false≢true (t.1 p))), sym (same_number number k e))),
  );
}

-- One test, and what follows it in any case.
pub decided_unless : {A : Type 0} {P : Type 0} {number : ℕ} {rest : Answer A} {checks : List Check} (b : Bool) → (b ≡ true) ↔ P → Decided rest checks → Decided (unless b number rest) ((P otherwise number) ∷ checks)
decided_unless b t d = decided_passing b t (λ h. d)

-- ---- one order after another

-- All hold of two orders exactly where all hold of each.
pub all_append : (checks more : List Check) → AllHold (checks ++ more) ↔ (AllHold checks × AllHold more)
unfolding AllHold
all_append [] more = ((λ h. (tt, h)), (λ h. h.1))
all_append (check ∷ checks) more = let i = all_append checks more in (
  (λ h. ((h.0, (i.0 h.1).0), (i.0 h.1).1)),
  (λ h. (h.0.0, i.1 (h.0.1, h.1))),
)

-- The first failure is of the first order, or that holds and it is of the second.
pub first_append : (checks more : List Check) (k : ℕ) → FirstFails (checks ++ more) k ↔ (FirstFails checks k ⊎ (AllHold checks × FirstFails more k))
unfolding AllHold FirstFails
first_append [] more k = ((λ h. inr (tt, h)), (λ h. elim h [ inl f ↦ absurd f | inr l ↦ l.1 ]))
first_append (check ∷ checks) more k = let i = first_append checks more k in (
  (λ h. elim h [
    | inl f ↦ inl (inl f)
    | inr l ↦ elim (i.0 l.1) [ inl f ↦ inl (inr (l.0, f)) | inr m ↦ inr ((l.0, m.0), m.1) ]
  ]),
  (λ h. elim h [
    | inl f ↦ elim f [ inl g ↦ inl g | inr g ↦ inr (g.0, i.1 (inl g.1)) ]
    | inr l ↦ inr (l.0.0, i.1 (inr (l.0.1, l.1)))
  ]),
)

-- An answer that is worked on goes by its own checks, and then by those of what follows.
pub decided_then : {A B : Type 0} {checks more : List Check} {f : A → Answer B} (answer : Answer A) → Decided answer checks → ((a : A) → answer ≡ accepted a → Decided (f a) more) → Decided (and_then answer f) (checks ++ more)
decided_then {checks = checks} {more = more} (accepted a) d next =
    let n = next a refl in
    let whole = d.accepts.1 (a, refl) in
    record {
      accepts = (
        (λ h. n.accepts.0 ((all_append checks more).0 h).1),
        (λ s. (all_append checks more).1 (whole, n.accepts.1 s)),
      );
      refuses = λ k. (
        (λ h. elim ((first_append checks more k).0 h) [ inl f ↦ one_answer a k refl ((d.refuses k).0 f) | inr l ↦ (n.refuses k).0 l.1 ]),
        (λ e. (first_append checks more k).1 (inr (whole, (n.refuses k).1 e))),
      );
    }
decided_then {checks = checks} {more = more} (refused j) d next = record {
  accepts = (
    (λ h. let s = d.accepts.0 ((all_append checks more).0 h).0 in not_refused s.0 j (sym s.1)),
    (λ s. not_refused s.0 j (sym s.1)),
  );
  refuses = λ k. (
    (λ h. elim ((first_append checks more k).0 h) [
      | inl f ↦ ap refused (same_number j k ((d.refuses k).0 f))
      | inr l ↦ let s = d.accepts.0 l.0 in not_refused s.0 j (sym s.1)
    ]),
    (λ e. (first_append checks more k).1 (inl ((d.refuses k).1 (ap refused (same_number j k e))))),
  );
}

-- Another value where it is accepted: the same checks.
pub decided_map : {A B : Type 0} {checks : List Check} (f : A → B) (answer : Answer A) → Decided answer checks → Decided (map_answer f answer) checks
decided_map f (accepted a) d = record {
  accepts = ((λ h. (f a, refl)), (λ s. d.accepts.1 (a, refl)));
  refuses = λ k. ((λ h. one_answer a k refl ((d.refuses k).0 h)), (λ e. not_refused (f a) k e));
}
decided_map f (refused j) d = record {
  accepts = ((λ h. let s = d.accepts.0 h in not_refused s.0 j (sym s.1)), (λ s. not_refused s.0 j (sym s.1)));
  refuses = λ k. (
    (λ h. ap refused (same_number j k ((d.refuses k).0 h))),
    (λ e. (d.refuses k).1 (ap refused (same_number j k e))),
  );
}

-- One condition for a whole answer, with the numbers of its refusals.
pub decided_check : {A : Type 0} {holds : Type 0} {gives : ℕ → Type 0} (answer : Answer A) → holds ↔ ((a : A) × (answer ≡ accepted a)) → ((k : ℕ) → gives k ↔ (answer ≡ refused k)) → Decided answer (record { holds = holds; gives = gives } ∷ [])
unfolding AllHold FirstFails
decided_check answer a r = record {
  accepts = ((λ h. a.0 h.0), (λ s. (a.1 s, tt)));
  refuses = λ k. (
    (λ h. elim h [ inl f ↦ (r k).0 f.1 | inr l ↦ absurd l.1 ]),
    (λ e. inl ((λ h. let s = a.0 h in one_answer s.0 k s.1 e), (r k).1 e)),
  );
}

-- One condition for a whole answer whose refusals all have one number.
pub decided_otherwise : {A : Type 0} {holds : Type 0} {number : ℕ} (answer : Answer A) → holds ↔ ((a : A) × (answer ≡ accepted a)) → ((k : ℕ) → answer ≡ refused k → k ≡ number) → Decided answer ((holds otherwise number) ∷ [])
unfolding AllHold FirstFails
decided_otherwise (accepted a) h r = record {
  accepts = ((λ all. h.0 all.0), (λ s. (h.1 s, tt)));
  refuses = λ k. (
    (λ f. elim f [ inl g ↦ absurd (g.0 (h.1 (a, refl))) | inr l ↦ absurd l.1 ]),
    (λ e. not_refused a k e),
  );
}
decided_otherwise (refused j) h r = record {
  accepts = ((λ all. h.0 all.0), (λ s. (h.1 s, tt)));
  refuses = λ k. (
    (λ f. elim f [ inl g ↦ ap refused (r j refl ∙ sym g.1) | inr l ↦ absurd l.1 ]),
    (λ e. inl ((λ p. let s = h.0 p in not_refused s.0 j (sym s.1)), r k e)),
  );
}

-- ---- everything else

-- Where not all hold, some check is the first that fails, and the answer is its number.
pub not_all_hold : {A : Type 0} {checks : List Check} (answer : Answer A) → Decided answer checks → ¬ AllHold checks → (k : ℕ) × (FirstFails checks k × (answer ≡ refused k))
not_all_hold (accepted a) d h = absurd (h (d.accepts.1 (a, refl)))
not_all_hold (refused k) d h = (k, ((d.refuses k).1 refl, refl))

-- The first failure has one number.
pub one_failure : {A : Type 0} {checks : List Check} (answer : Answer A) → Decided answer checks → (j k : ℕ) → FirstFails checks j → FirstFails checks k → j ≡ k
one_failure answer d j k f g = same_number j k (sym ((d.refuses j).0 f) ∙ (d.refuses k).0 g)

-- ---- what is answered

-- Where all checks hold and every accepted answer is this value, this value is answered.
pub answers_value : {A : Type 0} {answer : Answer A} {checks : List Check} → Decided answer checks → (value : A) → ((a : A) → answer ≡ accepted a → a ≡ value) → AllHold checks → answer ≡ accepted value
answers_value d value only h = let s = d.accepts.0 h in s.1 ∙ ap accepted (only s.0 s.1)

-- What holds of every value that is accepted after a test holds of every accepted value.
pub unless_only : {A : Type 0} {Right : A → Type 0} {rest : Answer A} (b : Bool) (number : ℕ) → ((a : A) → rest ≡ accepted a → Right a) → (a : A) → unless b number rest ≡ accepted a → Right a
unless_only {rest = rest} b number only a e = only a (unless_accepted b number rest a e).1

-- There is one accepted value.
pub accepted_only : {A : Type 0} (value a : A) → accepted value ≡ accepted a → a ≡ value
accepted_only value a e = let same : value ≡ a = cc in sym same

-- An accepted answer with another value has one of its own.
pub map_accepted : {A B : Type 0} (f : A → B) (answer : Answer A) (b : B) → map_answer f answer ≡ accepted b → (a : A) × ((answer ≡ accepted a) × (b ≡ f a))
map_accepted f (accepted a) b h = (a, (refl, let e : f a ≡ b = cc in sym e))
map_accepted f (refused k) b h = not_refused b k (sym h)

-- A buffer after an accepted answer.
pub buffer_written : {A B : Type 0} (answer : Answer A) (a : A) (written : A → List B) (buffer : List B) → answer ≡ accepted a → buffer_after answer written buffer ≡ written a ++ drop (length (written a)) buffer
buffer_written answer a written buffer h = rw h

-- A buffer after a refusal.
pub buffer_kept : {A B : Type 0} (answer : Answer A) (k : ℕ) (written : A → List B) (buffer : List B) → answer ≡ refused k → buffer_after answer written buffer ≡ buffer
buffer_kept answer k written buffer h = rw h
