-- Known lists, which grow at the end: each keeps its number, every list seen is known, and no list is known twice.
use Rattle.std.specs.Prelude.{ℕ, zero, suc, ◌+◌, ◌≤◌, ◌<◌, ◌≡◌, refl, true, false, List, [], ◌∷◌, ◌++◌, length, get_or, take, drop, ltb, ℤ}
use Rattle.std.proofs.Common.{sym, ◌∙◌, ap, true≢false, append_assoc, append-nil, zero-add, arith, length-append, ltb-true, ltb-false, lt-ltb, le-ltb}
use Rattle.std.proofs.Math.Decide.{dec_lt}
use Rattle.std.proofs.Math.ListN.{get_or-append}
use Rattle.std.proofs.Math.Seq.{split_at, get_or-append_seam}
use Rattle.numbers.proofs.Laws.Bools.{yes_or_no}
use Rattle.blocks.specs.Classes.{same, number_in, learn, learn_all, distinct}
use Rattle.blocks.proofs.Laws.Same.{same_true, same_refl, equal_same}

-- ---- a number among known lists

pub number_here : (k : List ℤ) (known : List (List ℤ)) (d : List ℤ) → same k d ≡ true → number_in (k ∷ known) d ≡ 0
unfolding number_in
number_here k known d e = rw (e, number_in)

pub number_later : (k : List ℤ) (known : List (List ℤ)) (d : List ℤ) → same k d ≡ false → number_in (k ∷ known) d ≡ suc (number_in known d)
unfolding number_in
number_later k known d e = rw (e, number_in)

pub number_le : (known : List (List ℤ)) (d : List ℤ) → number_in known d ≤ length known
unfolding number_in
number_le [] d = omega arith
number_le (k ∷ known) d =
    yes_or_no (same k d)
    (λ e. rw (number_here k known d e) (omega arith))
    (λ e. rw (number_later k known d e) (let h = number_le known d in omega arith))

-- What a number below the count stands for.
pub number_at : (known : List (List ℤ)) (d : List ℤ) → number_in known d < length known → get_or known (number_in known d) [] ≡ d
number_at [] d h = absurd (omega arith)
number_at (k ∷ known) d h =
    yes_or_no (same k d)
    (λ e. rw (number_here k known d e) (same_true k d e))
    (λ e. rw (number_later k known d e) (number_at known d (let l : suc (number_in known d) < suc (length known) = rw (number_later k known d e) at h in omega arith)))

-- The lists before a number are others.
pub number_first : (known : List (List ℤ)) (d : List ℤ) (j : ℕ) → j < number_in known d → same (get_or known j []) d ≡ false
unfolding number_in
number_first [] d j h = absurd (omega arith)
number_first (k ∷ known) d zero h =
    yes_or_no (same k d) (λ e. absurd (let l : 0 < 0 = rw (number_here k known d e) at h in omega arith)) (λ e. e)
number_first (k ∷ known) d (suc j) h =
    yes_or_no (same k d)
    (λ e. absurd (let l : suc j < 0 = rw (number_here k known d e) at h in omega arith))
    (λ e. number_first known d j (let l : suc j < suc (number_in known d) = rw (number_later k known d e) at h in omega arith))

-- A list that stands at j has no later number.
pub number_by : (known : List (List ℤ)) (d : List ℤ) (j : ℕ) → get_or known j [] ≡ d → number_in known d ≤ j
number_by known d j e = at_most (dec_lt j (number_in known d))
  where
    at_most : Dec (j < number_in known d) → number_in known d ≤ j
    at_most (yes l) = absurd (true≢false (sym (equal_same (get_or known j []) d e) ∙ number_first known d j l))
    at_most (no l) = omega arith

-- A number stays as more lists become known.
pub number_append : (known more : List (List ℤ)) (d : List ℤ) → number_in known d < length known → number_in (known ++ more) d ≡ number_in known d
number_append [] more d h = absurd (omega arith)
number_append (k ∷ known) more d h =
    yes_or_no (same k d)
    (λ e. number_here k (known ++ more) d e ∙ sym (number_here k known d e))
    (λ e.
    number_later k (known ++ more) d e
    ∙ ap suc (number_append known more d (let l : suc (number_in known d) < suc (length known) = rw (number_later k known d e) at h in omega arith))
    ∙ sym (number_later k known d e))

-- A list that is not known gets the next new number.
pub number_new : (known : List (List ℤ)) (d : List ℤ) → length known ≤ number_in known d → number_in (known ++ d ∷ []) d ≡ length known
number_new [] d h = number_here d [] d (same_refl d)
number_new (k ∷ known) d h =
    yes_or_no (same k d)
    (λ e. absurd (let l : suc (length known) ≤ 0 = rw (number_here k known d e) at h in omega arith))
    (λ e.
    number_later k (known ++ d ∷ []) d e
    ∙ ap suc (number_new known d (let l : suc (length known) ≤ suc (number_in known d) = rw (number_later k known d e) at h in omega arith)))

-- ---- learning a list

pub learn_known : (known : List (List ℤ)) (d : List ℤ) → number_in known d < length known → learn known d ≡ known
unfolding learn
learn_known known d h = rw (lt-ltb (number_in known d) (length known) h, learn)

pub learn_new : (known : List (List ℤ)) (d : List ℤ) → length known ≤ number_in known d → learn known d ≡ known ++ d ∷ []
unfolding learn
learn_new known d h = rw (le-ltb (number_in known d) (length known) h, learn)

-- Known or new, as a test.
pub known_or_new {ℓ} : {X : Type ℓ} (known : List (List ℤ)) (d : List ℤ) → (number_in known d < length known → X) → (length known ≤ number_in known d → X) → X
known_or_new known d old new =
    yes_or_no (ltb (number_in known d) (length known)) (λ e. old (ltb-true _ _ e)) (λ e. new (ltb-false _ _ e))

-- The number that a list has before it is learnt is the one that it has afterwards.
pub number_learn : (known : List (List ℤ)) (d : List ℤ) → number_in (learn known d) d ≡ number_in known d
number_learn known d =
    known_or_new known d
    (λ h. rw (learn_known known d h))
    (λ h. rw (learn_new known d h) (number_new known d h ∙ (let l = number_le known d in omega arith)))

pub learnt : (known : List (List ℤ)) (d : List ℤ) → number_in (learn known d) d < length (learn known d)
learnt known d =
    known_or_new known d
    (λ h. rw (learn_known known d h) h)
    (λ h. rw (learn_new known d h, number_new known d h, length-append) (omega arith))

-- What becomes known stands behind what was.
pub learn_all_grows : (known ds : List (List ℤ)) → (more : List (List ℤ)) × (learn_all known ds ≡ known ++ more)
unfolding learn_all
learn_all_grows known [] = ([], sym (append-nil known))
learn_all_grows known (d ∷ ds) =
    let rest = learn_all_grows (learn known d) ds in
    known_or_new known d
    (λ h. (rest.0, rest.1 ∙ ap (λ l. l ++ rest.0) (learn_known known d h)))
    (λ h. (d ∷ rest.0, rest.1 ∙ ap (λ l. l ++ rest.0) (learn_new known d h) ∙ append_assoc known (d ∷ []) rest.0))

-- A known list keeps its number.
pub number_stays : (known ds : List (List ℤ)) (d : List ℤ) → number_in known d < length known → number_in (learn_all known ds) d ≡ number_in known d
number_stays known ds d h = let rest = learn_all_grows known ds in ap (λ l. number_in l d) rest.1 ∙ number_append known rest.0 d h

pub stays_known : (known ds : List (List ℤ)) (d : List ℤ) → number_in known d < length known → number_in (learn_all known ds) d < length (learn_all known ds)
stays_known known ds d h =
    let rest = learn_all_grows known ds in
    rw (number_stays known ds d h) (rw (rest.1, length-append) (omega arith))

-- Every list seen is known.
pub seen_known : (known ds : List (List ℤ)) (j : ℕ) → j < length ds → number_in (learn_all known ds) (get_or ds j []) < length (learn_all known ds)
unfolding learn_all
seen_known known [] j h = absurd (omega arith)
seen_known known (d ∷ ds) zero h = stays_known (learn known d) ds d (learnt known d)
seen_known known (d ∷ ds) (suc j) h = seen_known (learn known d) ds j (omega arith)

-- ---- lists by first appearance

-- What was seen in two parts.
pub learn_all_append : (known ds es : List (List ℤ)) → learn_all known (ds ++ es) ≡ learn_all (learn_all known ds) es
unfolding learn_all
learn_all_append known [] es = refl
learn_all_append known (d ∷ ds) es = learn_all_append (learn known d) ds es

-- A list's number is the one that it gets when it is met: that of an equal list before it, or the next new number.
pub number_when_met : (ds : List (List ℤ)) (j : ℕ) → j < length ds → number_in (distinct ds) (get_or ds j []) ≡ number_in (distinct (take j ds)) (get_or ds j [])
unfolding distinct learn_all
number_when_met ds j h =
    ap (λ l. number_in l d) (ap (learn_all []) (split_at ds j [] h) ∙ learn_all_append [] (take j ds) (d ∷ drop (suc j) ds) ∙ met)
    ∙ number_stays (learn before d) (drop (suc j) ds) d (learnt before d)
    ∙ number_learn before d
  where
    d : List ℤ
    d = get_or ds j []

    before : List (List ℤ)
    before = learn_all [] (take j ds)

    met : learn_all before (d ∷ drop (suc j) ds) ≡ learn_all (learn before d) (drop (suc j) ds)
    met = refl

-- Each known list has its own place as its number.
OwnNumbers : List (List ℤ) → Type 0
OwnNumbers known = (k : ℕ) → k < length known → number_in known (get_or known k []) ≡ k

own_learn : (known : List (List ℤ)) (d : List ℤ) → OwnNumbers known → OwnNumbers (learn known d)
unfolding OwnNumbers
own_learn known d own k h =
    known_or_new known d
    (λ old. rw (learn_known known d old) (own k (rw (learn_known known d old) at h)))
    (λ new. rw (learn_new known d new) (old_or_last new (dec_lt k (length known))))
  where
    old_or_last : length known ≤ number_in known d → Dec (k < length known) → number_in (known ++ d ∷ []) (get_or (known ++ d ∷ []) k []) ≡ k
    old_or_last new (yes l) =
        ap (number_in (known ++ d ∷ [])) (get_or-append known (d ∷ []) [] k l)
        ∙ number_append known (d ∷ []) (get_or known k []) (rw (own k l) l)
        ∙ own k l
    old_or_last new (no l) =
        ap (number_in (known ++ d ∷ [])) (ap (λ m. get_or (known ++ d ∷ []) m []) last ∙ get_or-append_seam known d [] [])
        ∙ number_new known d new
        ∙ sym last
      where
        last : k ≡ length known
        last = let p : k < length known + 1 = rw (learn_new known d new, length-append) at h in omega arith

own_learn_all : (known ds : List (List ℤ)) → OwnNumbers known → OwnNumbers (learn_all known ds)
unfolding learn_all
own_learn_all known [] own = own
own_learn_all known (d ∷ ds) own = own_learn_all (learn known d) ds (own_learn known d own)

pub own_distinct : (ds : List (List ℤ)) (k : ℕ) → k < length (distinct ds) → number_in (distinct ds) (get_or (distinct ds) k []) ≡ k
unfolding distinct OwnNumbers
own_distinct ds = own_learn_all [] ds (λ k h. absurd (omega arith))

-- Each different list is one of those seen.
unfoldable pub Among : List (List ℤ) → List ℤ → Type 0
Among ds d = (j : ℕ) × ((j < length ds) × (get_or ds j [] ≡ d))

-- A list that becomes known was known, or is one of those seen.
from_seen : (known ds : List (List ℤ)) (k : ℕ) → k < length (learn_all known ds) → length known ≤ k → Among ds (get_or (learn_all known ds) k [])
unfolding learn_all Among
from_seen known [] k h l = absurd (omega arith)
from_seen known (d ∷ ds) k h l =
    later_or_now (dec_lt k (length (learn known d))) (λ m. from_seen (learn known d) ds k h m)
  where
    later_or_now : Dec (k < length (learn known d)) → (length (learn known d) ≤ k → Among ds (get_or (learn_all (learn known d) ds) k [])) → Among (d ∷ ds) (get_or (learn_all (learn known d) ds) k [])
    later_or_now (no m) rest = let r = rest (omega arith) in (suc r.0, (omega arith, r.1.1))
    later_or_now (yes m) rest =
        known_or_new known d
        (λ old. absurd (let p : k < length known = rw (learn_known known d old) at m in omega arith))
        (λ new.
        let grown = learn_all_grows (learn known d) ds in
        let last : k ≡ length known = (let p : k < length known + 1 = rw (learn_new known d new, length-append) at m in omega arith) in (
          0,
          (
            omega arith,
            sym (ap (λ x. get_or x k []) grown.1
                ∙ get_or-append (learn known d) grown.0 [] k m
                ∙ ap (λ x. get_or x k []) (learn_new known d new)
                ∙ ap (λ x. get_or (known ++ d ∷ []) x []) last
                ∙ get_or-append_seam known d [] []),
          ),
        ))

pub distinct_seen : (ds : List (List ℤ)) (k : ℕ) → k < length (distinct ds) → Among ds (get_or (distinct ds) k [])
unfolding distinct
distinct_seen ds k h = from_seen [] ds k h (omega arith)

learn_length : (known : List (List ℤ)) (d : List ℤ) → length (learn known d) ≤ length known + 1
learn_length known d =
    known_or_new known d
    (λ old. rw (learn_known known d old) (omega arith))
    (λ new. rw (learn_new known d new, length-append) (omega arith))

learn_all_length : (known ds : List (List ℤ)) → length (learn_all known ds) ≤ length known + length ds
unfolding learn_all
learn_all_length known [] = omega arith
learn_all_length known (d ∷ ds) = let r = learn_all_length (learn known d) ds in let s = learn_length known d in omega arith

-- There are no more different lists than lists.
pub distinct_length : (ds : List (List ℤ)) → length (distinct ds) ≤ length ds
unfolding distinct
distinct_length ds = rw zero-add at (learn_all_length [] ds)

-- Every list seen has a number below the count.
pub distinct_known : (ds : List (List ℤ)) (j : ℕ) → j < length ds → number_in (distinct ds) (get_or ds j []) < length (distinct ds)
unfolding distinct
distinct_known ds j h = seen_known [] ds j h

-- Lists that are all equal, one at least, are one list.
pub distinct_one : (d : List ℤ) (ds : List (List ℤ)) → ((j : ℕ) → j < length ds → get_or ds j [] ≡ d) → 0 < length ds → length (distinct ds) ≡ 1
unfolding distinct Among number_in learn_all
distinct_one d ds all some =
    let e = number_when_met ds 0 some in
    one (length (distinct ds)) (λ k h. sym (own_distinct ds k h) ∙ ap (number_in (distinct ds)) (is_d k h) ∙ ap (number_in (distinct ds)) (sym (all 0 some)) ∙ e) (let l = distinct_known ds 0 some in omega arith)
  where
    is_d : (k : ℕ) → k < length (distinct ds) → get_or (distinct ds) k [] ≡ d
    is_d k h = let r = distinct_seen ds k h in sym r.1.1 ∙ all r.0 r.1.0

    one : (m : ℕ) → ((k : ℕ) → k < m → k ≡ 0) → 0 < m → m ≡ 1
    one zero f l = absurd (omega arith)
    one (suc zero) f l = refl
    one (suc (suc m)) f l = absurd (let e = f 1 (omega arith) in omega arith)
