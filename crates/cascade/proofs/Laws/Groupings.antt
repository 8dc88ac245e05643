-- The groupings of n are all lists of sizes at least 1 with sum n, each once, and they stand widest first.
use Rattle.std.specs.Prelude.{ℕ, zero, suc, ◌+◌, ◌-◌, ◌≤◌, ◌<◌, ◌≡◌, refl, ◌⊎◌, Bool, true, false, ◌&&◌, cond, length, leb, ltb, eqb}
use Rattle.std.proofs.Common.{sym, ◌∙◌, ap, ap₂, inl, inr, add-zero, zero-add, arith, ltb-true, lt-ltb, le-ltb, leb-true, leb-false, le-leb, eqb-true, eq-eqb, ne_eqb}
use Rattle.std.proofs.lemmas.Bool.{false≢true, lt-leb, eqb-false}
use mathlib.Core.List.Memᴰ
use mathlib.Core.List.{List, [], ◌∷◌, ◌++◌, map, flat_map, Memᴰ}
use Rattle.std.proofs.Math.Decide.{dec_le}
use Rattle.numbers.specs.Lists.{every, keep, tally, sum_of}
use Rattle.numbers.proofs.Laws.Bools.{yes_or_no, both, and_both}
use Rattle.numbers.proofs.Laws.Selections.{keep_passed, keep_failed, kept_among}
use Rattle.numbers.proofs.Laws.Tallies.{tally_passed, tally_failed, tally_append, tally_none, tally_map, tally_same}
use Rattle.cascade.specs.Groupings.{descending, closing, groupings_within, groupings, is_grouping, wider_first}
use Rattle.cascade.specs.Inner.Sizes.{same_sizes, occurrences}

-- ---- equal lists of sizes

-- Lists that pass the test are equal.
pub same_sizes_true : (left right : List ℕ) → same_sizes left right ≡ true → left ≡ right
unfolding same_sizes
same_sizes_true [] [] h = refl
same_sizes_true [] (b ∷ right) h = absurd (false≢true h)
same_sizes_true (a ∷ left) [] h = absurd (false≢true h)
same_sizes_true (a ∷ left) (b ∷ right) h =
    let parts = both (eqb a b) (same_sizes left right) h in
    ap₂ (λ x l. x ∷ l) (eqb-true a b parts.0) (same_sizes_true left right parts.1)

-- A list passes the test with itself.
pub same_sizes_refl : (sizes : List ℕ) → same_sizes sizes sizes ≡ true
unfolding same_sizes
same_sizes_refl [] = refl
same_sizes_refl (a ∷ sizes) = and_both (eqb a a) (same_sizes sizes sizes) (eq-eqb a a refl) (same_sizes_refl sizes)

-- ---- what a grouping is, size by size

-- A sum is m where one part is at most m and the other is what is left.
sum_is : (a s m : ℕ) → eqb (a + s) m ≡ (leb a m && eqb s (m - a))
sum_is a s m =
    yes_or_no (eqb (a + s) m)
    (λ e. let p = eqb-true (a + s) m e in e ∙ sym (and_both (leb a m) (eqb s (m - a)) (le-leb a m (omega arith)) (eq-eqb s (m - a) (omega arith))))
    (λ e.
    yes_or_no (leb a m)
    (λ l. e ∙ sym (ne_eqb s (m - a) (λ q. eqb-false (a + s) m e (let h = leb-true a m l in omega arith))) ∙ rw l)
    (λ l. rw l e))

-- Four tests, the inner two the other way round.
swap_inner : (p q u v : Bool) → (p && q && (u && v)) ≡ (p && u && (q && v))
swap_inner false q u v = refl
swap_inner true true true v = refl
swap_inner true true false v = refl
swap_inner true false true v = refl
swap_inner true false false v = refl

-- The rest of a grouping is a grouping of the variables left.
pub grouping_cons : (m a : ℕ) (rest : List ℕ) → is_grouping m (a ∷ rest) ≡ (leb 1 a && leb a m && is_grouping (m - a) rest)
unfolding is_grouping every sum_of
grouping_cons m a rest =
    ap (λ t. leb 1 a && every (leb 1) rest && t) (sum_is a (sum_of rest) m)
    ∙ swap_inner (leb 1 a) (every (leb 1) rest) (leb a m) (eqb (sum_of rest) (m - a))

-- The list of no sizes is a grouping of no variable, and of no more.
pub grouping_nil : (m : ℕ) → is_grouping m [] ≡ eqb 0 m
unfolding is_grouping every sum_of
grouping_nil m = refl

-- A grouping has no more sizes than variables.
pub grouping_length : (n : ℕ) (sizes : List ℕ) → is_grouping n sizes ≡ true → length sizes ≤ n
grouping_length n [] h = omega arith
grouping_length n (a ∷ rest) h =
    let parts = both (leb 1 a && leb a n) (is_grouping (n - a) rest) (rw (grouping_cons n a rest) at h) in
    let size = both (leb 1 a) (leb a n) parts.0 in
    let some = leb-true 1 a size.0 in
    let inside = leb-true a n size.1 in
    let fewer = grouping_length (n - a) rest parts.1 in
    omega arith

-- ---- occurrences, piece by piece

-- The lists that begin with a size from b down to 1, each size before the lists that may follow it.
abbrev pub starting_to : ℕ → (ℕ → List (List ℕ)) → List (List ℕ)
starting_to b after = flat_map (λ g. map (λ sizes. g ∷ sizes) (after g)) (descending b)

-- Lists with one first size.
occurrences_prefixed : (a g : ℕ) (rest : List ℕ) (l : List (List ℕ)) → occurrences (a ∷ rest) (map (λ sizes. g ∷ sizes) l) ≡ cond (eqb a g) (occurrences rest l) 0
unfolding occurrences same_sizes
occurrences_prefixed a g rest l =
    yes_or_no (eqb a g)
    (λ e. tally_map (same_sizes (a ∷ rest)) (λ sizes. g ∷ sizes) l ∙ tally_same (λ sizes. eqb a g && same_sizes rest sizes) (same_sizes rest) l (λ sizes. rw e) ∙ rw e)
    (λ e. tally_map (same_sizes (a ∷ rest)) (λ sizes. g ∷ sizes) l ∙ tally_none (λ sizes. eqb a g && same_sizes rest sizes) l (λ sizes. rw e) ∙ rw e)

-- One more size from the top: it is the size asked for, or the others decide.
one_more_size : (a b : ℕ) (count : ℕ → ℕ) → cond (eqb a (suc b)) (count (suc b)) 0 + cond (leb 1 a && leb a b) (count a) 0 ≡ cond (leb 1 a && leb a (suc b)) (count a) 0
one_more_size a b count = yes_or_no (eqb a (suc b)) here below
  where
    here : eqb a (suc b) ≡ true → cond (eqb a (suc b)) (count (suc b)) 0 + cond (leb 1 a && leb a b) (count a) 0 ≡ cond (leb 1 a && leb a (suc b)) (count a) 0
    here e =
        let p : a ≡ suc b = eqb-true a (suc b) e in
        rw (e, lt-leb a b (omega arith), le-leb 1 a (omega arith), le-leb a (suc b) (omega arith)) (add-zero (count (suc b)) ∙ ap count (sym p))

    same_below : eqb a (suc b) ≡ false → leb a b ≡ leb a (suc b)
    same_below e =
        yes_or_no (leb a b)
        (λ l. let h = leb-true a b l in l ∙ sym (le-leb a (suc b) (omega arith)))
        (λ l. let h = leb-false a b l in l ∙ sym (lt-leb a (suc b) (let ne : a ≡ suc b → ⊥ = eqb-false a (suc b) e in omega arith)))

    below : eqb a (suc b) ≡ false → cond (eqb a (suc b)) (count (suc b)) 0 + cond (leb 1 a && leb a b) (count a) 0 ≡ cond (leb 1 a && leb a (suc b)) (count a) 0
    below e = rw (e, same_below e) (zero-add (cond (leb 1 a && leb a (suc b)) (count a) 0))

-- Where no variable is left there is no size.
no_size : (m a : ℕ) → m ≤ 0 → (leb 1 a && leb a m) ≡ false
no_size m a l =
    yes_or_no (leb 1 a)
    (λ e. let h = leb-true 1 a e in rw e (lt-leb a m (omega arith)))
    (λ e. rw e)

-- Lists with a first size from b down to 1: those after the size asked for.
occurrences_descending : (a b : ℕ) (rest : List ℕ) (after : ℕ → List (List ℕ)) → occurrences (a ∷ rest) (starting_to b after) ≡ cond (leb 1 a && leb a b) (occurrences rest (after a)) 0
unfolding flat_map descending occurrences tally keep
occurrences_descending a zero rest after = rw (no_size 0 a (omega arith))
occurrences_descending a (suc b) rest after =
    tally_append (same_sizes (a ∷ rest)) (map (λ sizes. suc b ∷ sizes) (after (suc b))) (starting_to b after)
    ∙ ap₂ (λ x y. x + y) (occurrences_prefixed a (suc b) rest (after (suc b))) (occurrences_descending a b rest after)
    ∙ one_more_size a b (λ g. occurrences rest (after g))

-- The list of no sizes has no first size.
occurrences_empty : (b : ℕ) (after : ℕ → List (List ℕ)) → occurrences [] (starting_to b after) ≡ 0
unfolding flat_map descending occurrences tally keep same_sizes
occurrences_empty zero after = refl
occurrences_empty (suc b) after =
    tally_append (same_sizes []) (map (λ sizes. suc b ∷ sizes) (after (suc b))) (starting_to b after)
    ∙ ap₂ (λ x y. x + y) (tally_map (same_sizes []) (λ sizes. suc b ∷ sizes) (after (suc b)) ∙ tally_none (λ sizes. false) (after (suc b)) (λ sizes. refl)) (occurrences_empty b after)

-- ---- each grouping once

-- The list of no sizes stands where no variable is left.
closing_empty : (m : ℕ) → occurrences [] (closing m) ≡ cond (is_grouping m []) 1 0
unfolding closing occurrences tally keep same_sizes
closing_empty zero = rw (grouping_nil 0)
closing_empty (suc m) = rw (grouping_nil (suc m), ne_eqb 0 (suc m) (λ e. omega arith))

-- No other list stands there.
closing_other : (m a : ℕ) (rest : List ℕ) → occurrences (a ∷ rest) (closing m) ≡ 0
unfolding closing occurrences tally keep same_sizes
closing_other zero a rest = refl
closing_other (suc m) a rest = refl

-- A list within the variables: its first size is within them, and the rest is a grouping of those left.
grouping_first : (m a : ℕ) (rest : List ℕ) (count : ℕ) → (1 ≤ a → a ≤ m → count ≡ cond (is_grouping (m - a) rest) 1 0) → cond (leb 1 a && leb a m) count 0 ≡ cond (is_grouping m (a ∷ rest)) 1 0
grouping_first m a rest count h =
    rw (grouping_cons m a rest)
    (yes_or_no (leb 1 a && leb a m)
    (λ e. let parts = both (leb 1 a) (leb a m) e in rw e (h (leb-true 1 a parts.0) (leb-true a m parts.1)))
    (λ e. rw e))

-- Once where it is a grouping, else never; as many sizes as variables are enough.
once_within : (groups m : ℕ) (sizes : List ℕ) → m ≤ groups → occurrences sizes (groupings_within groups m) ≡ cond (is_grouping m sizes) 1 0
unfolding groupings_within occurrences
once_within zero m [] h = closing_empty m
once_within zero m (a ∷ rest) h = closing_other m a rest ∙ rw (no_size m a h) at (grouping_first m a rest 0 (λ p q. absurd (omega arith)))
once_within (suc groups) m [] h =
    tally_append (same_sizes []) (closing m) (starting_to m (λ g. groupings_within groups (m - g)))
    ∙ ap₂ (λ x y. x + y) (closing_empty m) (occurrences_empty m (λ g. groupings_within groups (m - g)))
    ∙ add-zero (cond (is_grouping m []) 1 0)
once_within (suc groups) m (a ∷ rest) h =
    tally_append (same_sizes (a ∷ rest)) (closing m) (starting_to m (λ g. groupings_within groups (m - g)))
    ∙ ap₂ (λ x y. x + y) (closing_other m a rest) (occurrences_descending a m rest (λ g. groupings_within groups (m - g)))
    ∙ zero-add (cond (leb 1 a && leb a m) (occurrences rest (groupings_within groups (m - a))) 0)
    ∙ grouping_first m a rest (occurrences rest (groupings_within groups (m - a))) (λ p q. once_within groups (m - a) rest (omega arith))

-- The groupings of n (the paper's term): each list of sizes at least 1 with sum n stands there once, and no other list.
pub groupings_once : (n : ℕ) (sizes : List ℕ) → occurrences sizes (groupings n) ≡ cond (is_grouping n sizes) 1 0
unfolding groupings
groupings_once n sizes = once_within n n sizes (omega arith)

-- ---- what is among the groupings

-- What occurs is among the lists.
occurs_among : (sizes : List ℕ) (l : List (List ℕ)) → 1 ≤ occurrences sizes l → Memᴰ sizes l
unfolding occurrences tally keep
occurs_among sizes [] h = absurd (omega arith)
occurs_among sizes (x ∷ l) h =
    yes_or_no (same_sizes sizes x)
    (λ e. Memᴰ.head (same_sizes_true sizes x e))
    (λ e. Memᴰ.tail (occurs_among sizes l (rw (tally_failed (same_sizes sizes) x l e) at h)))

-- What is among the lists occurs.
among_occurs : {sizes : List ℕ} {l : List (List ℕ)} → Memᴰ sizes l → 1 ≤ occurrences sizes l
unfolding occurrences
among_occurs {sizes} (Memᴰ.head {x = x} {xs = l} e) =
    rw (tally_passed (same_sizes sizes) x l (ap (same_sizes sizes) (sym e) ∙ same_sizes_refl sizes)) (omega arith)
among_occurs {sizes} (Memᴰ.tail {x = x} {xs = l} m) =
    yes_or_no (same_sizes sizes x)
    (λ e. rw (tally_passed (same_sizes sizes) x l e) (omega arith))
    (λ e. rw (tally_failed (same_sizes sizes) x l e) (among_occurs m))

-- A grouping is among the groupings.
pub grouping_among : (n : ℕ) (sizes : List ℕ) → is_grouping n sizes ≡ true → Memᴰ sizes (groupings n)
grouping_among n sizes h = occurs_among sizes (groupings n) (rw (groupings_once n sizes, h) (omega arith))

-- What is among the groupings is a grouping.
pub among_grouping : (n : ℕ) (sizes : List ℕ) → Memᴰ sizes (groupings n) → is_grouping n sizes ≡ true
among_grouping n sizes m =
    yes_or_no (is_grouping n sizes)
    (λ e. e)
    (λ e. absurd (let h : 1 ≤ 0 = rw (groupings_once n sizes, e) at (among_occurs m) in omega arith))

-- ---- the wider first

-- The first size decides.
wider_here : (a b : ℕ) (left right : List ℕ) → b < a → wider_first (a ∷ left) (b ∷ right) ≡ true
unfolding wider_first
wider_here a b left right h = rw (lt-ltb b a h)

-- Equal first sizes leave it to the rest.
wider_later : (a : ℕ) (left right : List ℕ) → wider_first (a ∷ left) (a ∷ right) ≡ wider_first left right
unfolding wider_first
wider_later a left right = rw (le-ltb a a (omega arith), eq-eqb a a refl)

-- Of two lists at most one is the wider first.
pub wider_one_way : (left right : List ℕ) → wider_first left right ≡ true → wider_first right left ≡ true → ⊥
unfolding wider_first
wider_one_way [] right h k = false≢true h
wider_one_way (a ∷ left) [] h k = false≢true h
wider_one_way (a ∷ left) (b ∷ right) h k =
    yes_or_no (ltb b a)
    (λ e. let p = ltb-true b a e in false≢true (rw (le-ltb a b (omega arith), ne_eqb b a (λ q. omega arith)) at k))
    (λ e.
    let parts = both (eqb a b) (wider_first left right) (rw e at h) in
    let p = eqb-true a b parts.0 in
    wider_one_way left right parts.1 (rw (le-ltb a b (omega arith), eq-eqb b a (omega arith)) at k))

-- ---- the order of the groupings

-- Each list is wider first than those after it.
unfoldable pub WidestFirst : List (List ℕ) → Type 0
WidestFirst [] = Unit {0}
WidestFirst (sizes ∷ l) = ((other : List ℕ) → Memᴰ other l → wider_first sizes other ≡ true) × WidestFirst l

-- Two parts in order, where each of the first is wider first than each of the second.
widest_append : (l more : List (List ℕ)) → WidestFirst l → WidestFirst more → ((left right : List ℕ) → Memᴰ left l → Memᴰ right more → wider_first left right ≡ true) → WidestFirst (l ++ more)
unfolding WidestFirst
widest_append [] more h k across = k
widest_append (sizes ∷ l) more h k across = (
  (λ other m. earlier_or_later other (Memᴰ.append_cases l m)),
  widest_append l more h.1 k (λ left right p q. across left right (Memᴰ.tail p) q),
)
  where
    earlier_or_later : (other : List ℕ) → Memᴰ other l ⊎ Memᴰ other more → wider_first sizes other ≡ true
    earlier_or_later other (inl p) = h.0 other p
    earlier_or_later other (inr q) = across sizes other (Memᴰ.head refl) q

-- One first size before them all keeps the order.
widest_prefixed : (g : ℕ) (l : List (List ℕ)) → WidestFirst l → WidestFirst (map (λ sizes. g ∷ sizes) l)
unfolding WidestFirst
widest_prefixed g [] h = tt
widest_prefixed g (sizes ∷ l) h = (
  (λ other m. let r = Memᴰ.of_map (λ sizes. g ∷ sizes) l m in ap (wider_first (g ∷ sizes)) (sym r.2) ∙ wider_later g sizes r.0 ∙ h.0 r.0 r.1),
  widest_prefixed g l h.1,
)

-- Lists with a first size from b down to 1 begin with a size up to b.
first_size : (b : ℕ) (after : ℕ → List (List ℕ)) (sizes : List ℕ) → Memᴰ sizes (starting_to b after) → (g : ℕ) × (rest : List ℕ) × (g ≤ b) × (g ∷ rest ≡ sizes)
unfolding flat_map descending
first_size zero after sizes m = absurd (Memᴰ.not-nil m)
first_size (suc b) after sizes m = widest_or_less (first_size b after sizes) (Memᴰ.append_cases (map (λ rest. suc b ∷ rest) (after (suc b))) m)
  where
    widest_or_less : (Memᴰ sizes (starting_to b after) → (g : ℕ) × (rest : List ℕ) × (g ≤ b) × (g ∷ rest ≡ sizes)) → Memᴰ sizes (map (λ rest. suc b ∷ rest) (after (suc b))) ⊎ Memᴰ sizes (starting_to b after) → (g : ℕ) × (rest : List ℕ) × (g ≤ suc b) × (g ∷ rest ≡ sizes)
    widest_or_less less (inl p) = let r = Memᴰ.of_map (λ rest. suc b ∷ rest) (after (suc b)) p in (suc b, r.0, omega arith, r.2)
    widest_or_less less (inr q) = let r = less q in (r.0, r.1, (let h = r.2 in omega arith), r.3)

-- Lists with a first size from b down to 1 stand in order where those behind each size do.
widest_descending : (b : ℕ) (after : ℕ → List (List ℕ)) → ((g : ℕ) → WidestFirst (after g)) → WidestFirst (starting_to b after)
unfolding flat_map descending WidestFirst
widest_descending zero after h = tt
widest_descending (suc b) after h = widest_append (map (λ rest. suc b ∷ rest) (after (suc b))) (starting_to b after) (widest_prefixed (suc b) (after (suc b)) (h (suc b))) (widest_descending b after h) across
  where
    across : (left right : List ℕ) → Memᴰ left (map (λ rest. suc b ∷ rest) (after (suc b))) → Memᴰ right (starting_to b after) → wider_first left right ≡ true
    across left right p q =
        let l = Memᴰ.of_map (λ rest. suc b ∷ rest) (after (suc b)) p in
        let r = first_size b after right q in
        rw (← l.2, ← r.3) (wider_here (suc b) r.0 l.0 r.1 (let h = r.2 in omega arith))

-- The lists of at most so many sizes stand in order.
widest_within : (groups m : ℕ) → WidestFirst (groupings_within groups m)
unfolding groupings_within closing WidestFirst flat_map descending
widest_within zero zero = ((λ other m. absurd (Memᴰ.not-nil m)), tt)
widest_within zero (suc m) = tt
widest_within (suc groups) zero = ((λ other m. absurd (Memᴰ.not-nil m)), tt)
widest_within (suc groups) (suc m) = widest_descending (suc m) (λ g. groupings_within groups (suc m - g)) (λ g. widest_within groups (suc m - g))

-- Those that pass a test keep their order.
pub widest_kept : (test : List ℕ → Bool) (l : List (List ℕ)) → WidestFirst l → WidestFirst (keep test l)
unfolding WidestFirst keep
widest_kept test [] w = tt
widest_kept test (sizes ∷ l) w =
    yes_or_no (test sizes)
    (λ e. rw (keep_passed test sizes l e) ((λ other m. w.0 other (kept_among test l m).0), widest_kept test l w.1))
    (λ e. rw (keep_failed test sizes l e) (widest_kept test l w.1))

-- The groupings stand in the order of preference: the widest first size first, then the widest second, and so on.
pub groupings_widest_first : (n : ℕ) → WidestFirst (groupings n)
unfolding groupings
groupings_widest_first n = widest_within n n

-- ---- the groupings, by their first size

-- Lists that are the same behind each first size.
starting_same : (b : ℕ) (left right : ℕ → List (List ℕ)) → ((g : ℕ) → 1 ≤ g → g ≤ b → left g ≡ right g) → starting_to b left ≡ starting_to b right
unfolding flat_map descending
starting_same zero left right h = refl
starting_same (suc b) left right h =
    ap₂ (λ l more. map (λ sizes. suc b ∷ sizes) l ++ more) (h (suc b) (omega arith) (omega arith)) (starting_same b left right (λ g p q. h g p (omega arith)))

-- Where there is a size for each variable, one more adds nothing.
one_size_more : (groups m : ℕ) → m ≤ groups → groupings_within (suc groups) m ≡ groupings_within groups m
unfolding groupings_within closing flat_map descending
one_size_more zero zero h = refl
one_size_more zero (suc m) h = absurd (omega arith)
one_size_more (suc groups) zero h = refl
one_size_more (suc groups) (suc m) h =
    starting_same (suc m) (λ g. groupings_within (suc groups) (suc m - g)) (λ g. groupings_within groups (suc m - g)) (λ g p q. one_size_more groups (suc m - g) (omega arith))

-- As many sizes as variables are enough.
enough_sizes : (groups m : ℕ) → m ≤ groups → groupings_within groups m ≡ groupings m
unfolding groupings
enough_sizes zero m h = ap (λ groups. groupings_within groups m) (let e : 0 ≡ m = omega arith in e)
enough_sizes (suc groups) m h = all_or_more (dec_le m groups) (enough_sizes groups m)
  where
    all_or_more : Dec (m ≤ groups) → (m ≤ groups → groupings_within groups m ≡ groupings_within m m) → groupings_within (suc groups) m ≡ groupings_within m m
    all_or_more (yes l) fewer = one_size_more groups m l ∙ fewer l
    all_or_more (no l) fewer = ap (λ groups. groupings_within groups m) (let e : suc groups ≡ m = omega arith in e)

-- The one list of no sizes.
pub groupings_zero : groupings 0 ≡ [] ∷ []
unfolding groupings groupings_within closing
groupings_zero = refl

-- From the widest first size down, each followed by the groupings of the variables left.
pub groupings_suc : (m : ℕ) → groupings (suc m) ≡ starting_to (suc m) (λ g. groupings (suc m - g))
unfolding groupings groupings_within closing
groupings_suc m = starting_same (suc m) (λ g. groupings_within m (suc m - g)) (λ g. groupings (suc m - g)) (λ g p q. enough_sizes m (suc m - g) (omega arith))
