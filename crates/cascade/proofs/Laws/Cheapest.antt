-- The first cheapest of lists of sizes, found part by part: from each cut on it follows from the choices at the cuts below.
use Prim.Native.Nat.{ℕ, zero, suc, ◌+◌, ◌-◌, ◌≤◌, ◌<◌}
use Rattle.std.proofs.Math.Path.{◌≡◌, refl, sym, ap, subst₂}
use Rattle.std.proofs.Common.{◌∙◌, ap₂, subst}
use Rattle.std.specs.Prelude.{Option, None, ◌↔◌, ◌⊎◌, Bool, ◌&&◌, ltb}
use Rattle.std.proofs.Math.Logic.{inl, inr}
use Rattle.std.proofs.Math.Bool.{true, false}
use mathlib.Core.List.Memᴰ
use mathlib.Core.List.{List, [], ◌∷◌, ◌++◌, map, flat_map, Memᴰ}
use native.Mathlib.Omega.{arith}
use Rattle.std.proofs.Math.ListN.{get_or}
use borrow.Author.Tests.{ltb-true, ltb-false, lt-ltb, le-ltb}
use Rattle.numbers.specs.Answers.{Answer, accepted, refused, map_answer}
use Rattle.numbers.specs.Lists.{keep}
use Rattle.numbers.proofs.Laws.Bools.{yes_or_no}
use Rattle.numbers.proofs.Laws.Selections.{keep_append, keep_map, keep_same, keep_none}
use Rattle.cascade.specs.Groupings.{descending, groupings, cheapest, first_cheapest, wider_first}
use Rattle.cascade.specs.Inner.Choices.{costing, price_from, cells_fit, cheapest_from, noted, taken, offered, tried, choices, choice_at, size_of, cost_of, sizes_from, answered}
use Rattle.cascade.specs.declared.Choice.{Choice}
use Rattle.cascade.proofs.Laws.Groupings.{WidestFirst, starting_to, groupings_zero, groupings_suc}

-- ---- the cheaper of two

-- The first of two lists of sizes, unless the other costs less.
cheaper : (List ℕ → ℕ) → List ℕ → List ℕ → List ℕ
cheaper price best sizes = elim (ltb (price sizes) (price best)) [ true ↦ sizes | false ↦ best ]

module _ (price : List ℕ → ℕ) where
  -- The other costs less.
  cheaper_other : (best sizes : List ℕ) → price sizes < price best → cheaper price best sizes ≡ sizes
  unfolding cheaper
  cheaper_other best sizes h = rw (lt-ltb (price sizes) (price best) h, cheaper)

  -- The other costs no less.
  cheaper_stays : (best sizes : List ℕ) → price best ≤ price sizes → cheaper price best sizes ≡ best
  unfolding cheaper
  cheaper_stays best sizes h = rw (le-ltb (price sizes) (price best) h, cheaper)

  -- The other costs less and is taken, or the first stays.
  cheaper_cases {ℓ} : {X : Type ℓ} (best sizes : List ℕ) → (price sizes < price best → cheaper price best sizes ≡ sizes → X) → (price best ≤ price sizes → cheaper price best sizes ≡ best → X) → X
  cheaper_cases best sizes other stays =
      yes_or_no (ltb (price sizes) (price best))
      (λ e. let h = ltb-true (price sizes) (price best) e in other h (cheaper_other best sizes h))
      (λ e. let h = ltb-false (price sizes) (price best) e in stays h (cheaper_stays best sizes h))

  -- Of three, in either order of comparing.
  cheaper_assoc : (a b c : List ℕ) → cheaper price (cheaper price a b) c ≡ cheaper price a (cheaper price b c)
  cheaper_assoc a b c =
      cheaper_cases a b
      (λ h e. cheaper_cases b c (λ k f. rw (e, f) (sym (cheaper_other a c (omega arith)))) (λ k f. rw (e, f, e)))
      (λ h e. cheaper_cases b c (λ k f. rw (e, f)) (λ k f. rw (e, f, e) (cheaper_stays a c (omega arith))))

  -- ---- the cheapest of a list

  -- One list of sizes more.
  cheapest_step : (best sizes : List ℕ) (l : List (List ℕ)) → cheapest price best (sizes ∷ l) ≡ cheapest price (cheaper price best sizes) l
  unfolding cheapest cheaper
  cheapest_step best sizes l = refl

  -- The cheapest of those after the first, against the first.
  cheapest_cons : (best sizes : List ℕ) (l : List (List ℕ)) → cheapest price best (sizes ∷ l) ≡ cheaper price best (cheapest price sizes l)
  unfolding cheapest
  cheapest_cons best sizes [] = cheapest_step best sizes []
  cheapest_cons best sizes (x ∷ l) =
      cheapest_step best sizes (x ∷ l)
      ∙ cheapest_cons (cheaper price best sizes) x l
      ∙ cheaper_assoc best sizes (cheapest price x l)
      ∙ ap (cheaper price best) (sym (cheapest_cons sizes x l))

  -- It is one of them.
  pub cheapest_among : (best : List ℕ) (l : List (List ℕ)) → Memᴰ (cheapest price best l) (best ∷ l)
  unfolding cheapest
  cheapest_among best [] = Memᴰ.head refl
  cheapest_among best (sizes ∷ l) =
      cheaper_cases best (cheapest price sizes l)
      (λ h e. Memᴰ.cast (cheapest_cons best sizes l ∙ e) (Memᴰ.tail (cheapest_among sizes l)))
      (λ h e. Memᴰ.head (cheapest_cons best sizes l ∙ e))

  -- None costs less.
  pub cheapest_least : (best : List ℕ) (l : List (List ℕ)) (other : List ℕ) → Memᴰ other (best ∷ l) → price (cheapest price best l) ≤ price other
  unfolding cheapest
  cheapest_least best [] other m = let e = ap price (Memᴰ.eq_of_singleton m) in omega arith
  cheapest_least best (sizes ∷ l) other m = first_or_later (cheapest_least sizes l other) (Memᴰ.cases_cons m)
    where
      at_most : (price (cheapest price best (sizes ∷ l)) ≤ price best) × (price (cheapest price best (sizes ∷ l)) ≤ price (cheapest price sizes l))
      at_most =
          cheaper_cases best (cheapest price sizes l)
          (λ h e. let p = ap price (cheapest_cons best sizes l ∙ e) in (omega arith, omega arith))
          (λ h e. let p = ap price (cheapest_cons best sizes l ∙ e) in (omega arith, omega arith))

      first_or_later : (Memᴰ other (sizes ∷ l) → price (cheapest price sizes l) ≤ price other) → (other ≡ best) ⊎ Memᴰ other (sizes ∷ l) → price (cheapest price best (sizes ∷ l)) ≤ price other
      first_or_later later (inl p) = let e = ap price p in let h = at_most.0 in omega arith
      first_or_later later (inr q) = let k = later q in let h = at_most.1 in omega arith

  -- Of those that cost as little it is the widest first, where they stand widest first.
  pub cheapest_widest : (best : List ℕ) (l : List (List ℕ)) (other : List ℕ) → WidestFirst (best ∷ l) → Memᴰ other (best ∷ l) → price other ≡ price (cheapest price best l) → (other ≡ cheapest price best l) ⊎ (wider_first (cheapest price best l) other ≡ true)
  unfolding cheapest WidestFirst
  cheapest_widest best [] other w m c = inl (Memᴰ.eq_of_singleton m)
  cheapest_widest best (sizes ∷ l) other w m c =
      cheaper_cases best (cheapest price sizes l)
      (λ h e. taken h (cheapest_cons best sizes l ∙ e) (cheapest_widest sizes l other w.1) (Memᴰ.cases_cons m))
      (λ h e. stays (cheapest_cons best sizes l ∙ e) (Memᴰ.cases_cons m))
    where
      Widest : List ℕ → Type 0
      Widest chosen = (other ≡ chosen) ⊎ (wider_first chosen other ≡ true)

      taken : price (cheapest price sizes l) < price best → cheapest price best (sizes ∷ l) ≡ cheapest price sizes l → (Memᴰ other (sizes ∷ l) → price other ≡ price (cheapest price sizes l) → Widest (cheapest price sizes l)) → (other ≡ best) ⊎ Memᴰ other (sizes ∷ l) → Widest (cheapest price best (sizes ∷ l))
      taken h e later (inl p) = absurd (let q = ap price p in let r = ap price e in omega arith)
      taken h e later (inr q) = subst Widest (sym e) (later q (c ∙ ap price e))

      stays : cheapest price best (sizes ∷ l) ≡ best → (other ≡ best) ⊎ Memᴰ other (sizes ∷ l) → Widest (cheapest price best (sizes ∷ l))
      stays e (inl p) = inl (p ∙ sym e)
      stays e (inr q) = inr (ap (λ chosen. wider_first chosen other) e ∙ w.0 other q)

  -- ---- the first cheapest, or 9

  -- 9 exactly where there is none.
  pub first_cheapest_none : (l : List (List ℕ)) → (first_cheapest price l ≡ refused 9) ↔ (l ≡ [])
  unfolding first_cheapest
  first_cheapest_none [] = (λ e. refl, λ e. refl)
  first_cheapest_none (sizes ∷ l) = (λ e. cc, λ e. cc)

  -- No other number refuses.
  pub first_cheapest_nine : (l : List (List ℕ)) (k : ℕ) → first_cheapest price l ≡ refused k → k ≡ 9
  unfolding first_cheapest
  first_cheapest_nine [] k e = cc
  first_cheapest_nine (sizes ∷ l) k e = cc

  -- Of no list none is accepted.
  nothing_accepted : (sizes : List ℕ) → first_cheapest price [] ≡ accepted sizes → ⊥
  unfolding first_cheapest
  nothing_accepted sizes e = let z : ◌≡◌ {A = ℕ} 0 1 = cc in omega arith

  -- The accepted one is the cheapest.
  accepted_cheapest : (sizes : List ℕ) (l : List (List ℕ)) (best : List ℕ) → first_cheapest price (sizes ∷ l) ≡ accepted best → cheapest price sizes l ≡ best
  unfolding first_cheapest
  accepted_cheapest sizes l best e = cc

  -- It is one of them.
  pub first_cheapest_among : (l : List (List ℕ)) (best : List ℕ) → first_cheapest price l ≡ accepted best → Memᴰ best l
  first_cheapest_among [] best e = absurd (nothing_accepted best e)
  first_cheapest_among (sizes ∷ l) best e = Memᴰ.cast (sym (accepted_cheapest sizes l best e)) (cheapest_among sizes l)

  -- None costs less.
  pub first_cheapest_least : (l : List (List ℕ)) (best other : List ℕ) → first_cheapest price l ≡ accepted best → Memᴰ other l → price best ≤ price other
  first_cheapest_least [] best other e m = absurd (nothing_accepted best e)
  first_cheapest_least (sizes ∷ l) best other e m = rw (accepted_cheapest sizes l best e) at (cheapest_least sizes l other m)

  -- Of those that cost as little it is the widest first, where they stand widest first.
  pub first_cheapest_widest : (l : List (List ℕ)) (best other : List ℕ) → WidestFirst l → first_cheapest price l ≡ accepted best → Memᴰ other l → price other ≡ price best → (other ≡ best) ⊎ (wider_first best other ≡ true)
  first_cheapest_widest [] best other w e m c = absurd (nothing_accepted best e)
  first_cheapest_widest (sizes ∷ l) best other w e m c =
      let is_best = accepted_cheapest sizes l best e in
      rw is_best at (cheapest_widest sizes l other w m (c ∙ ap price (sym is_best)))

  -- ---- the first cheapest, part by part

  -- An earlier and a later answer: the accepted one; of two accepted the earlier, unless the later costs less.
  first_of_two : Answer (List ℕ) → Answer (List ℕ) → Answer (List ℕ)
  first_of_two (refused k) later = later
  first_of_two (accepted best) (refused k) = accepted best
  first_of_two (accepted best) (accepted sizes) = accepted (cheaper price best sizes)

  -- Of three answers, in either order of comparing.
  first_of_two_assoc : (a b c : Answer (List ℕ)) → first_of_two (first_of_two a b) c ≡ first_of_two a (first_of_two b c)
  unfolding first_of_two
  first_of_two_assoc (refused k) b c = refl
  first_of_two_assoc (accepted a) (refused k) c = refl
  first_of_two_assoc (accepted a) (accepted b) (refused k) = refl
  first_of_two_assoc (accepted a) (accepted b) (accepted c) = ap accepted (cheaper_assoc a b c)

  -- The answer of two is that of one of them.
  one_of_two : (a b : Answer (List ℕ)) (sizes : List ℕ) → first_of_two a b ≡ accepted sizes → (a ≡ accepted sizes) ⊎ (b ≡ accepted sizes)
  unfolding first_of_two
  one_of_two (refused k) b sizes e = inr e
  one_of_two (accepted a) (refused k) sizes e = inl e
  one_of_two (accepted a) (accepted b) sizes e = cheaper_cases a b (λ h f. inr (ap accepted (sym f) ∙ e)) (λ h f. inl (ap accepted (sym f) ∙ e))

  -- The cheapest of two parts, one after the other.
  cheapest_append : (best : List ℕ) (l more : List (List ℕ)) → cheapest price best (l ++ more) ≡ cheapest price (cheapest price best l) more
  unfolding cheapest
  cheapest_append best [] more = refl
  cheapest_append best (sizes ∷ l) more = cheapest_append (elim (ltb (price sizes) (price best)) [ true ↦ sizes | false ↦ best ]) l more

  -- The first cheapest of two parts is that of the first cheapest of each.
  first_cheapest_append : (l more : List (List ℕ)) → first_cheapest price (l ++ more) ≡ first_of_two (first_cheapest price l) (first_cheapest price more)
  unfolding first_cheapest first_of_two cheapest
  first_cheapest_append [] more = refl
  first_cheapest_append (sizes ∷ l) [] = ap accepted (cheapest_append sizes l [])
  first_cheapest_append (sizes ∷ l) (x ∷ more) = ap accepted (cheapest_append sizes l (x ∷ more) ∙ cheapest_cons (cheapest price sizes l) x more)

-- Lists that change in one way and all cost one constant more: the same one is the first cheapest.
module _ (price shifted : List ℕ → ℕ) (f : List ℕ → List ℕ) (more : ℕ) (shift : (sizes : List ℕ) → shifted (f sizes) ≡ more + price sizes) where
  -- The cheaper of two is the same one.
  cheaper_shifted : (best sizes : List ℕ) → cheaper shifted (f best) (f sizes) ≡ f (cheaper price best sizes)
  cheaper_shifted best sizes =
      let b = shift best in
      let s = shift sizes in
      cheaper_cases price best sizes
      (λ h e. cheaper_other shifted (f best) (f sizes) (omega arith) ∙ ap f (sym e))
      (λ h e. cheaper_stays shifted (f best) (f sizes) (omega arith) ∙ ap f (sym e))

  -- The cheapest of a list is the same one.
  cheapest_shifted : (best : List ℕ) (l : List (List ℕ)) → cheapest shifted (f best) (map f l) ≡ f (cheapest price best l)
  unfolding cheapest
  cheapest_shifted best [] = refl
  cheapest_shifted best (sizes ∷ l) =
      cheapest_step shifted (f best) (f sizes) (map f l)
      ∙ ap (λ x. cheapest shifted x (map f l)) (cheaper_shifted best sizes)
      ∙ cheapest_shifted (cheaper price best sizes) l
      ∙ ap f (sym (cheapest_step price best sizes l))

  -- The first cheapest is the same one, and there is none where there was none.
  pub first_cheapest_shifted : (l : List (List ℕ)) → first_cheapest shifted (map f l) ≡ map_answer f (first_cheapest price l)
  unfolding first_cheapest
  first_cheapest_shifted [] = refl
  first_cheapest_shifted (sizes ∷ l) = ap accepted (cheapest_shifted sizes l)

-- ---- a size offered, and sizes tried in turn

-- It costs less and is taken.
pub offered_less : (size price rest next cost wider : ℕ) → price + rest < cost → offered size price (costing rest next) (costing cost wider) ≡ costing (price + rest) size
unfolding offered taken
offered_less size price rest next cost wider h = rw (lt-ltb (price + rest) cost h, taken)

-- It costs no less, and the wider one stays.
pub offered_stays : (size price rest next cost wider : ℕ) → cost ≤ price + rest → offered size price (costing rest next) (costing cost wider) ≡ costing cost wider
unfolding offered taken
offered_stays size price rest next cost wider h = rw (le-ltb (price + rest) cost h, taken)

module _ (price : ℕ → ℕ → ℕ) (fits_cell : ℕ → ℕ → Bool) where
  -- The cell fits, and its size is offered.
  pub tried_fits : (below : ℕ → Option Choice) (h : ℕ) (so_far : Option Choice) (g : ℕ) → fits_cell h (suc g) ≡ true → tried price fits_cell below h so_far (suc g) ≡ tried price fits_cell below h (offered (suc g) (price h (suc g)) (below (h + suc g)) so_far) g
  unfolding tried
  tried_fits below h so_far g e = rw (e, tried)

  -- The cell does not fit, and its size is passed over.
  pub tried_unfit : (below : ℕ → Option Choice) (h : ℕ) (so_far : Option Choice) (g : ℕ) → fits_cell h (suc g) ≡ false → tried price fits_cell below h so_far (suc g) ≡ tried price fits_cell below h so_far g
  unfolding tried
  tried_unfit below h so_far g e = rw (e, tried)

  -- Only the choices at the next g cuts count.
  pub tried_same : (left right : ℕ → Option Choice) (h : ℕ) (so_far : Option Choice) (g : ℕ) → ((cut : ℕ) → h < cut → cut ≤ h + g → left cut ≡ right cut) → tried price fits_cell left h so_far g ≡ tried price fits_cell right h so_far g
  unfolding tried
  tried_same left right h so_far zero k = refl
  tried_same left right h so_far (suc g) k =
      yes_or_no (fits_cell h (suc g))
      (λ e.
      tried_fits left h so_far g e
      ∙ ap (λ choice. tried price fits_cell left h (offered (suc g) (price h (suc g)) choice so_far) g) (k (h + suc g) (omega arith) (omega arith))
      ∙ tried_same left right h (offered (suc g) (price h (suc g)) (right (h + suc g)) so_far) g (λ cut p q. k cut p (omega arith))
      ∙ sym (tried_fits right h so_far g e))
      (λ e. tried_unfit left h so_far g e ∙ tried_same left right h so_far g (λ cut p q. k cut p (omega arith)) ∙ sym (tried_unfit right h so_far g e))

-- ---- the sizes that choices lead to, cell by cell

-- Above the bottom cut comes the size of the choice, and the sizes from where its cell ends.
pub sizes_step : (at : ℕ → Option Choice) (n cells h : ℕ) → h < n → sizes_from at n (suc cells) h ≡ size_of (at h) ∷ sizes_from at n cells (h + size_of (at h))
unfolding sizes_from
sizes_step at n cells h p = rw (lt-ltb h n p, sizes_from)

-- At the bottom cut no size is left.
pub sizes_end : (at : ℕ → Option Choice) (n cells h : ℕ) → n ≤ h → sizes_from at n cells h ≡ []
unfolding sizes_from
sizes_end at n zero h p = refl
sizes_end at n (suc cells) h p = rw (le-ltb h n p, sizes_from)

-- Only the choices at the cuts above the bottom one count.
pub sizes_same : (left right : ℕ → Option Choice) (n cells h : ℕ) → ((cut : ℕ) → cut < n → left cut ≡ right cut) → sizes_from left n cells h ≡ sizes_from right n cells h
unfolding sizes_from
sizes_same left right n zero h k = refl
sizes_same left right n (suc cells) h k =
    yes_or_no (ltb h n)
    (λ e.
    let l = ltb-true h n e in
    sizes_step left n cells h l
    ∙ ap (λ choice. size_of choice ∷ sizes_from left n cells (h + size_of choice)) (k h l)
    ∙ ap (λ rest. size_of (right h) ∷ rest) (sizes_same left right n cells (h + size_of (right h)) k)
    ∙ sym (sizes_step right n cells h l))
    (λ e. let l = ltb-false h n e in sizes_end left n (suc cells) h l ∙ sym (sizes_end right n (suc cells) h l))

-- ---- from a cut on

module _ (price : ℕ → ℕ → ℕ) (fits_cell : ℕ → ℕ → Bool) where
  -- No variable is left: the list of no sizes.
  cheapest_from_bottom : (h : ℕ) → cheapest_from price fits_cell h 0 ≡ accepted []
  unfolding cheapest_from cells_fit keep first_cheapest cheapest
  cheapest_from_bottom h = rw groupings_zero

  -- The first cheapest of the lists that begin with size g.
  cheapest_after : ℕ → ℕ → List (List ℕ) → Answer (List ℕ)
  cheapest_after h g l = first_cheapest (price_from price h) (keep (cells_fit fits_cell h) (map (λ sizes. g ∷ sizes) l))

  -- Its cell fits: the first cheapest rest from the cut below, behind it.
  after_fits : (h g : ℕ) (l : List (List ℕ)) → fits_cell h g ≡ true → cheapest_after h g l ≡ map_answer (λ sizes. g ∷ sizes) (first_cheapest (price_from price (h + g)) (keep (cells_fit fits_cell (h + g)) l))
  unfolding cheapest_after cells_fit price_from
  after_fits h g l e =
      ap (first_cheapest (price_from price h)) (keep_map (λ sizes. g ∷ sizes) (cells_fit fits_cell h) l ∙ ap (map (λ sizes. g ∷ sizes)) (keep_same (λ sizes. fits_cell h g && cells_fit fits_cell (h + g) sizes) (cells_fit fits_cell (h + g)) l (λ sizes. rw e)))
      ∙ first_cheapest_shifted (price_from price (h + g)) (price_from price h) (λ sizes. g ∷ sizes) (price h g) (λ sizes. refl) (keep (cells_fit fits_cell (h + g)) l)

  -- Its cell does not fit: none.
  after_unfit : (h g : ℕ) (l : List (List ℕ)) → fits_cell h g ≡ false → cheapest_after h g l ≡ refused 9
  unfolding cheapest_after cells_fit first_cheapest
  after_unfit h g l e =
      ap (first_cheapest (price_from price h)) (keep_map (λ sizes. g ∷ sizes) (cells_fit fits_cell h) l ∙ ap (map (λ sizes. g ∷ sizes)) (keep_none (λ sizes. fits_cell h g && cells_fit fits_cell (h + g) sizes) l [] (λ k below. rw e)))

  -- A list with one more size in front, offered against an answer.
  noted_offer : (h g : ℕ) (so_far rest : Answer (List ℕ)) → noted price h (first_of_two (price_from price h) so_far (map_answer (λ sizes. g ∷ sizes) rest)) ≡ offered g (price h g) (noted price (h + g) rest) (noted price h so_far)
  unfolding noted first_of_two offered taken price_from
  noted_offer h g (refused j) (refused k) = refl
  noted_offer h g (accepted best) (refused k) = refl
  noted_offer h g (refused j) (accepted rest) = refl
  noted_offer h g (accepted best) (accepted rest) =
      cheaper_cases (price_from price h) best (g ∷ rest)
      (λ l e. ap (λ sizes. noted price h (accepted sizes)) e ∙ sym (offered_less g (price h g) (price_from price (h + g) rest) (get_or rest 0 0) (price_from price h best) (get_or best 0 0) l))
      (λ l e. ap (λ sizes. noted price h (accepted sizes)) e ∙ sym (offered_stays g (price h g) (price_from price (h + g) rest) (get_or rest 0 0) (price_from price h best) (get_or best 0 0) l))

  -- No list more notes nothing more.
  noted_nothing : (h : ℕ) (so_far : Answer (List ℕ)) → noted price h (first_of_two (price_from price h) so_far (refused 9)) ≡ noted price h so_far
  unfolding noted first_of_two
  noted_nothing h (accepted best) = refl
  noted_nothing h (refused k) = refl

  -- The first cheapest of the lists over m variables that begin with a size from b down to 1.
  cheapest_starting : ℕ → ℕ → ℕ → Answer (List ℕ)
  cheapest_starting h m b = first_cheapest (price_from price h) (keep (cells_fit fits_cell h) (starting_to b (λ g. groupings (m - g))))

  -- The lists that begin with the widest of these sizes, and the others after them.
  starting_suc : (h m b : ℕ) → cheapest_starting h m (suc b) ≡ first_of_two (price_from price h) (cheapest_after h (suc b) (groupings (m - suc b))) (cheapest_starting h m b)
  unfolding cheapest_starting cheapest_after flat_map descending
  starting_suc h m b =
      ap (first_cheapest (price_from price h)) (keep_append (cells_fit fits_cell h) (map (λ sizes. suc b ∷ sizes) (groupings (m - suc b))) (starting_to b (λ g. groupings (m - g))))
      ∙ first_cheapest_append (price_from price h) (keep (cells_fit fits_cell h) (map (λ sizes. suc b ∷ sizes) (groupings (m - suc b)))) (keep (cells_fit fits_cell h) (starting_to b (λ g. groupings (m - g))))

  -- All first sizes that there are.
  starting_all : (h m : ℕ) → cheapest_starting h (suc m) (suc m) ≡ cheapest_from price fits_cell h (suc m)
  unfolding cheapest_starting cheapest_from
  starting_all h m = ap (λ l. first_cheapest (price_from price h) (keep (cells_fit fits_cell h) l)) (sym (groupings_suc m))

  -- The cell of the widest size does not fit.
  starting_passes_over : (h m b : ℕ) → fits_cell h (suc b) ≡ false → cheapest_starting h m (suc b) ≡ cheapest_starting h m b
  unfolding first_of_two
  starting_passes_over h m b e = starting_suc h m b ∙ ap (λ answer. first_of_two (price_from price h) answer (cheapest_starting h m b)) (after_unfit h (suc b) (groupings (m - suc b)) e)

  -- The cell of the widest size fits.
  starting_takes : (h m b : ℕ) → fits_cell h (suc b) ≡ true → cheapest_starting h m (suc b) ≡ first_of_two (price_from price h) (map_answer (λ sizes. suc b ∷ sizes) (cheapest_from price fits_cell (h + suc b) (m - suc b))) (cheapest_starting h m b)
  unfolding cheapest_from
  starting_takes h m b e = starting_suc h m b ∙ ap (λ answer. first_of_two (price_from price h) answer (cheapest_starting h m b)) (after_fits h (suc b) (groupings (m - suc b)) e)

  -- Trying the sizes from b down to 1 notes the first cheapest of an answer so far and the lists that begin with them.
  noted_tried : (below : ℕ → Option Choice) (h m : ℕ) (so_far : Answer (List ℕ)) (b : ℕ) → ((g : ℕ) → 1 ≤ g → g ≤ b → below (h + g) ≡ noted price (h + g) (cheapest_from price fits_cell (h + g) (m - g))) → tried price fits_cell below h (noted price h so_far) b ≡ noted price h (first_of_two (price_from price h) so_far (cheapest_starting h m b))
  unfolding flat_map descending tried keep first_cheapest cheapest_starting
  noted_tried below h m so_far zero k = sym (noted_nothing h so_far)
  noted_tried below h m so_far (suc b) k =
      yes_or_no (fits_cell h (suc b))
      (λ e.
      tried_fits price fits_cell below h (noted price h so_far) b e
      ∙ ap (λ choice. tried price fits_cell below h choice b) (ap (λ choice. offered (suc b) (price h (suc b)) choice (noted price h so_far)) (k (suc b) (omega arith) (omega arith)) ∙ sym (noted_offer h (suc b) so_far rest))
      ∙ noted_tried below h m (first_of_two (price_from price h) so_far (map_answer (λ sizes. suc b ∷ sizes) rest)) b (λ g p q. k g p (omega arith))
      ∙ ap (noted price h) (first_of_two_assoc (price_from price h) so_far (map_answer (λ sizes. suc b ∷ sizes) rest) (cheapest_starting h m b) ∙ ap (first_of_two (price_from price h) so_far) (sym (starting_takes h m b e))))
      (λ e.
      tried_unfit price fits_cell below h (noted price h so_far) b e
      ∙ noted_tried below h m so_far b (λ g p q. k g p (omega arith))
      ∙ ap (λ answer. noted price h (first_of_two (price_from price h) so_far answer)) (sym (starting_passes_over h m b e)))
    where
      rest : Answer (List ℕ)
      rest = cheapest_from price fits_cell (h + suc b) (m - suc b)

  -- The choice at a cut, from the choices at the cuts below.
  noted_step : (below : ℕ → Option Choice) (h m : ℕ) → ((g : ℕ) → 1 ≤ g → g ≤ suc m → below (h + g) ≡ noted price (h + g) (cheapest_from price fits_cell (h + g) (suc m - g))) → tried price fits_cell below h None (suc m) ≡ noted price h (cheapest_from price fits_cell h (suc m))
  unfolding noted first_of_two
  noted_step below h m k = noted_tried below h (suc m) (refused 9) (suc m) k ∙ ap (noted price h) (starting_all h m)

  -- ---- the choices, from the bottom cut up

  -- At the bottom cut nothing is left to choose.
  noted_bottom : (h : ℕ) → noted price h (cheapest_from price fits_cell h 0) ≡ costing 0 0
  unfolding noted price_from
  noted_bottom h = ap (noted price h) (cheapest_from_bottom h)

  -- Equal cuts and equal variables left.
  noted_at : {h k : ℕ} (m l : ℕ) → h ≡ k → m ≡ l → noted price h (cheapest_from price fits_cell h m) ≡ noted price k (cheapest_from price fits_cell k l)
  noted_at m l e f = ap₂ (λ cut left. noted price cut (cheapest_from price fits_cell cut left)) e f

  -- Each of the choices notes the first cheapest list of sizes from its cut on.
  choices_noted : (n m j : ℕ) → m ≤ n → j ≤ m → get_or (choices price fits_cell n m) j None ≡ noted price (n - m + j) (cheapest_from price fits_cell (n - m + j) (m - j))
  unfolding choices
  choices_noted n zero zero p q = sym (noted_bottom (n - 0 + 0))
  choices_noted n zero (suc j) p q = absurd (omega arith)
  choices_noted n (suc m) zero p q =
      noted_step (λ cut. get_or (choices price fits_cell n m) (cut - (n - m)) None) (n - suc m) m
      (λ g l r. choices_noted n m (n - suc m + g - (n - m)) (omega arith) (omega arith) ∙ noted_at (m - (n - suc m + g - (n - m))) (suc m - g) (omega arith) (omega arith))
      ∙ noted_at (suc m) (suc m - 0) (omega arith) (omega arith)
  choices_noted n (suc m) (suc j) p q = choices_noted n m j (omega arith) (omega arith) ∙ noted_at (m - j) (suc m - suc j) (omega arith) (omega arith)

  -- The choice at a cut notes the first cheapest list of sizes from there on.
  pub choice_noted : (n h : ℕ) → h ≤ n → choice_at price fits_cell n h ≡ noted price h (cheapest_from price fits_cell h (n - h))
  unfolding choice_at
  choice_noted n h p = choices_noted n (n - h) 0 (omega arith) (omega arith) ∙ noted_at (n - h - 0) (n - h) (omega arith) (omega arith)

  -- At the bottom cut the choice is made: no cost, no size.
  pub choice_bottom : (n : ℕ) → choice_at price fits_cell n n ≡ costing 0 0
  choice_bottom n = choice_noted n n (omega arith) ∙ noted_at (n - n) 0 refl (omega arith) ∙ noted_bottom n

  -- At a cut above it, all sizes are tried from the widest down, with the choices at the cuts below.
  pub choice_step : (n h : ℕ) → h < n → choice_at price fits_cell n h ≡ tried price fits_cell (choice_at price fits_cell n) h None (n - h)
  choice_step n h p =
      choice_noted n h (omega arith)
      ∙ noted_at (n - h) (suc (n - suc h)) refl (omega arith)
      ∙ sym (noted_step (choice_at price fits_cell n) h (n - suc h) (λ g l r. choice_noted n (h + g) (omega arith) ∙ noted_at (n - (h + g)) (suc (n - suc h) - g) refl (omega arith)))
      ∙ ap (tried price fits_cell (choice_at price fits_cell n) h None) (let e : suc (n - suc h) ≡ n - h = omega arith in e)

  -- ---- the sizes that the choices lead to

  -- An accepted list with one size in front was accepted without it.
  mapped_accepted : (g : ℕ) (answer : Answer (List ℕ)) (sizes : List ℕ) → map_answer (λ rest. g ∷ rest) answer ≡ accepted sizes → (rest : List ℕ) × (g ∷ rest ≡ sizes) × (answer ≡ accepted rest)
  mapped_accepted g (accepted rest) sizes e = (rest, cc, refl)
  mapped_accepted g (refused k) sizes e = absurd (let z : ◌≡◌ {A = ℕ} 0 1 = cc in omega arith)

  -- A first size from b down to 1, and the first cheapest rest from the cut below it.
  SizeAndRest : ℕ → ℕ → ℕ → List ℕ → Type 0
  SizeAndRest h m b sizes = (g : ℕ) × (rest : List ℕ) × (1 ≤ g) × (g ≤ b) × (g ∷ rest ≡ sizes) × (cheapest_from price fits_cell (h + g) (m - g) ≡ accepted rest) × (fits_cell h g ≡ true)

  -- The first cheapest of the lists that begin with a size from b down to 1 is such a one.
  size_and_rest_to : (h m b : ℕ) (sizes : List ℕ) → cheapest_starting h m b ≡ accepted sizes → SizeAndRest h m b sizes
  unfolding SizeAndRest cheapest_starting flat_map descending keep
  size_and_rest_to h m zero sizes e = absurd (nothing_accepted (price_from price h) sizes e)
  size_and_rest_to h m (suc b) sizes e =
      yes_or_no (fits_cell h (suc b))
      (λ f. widest_or_less f (size_and_rest_to h m b sizes) (one_of_two (price_from price h) (map_answer (λ rest. suc b ∷ rest) (cheapest_from price fits_cell (h + suc b) (m - suc b))) (cheapest_starting h m b) sizes (sym (starting_takes h m b f) ∙ e)))
      (λ f. one_wider (size_and_rest_to h m b sizes (sym (starting_passes_over h m b f) ∙ e)))
    where
      one_wider : SizeAndRest h m b sizes → SizeAndRest h m (suc b) sizes
      one_wider r = (r.0, r.1, r.2, (let l = r.3 in omega arith), r.4, r.5, r.6)

      widest_or_less : fits_cell h (suc b) ≡ true → (cheapest_starting h m b ≡ accepted sizes → SizeAndRest h m b sizes) → (map_answer (λ rest. suc b ∷ rest) (cheapest_from price fits_cell (h + suc b) (m - suc b)) ≡ accepted sizes) ⊎ (cheapest_starting h m b ≡ accepted sizes) → SizeAndRest h m (suc b) sizes
      widest_or_less f less (inl p) =
          let r = mapped_accepted (suc b) (cheapest_from price fits_cell (h + suc b) (m - suc b)) sizes p in
          (suc b, r.0, omega arith, omega arith, r.1, r.2, f)
      widest_or_less f less (inr q) = one_wider (less q)

  -- The first cheapest list begins with a size within the variables, and its rest is the first cheapest from the cut below.
  size_and_rest : (h m : ℕ) (sizes : List ℕ) → 0 < m → cheapest_from price fits_cell h m ≡ accepted sizes → SizeAndRest h m m sizes
  size_and_rest h zero sizes p e = absurd (omega arith)
  size_and_rest h (suc m) sizes p e = size_and_rest_to h (suc m) (suc m) sizes (starting_all h m ∙ e)

  -- What a choice notes of an accepted list.
  choice_accepted : (n h : ℕ) (sizes : List ℕ) → h ≤ n → cheapest_from price fits_cell h (n - h) ≡ accepted sizes → choice_at price fits_cell n h ≡ costing (price_from price h sizes) (get_or sizes 0 0)
  unfolding noted
  choice_accepted n h sizes p e = choice_noted n h p ∙ ap (noted price h) e

  -- The list that a choice notes.
  accepted_behind : (n h cost size : ℕ) → h ≤ n → choice_at price fits_cell n h ≡ costing cost size → (sizes : List ℕ) × (cheapest_from price fits_cell h (n - h) ≡ accepted sizes) × (price_from price h sizes ≡ cost) × (get_or sizes 0 0 ≡ size)
  unfolding noted cost_of size_of
  accepted_behind n h cost size p e = behind (cheapest_from price fits_cell h (n - h)) refl (sym (choice_noted n h p) ∙ e)
    where
      behind : (answer : Answer (List ℕ)) → cheapest_from price fits_cell h (n - h) ≡ answer → noted price h answer ≡ costing cost size → (sizes : List ℕ) × (cheapest_from price fits_cell h (n - h) ≡ accepted sizes) × (price_from price h sizes ≡ cost) × (get_or sizes 0 0 ≡ size)
      behind (accepted sizes) f q = (sizes, f, ap cost_of q, ap size_of q)
      behind (refused k) f q = absurd (let z : ◌≡◌ {A = ℕ} 0 1 = cc in omega arith)

  -- No variable is left, and no size.
  nothing_left : (m h : ℕ) (sizes : List ℕ) → m ≡ 0 → cheapest_from price fits_cell h m ≡ accepted sizes → [] ≡ sizes
  nothing_left m h sizes p e = let f = ap (cheapest_from price fits_cell h) p ∙ cheapest_from_bottom h in cc

  -- The sizes that the choices lead to are the first cheapest list, where there is one.
  sizes_from_lem : (cells n h : ℕ) (sizes : List ℕ) → h ≤ n → n - h ≤ cells → cheapest_from price fits_cell h (n - h) ≡ accepted sizes → sizes_from (choice_at price fits_cell n) n cells h ≡ sizes
  unfolding sizes_from size_of SizeAndRest
  sizes_from_lem zero n h sizes p q e = nothing_left (n - h) h sizes (omega arith) e
  sizes_from_lem (suc cells) n h sizes p q e =
      yes_or_no (ltb h n)
      (λ f.
      let l : h < n = ltb-true h n f in
      let r = size_and_rest h (n - h) sizes (omega arith) e in
      let within = r.3 in
      let some = r.2 in
      let is_size : size_of (choice_at price fits_cell n h) ≡ r.0 = ap size_of (choice_accepted n h sizes p e) ∙ ap (λ l. get_or l 0 0) (sym r.4) in
      sizes_step (choice_at price fits_cell n) n cells h l
      ∙ ap (λ g. g ∷ sizes_from (choice_at price fits_cell n) n cells (h + g)) is_size
      ∙ ap (λ rest. r.0 ∷ rest) (sizes_from_lem cells n (h + r.0) r.1 (omega arith) (omega arith) (ap (cheapest_from price fits_cell (h + r.0)) (let e : n - (h + r.0) ≡ n - h - r.0 = omega arith in e) ∙ r.5))
      ∙ r.4)
      (λ f. let l = ltb-false h n f in sizes_end (choice_at price fits_cell n) n (suc cells) h l ∙ nothing_left (n - h) h sizes (omega arith) e)

  -- No other number than 9 refuses.
  refused_by_nine : (h m k : ℕ) → cheapest_from price fits_cell h m ≡ refused k → k ≡ 9
  unfolding cheapest_from
  refused_by_nine h m k e = first_cheapest_nine (price_from price h) (keep (cells_fit fits_cell h) (groupings m)) k e

  -- The first cheapest list from a cut on is what the choices lead to; 9 where the choice there has no list.
  pub cheapest_by_choices : (n h : ℕ) → h ≤ n → cheapest_from price fits_cell h (n - h) ≡ answered (choice_at price fits_cell n h) (sizes_from (choice_at price fits_cell n) n (n - h) h)
  unfolding answered noted
  cheapest_by_choices n h p = either (cheapest_from price fits_cell h (n - h)) refl
    where
      led : List ℕ
      led = sizes_from (choice_at price fits_cell n) n (n - h) h

      either : (answer : Answer (List ℕ)) → cheapest_from price fits_cell h (n - h) ≡ answer → cheapest_from price fits_cell h (n - h) ≡ answered (choice_at price fits_cell n h) led
      either (accepted sizes) e = e ∙ sym (ap₂ answered (choice_accepted n h sizes p e) (sizes_from_lem (n - h) n h sizes p (omega arith) e))
      either (refused k) e = e ∙ ap refused (refused_by_nine h (n - h) k e) ∙ sym (ap (λ choice. answered choice led) (choice_noted n h p ∙ ap (noted price h) e))

  -- A choice costs what the sizes cost that it leads to.
  pub choice_cost : (n h cost size : ℕ) → h ≤ n → choice_at price fits_cell n h ≡ costing cost size → price_from price h (sizes_from (choice_at price fits_cell n) n (n - h) h) ≡ cost
  choice_cost n h cost size p e =
      let r = accepted_behind n h cost size p e in
      ap (price_from price h) (sizes_from_lem (n - h) n h r.0 p (omega arith) r.1) ∙ r.2

-- A choice above the bottom cut: its cell ends within the cuts and fits, and its cost is the cell's price and the cost of the choice where it ends.
pub record Leads (price : ℕ → ℕ → ℕ) (fits_cell : ℕ → ℕ → Bool) (n h cost size : ℕ) : Type 0 where
  pub some : 1 ≤ size
  pub inside : h + size ≤ n
  pub fits : fits_cell h size ≡ true
  pub rest : ℕ
  pub next : ℕ
  pub below : choice_at price fits_cell n (h + size) ≡ costing rest next
  pub together : cost ≡ price h size + rest

module _ (price : ℕ → ℕ → ℕ) (fits_cell : ℕ → ℕ → Bool) where
  -- A first size that fits, with its first cheapest rest.
  size_leads : (n h g : ℕ) (rest : List ℕ) → 1 ≤ g → h + g ≤ n → fits_cell h g ≡ true → cheapest_from price fits_cell (h + g) (n - (h + g)) ≡ accepted rest → Leads price fits_cell n h (price h g + price_from price (h + g) rest) g
  size_leads n h g rest some inside fits e = record {
    some = some;
    inside = inside;
    fits = fits;
    rest = price_from price (h + g) rest;
    next = get_or rest 0 0;
    below = choice_accepted price fits_cell n (h + g) rest inside e;
    together = refl;
  }

  -- A choice above the bottom cut leads on.
  pub choice_leads : (n h cost size : ℕ) → h < n → choice_at price fits_cell n h ≡ costing cost size → Leads price fits_cell n h cost size
  unfolding SizeAndRest price_from
  choice_leads n h cost size p e =
      let a = accepted_behind price fits_cell n h cost size (omega arith) e in
      let r = size_and_rest price fits_cell h (n - h) a.0 (omega arith) a.1 in
      let inside = r.3 in
      subst₂ (λ cost size. Leads price fits_cell n h cost size) (ap (price_from price h) r.4 ∙ a.2) (ap (λ l. get_or l 0 0) r.4 ∙ a.3)
      (size_leads n h r.0 r.1 r.2 (omega arith) r.6 (ap (cheapest_from price fits_cell (h + r.0)) (let f : n - (h + r.0) ≡ n - h - r.0 = omega arith in f) ∙ r.5))
