-- A cut is reached exactly where, from each cut above it, the cell of one variable fits. So the cuts are those from 0 to the first one
-- from which that cell is too wide, and the least limit is the widest of those cells.
use Prim.Native.Nat.{ℕ, zero, suc, ◌+◌, ◌-◌, ◌^◌, ◌≤◌, ◌<◌}
use Rattle.std.specs.Prelude.{◌≡◌, ◌↔◌, true, false, ◌&&◌, length, ltb, eqb, ℤ}
use Rattle.std.proofs.Math.Path.{refl, ap}
use Rattle.std.proofs.Common.{sym, ◌∙◌, true≢false}
use mathlib.Core.List.Memᴰ
use mathlib.Core.List.{List, [], ◌∷◌, Memᴰ}
use native.Mathlib.Omega.{arith}
use Rattle.std.proofs.Math.Dec.{leb}
use borrow.Author.Tests.{leb-true, le-leb, ltb-true, ltb-false, eqb-true}
use Rattle.numbers.specs.Lists.{numbers_from, keep, tally}
use Rattle.numbers.proofs.Laws.Bools.{yes_or_no, both, and_both}
use Rattle.numbers.proofs.Laws.Least.{least_passes, below_least, least_le}
use Rattle.numbers.proofs.Laws.Runs.{keep_front, run_among, among_run}
use Rattle.numbers.proofs.Laws.Selections.{among_kept, kept_among}
use Rattle.blocks.specs.Classes.{rail_at}
use Rattle.cascade.specs.Groupings.{groupings, address_width, fits_from, fits, is_grouping}
use Rattle.cascade.proofs.Laws.Cells.{address_width_le}
use Rattle.cascade.proofs.Laws.Groupings.{grouping_cons, grouping_nil, grouping_among, among_grouping}
use Rattle.reach.specs.Reach.{is_reached, Arriving, reached_cuts, least_limit}
use Rattle.reach.specs.Inner.Narrowest.{furthest, widest_above}
use Rattle.reach.proofs.Laws.Narrowest.{fits_above, furthest_cut, too_wide_at, none_wider, widest_least}
use Rattle.reach.proofs.Laws.Rails.{rail_grows}

-- ---- some list of fitting cells

some_among : (l : List (List ℕ)) → 1 ≤ length l → (sizes : List ℕ) × Memᴰ sizes l
some_among [] some = absurd (omega arith)
some_among (sizes ∷ l) some = (sizes, Memᴰ.head refl)

among_some : (l : List (List ℕ)) (sizes : List ℕ) → Memᴰ sizes l → 1 ≤ length l
among_some [] sizes m = absurd (Memᴰ.not-nil m)
among_some (x ∷ l) sizes m = omega arith

module _ (n : ℕ) (table : List ℤ) (limit h : ℕ) where
  -- Reached exactly where there is one.
  pub reached_arriving : (is_reached n table limit h ≡ true) ↔ Arriving n table limit h
  unfolding is_reached tally
  reached_arriving = (
    (λ e.
        let s = some_among (keep (fits n table limit) (groupings h)) (leb-true 1 _ e) in
        let m = kept_among (fits n table limit) (groupings h) s.1 in
        (s.0, among_grouping h s.0 m.0, m.1)),
    (λ a. le-leb 1 _ (among_some (keep (fits n table limit) (groupings h)) a.0 (among_kept (fits n table limit) (grouping_among h a.0 a.1) a.2))),
  )

-- ---- cells of one variable

-- One variable a cell.
ones : ℕ → List ℕ
ones zero = []
ones (suc m) = 1 ∷ ones m

ones_grouping : (m : ℕ) → is_grouping m (ones m) ≡ true
unfolding ones
ones_grouping zero = grouping_nil 0
ones_grouping (suc m) =
    let rest : suc m - 1 ≡ m = omega arith in
    grouping_cons (suc m) 1 (ones m)
    ∙ and_both (leb 1 1 && leb 1 (suc m)) (is_grouping (suc m - 1) (ones m)) (le-leb 1 (suc m) (omega arith)) (rw rest (ones_grouping m))

-- The address width of the cell of one variable from a cut.
abbrev pub one_wide : ℕ → List ℤ → ℕ → ℕ
one_wide n table c = address_width n table c 1

module _ (n : ℕ) (table : List ℤ) (limit : ℕ) where
  ones_fit : (m h : ℕ) → ((c : ℕ) → h ≤ c → c < h + m → one_wide n table c ≤ limit) → fits_from n table limit h (ones m) ≡ true
  unfolding fits_from ones
  ones_fit zero h narrow = refl
  ones_fit (suc m) h narrow =
      and_both (leb (one_wide n table h) limit) (fits_from n table limit (h + 1) (ones m))
      (le-leb (one_wide n table h) limit (narrow h (omega arith) (omega arith)))
      (ones_fit m (h + 1) (λ c p q. narrow c (omega arith) (omega arith)))

  module _ (size : length table ≡ 2 ^ n) where
    -- Within a cell that fits, those of one variable do.
    within_cell : (h g c : ℕ) → h + g ≤ n → address_width n table h g ≤ limit → h ≤ c → c < h + g → one_wide n table c ≤ limit
    unfolding address_width
    within_cell h g c ends fit p q =
        let e : h + (c - h) ≡ c = omega arith in
        let r : rail_at n table c ≤ rail_at n table h + (c - h) = rw e at (rail_grows n table size h (c - h) (omega arith)) in
        omega arith

    within_cells : (h m : ℕ) (sizes : List ℕ) → is_grouping m sizes ≡ true → fits_from n table limit h sizes ≡ true → h + m ≤ n → (c : ℕ) → h ≤ c → c < h + m → one_wide n table c ≤ limit
    unfolding fits_from
    within_cells h m [] grouping fit ends c p q =
        yes_or_no (eqb 0 m)
        (λ e. absurd (let z : 0 ≡ m = eqb-true 0 m e in omega arith))
        (λ e. absurd (true≢false (sym grouping ∙ grouping_nil m ∙ e)))
    within_cells h m (g ∷ sizes) grouping fit ends c p q =
        let parts = both (leb 1 g && leb g m) (is_grouping (m - g) sizes) (sym (grouping_cons m g sizes) ∙ grouping) in
        let inside = leb-true g m (both (leb 1 g) (leb g m) parts.0).1 in
        let here = both (leb (address_width n table h g) limit) (fits_from n table limit (h + g) sizes) fit in
        yes_or_no (ltb c (h + g))
        (λ l. within_cell h g c (omega arith) (leb-true _ limit here.0) p (ltb-true c (h + g) l))
        (λ l. let past = ltb-false c (h + g) l in within_cells (h + g) (m - g) sizes parts.1 here.1 (omega arith) c (omega arith) (omega arith))

    -- Reached exactly where, from each cut above, the cell of one variable fits.
    pub reached_narrow : (h : ℕ) → h ≤ n → (is_reached n table limit h ≡ true) ↔ ((c : ℕ) → c < h → one_wide n table c ≤ limit)
    unfolding fits
    reached_narrow h cut = (
      (λ e c l. let a = (reached_arriving n table limit h).0 e in within_cells 0 h a.0 a.1 a.2 (omega arith) c (omega arith) (omega arith)),
      (λ narrow. (reached_arriving n table limit h).1 (ones h, ones_grouping h, ones_fit h 0 (λ c p q. narrow c (omega arith)))),
    )

-- ---- both answers

module _ (n : ℕ) (table : List ℤ) (size : length table ≡ 2 ^ n) where
  -- The cuts are those from 0 to the furthest.
  pub cuts_run : (limit : ℕ) → reached_cuts n table limit ≡ numbers_from 0 (suc (furthest (one_wide n table) limit n))
  unfolding reached_cuts
  cuts_run limit =
      let last = furthest (one_wide n table) limit n in
      let cut = furthest_cut (one_wide n table) limit n in
      let whole : suc n ≡ suc last + (n - last) = omega arith in
      ap (λ k. keep (is_reached n table limit) (numbers_from 0 k)) whole
      ∙ keep_front (is_reached n table limit) (suc last) (n - last)
      (λ j l. (reached_narrow n table limit size j (omega arith)).1 (λ c p. fits_above (one_wide n table) limit n c (omega arith)))
      (λ j p q.
      yes_or_no (is_reached n table limit j)
      (λ e. let wide = too_wide_at (one_wide n table) limit n (omega arith) in let narrow = (reached_narrow n table limit size j (omega arith)).0 e last (omega arith) in absurd (omega arith))
      (λ e. e))

  -- The bottom cut is reached exactly where it is the furthest.
  pub bottom_furthest : (limit : ℕ) → (is_reached n table limit n ≡ true) ↔ (furthest (one_wide n table) limit n ≡ n)
  bottom_furthest limit = (
    (λ e.
        let cut = furthest_cut (one_wide n table) limit n in
        let last = furthest (one_wide n table) limit n in
        yes_or_no (ltb last n)
        (λ l.
        let above = ltb-true last n l in
        let wide = too_wide_at (one_wide n table) limit n above in
        let narrow = (reached_narrow n table limit size n (omega arith)).0 e last above in
        absurd (omega arith))
        (λ l. let past = ltb-false last n l in omega arith)),
    (λ e. (reached_narrow n table limit size n (omega arith)).1 (λ c l. fits_above (one_wide n table) limit n c (omega arith))),
  )

  -- With limit n some grouping fits.
  pub reached_with_n : is_reached n table n n ≡ true
  reached_with_n = (reached_narrow n table n size n (omega arith)).1 (λ c l. let a = address_width_le n table c 1 (omega arith) in omega arith)

  -- The least limit is the widest of the narrowest cells.
  pub least_widest : least_limit n table ≡ widest_above (one_wide n table) n
  unfolding least_limit
  least_widest =
      let up = least_le (λ limit. is_reached n table limit n) n (widest_above (one_wide n table) n) ((reached_narrow n table _ size n (omega arith)).1 (none_wider (one_wide n table) n)) in
      let down = widest_least (one_wide n table) n (least_limit n table) ((reached_narrow n table (least_limit n table) size n (omega arith)).0 (least_passes (λ limit. is_reached n table limit n) n reached_with_n)) in
      omega arith

  -- It reaches the bottom cut, and so does every wider one.
  pub least_reaches : (limit : ℕ) → least_limit n table ≤ limit → is_reached n table limit n ≡ true
  least_reaches limit enough =
      (reached_narrow n table limit size n (omega arith)).1
      (λ c l. let w = none_wider (one_wide n table) n c l in omega (arith, least_widest))

  -- It is from 1 to n.
  pub least_within : 1 ≤ n → (1 ≤ least_limit n table) × (least_limit n table ≤ n)
  unfolding least_limit address_width
  least_within some = (
    (let w = none_wider (one_wide n table) n 0 (omega arith) in omega (arith, least_widest)),
    least_le (λ limit. is_reached n table limit n) n n reached_with_n,
  )

  -- From the furthest cut above the bottom no cell fits.
  pub none_fits_there : (limit : ℕ) → furthest (one_wide n table) limit n < n → (g : ℕ) → 1 ≤ g → limit < address_width n table (furthest (one_wide n table) limit n) g
  unfolding address_width
  none_fits_there limit l g some = let w = too_wide_at (one_wide n table) limit n l in omega arith

-- No smaller one does.
pub below_reaches_not : (n : ℕ) (table : List ℤ) (limit : ℕ) → limit < least_limit n table → is_reached n table limit n ≡ false
unfolding least_limit
below_reaches_not n table limit l = below_least (λ limit. is_reached n table limit n) n limit l

-- ---- what is listed

module _ (n : ℕ) (table : List ℤ) (limit : ℕ) where
  -- The cuts that are listed are those from 0 to n that some list of fitting cells arrives at.
  pub listed_arriving : (h : ℕ) → Memᴰ h (reached_cuts n table limit) ↔ ((h ≤ n) × Arriving n table limit h)
  unfolding reached_cuts
  listed_arriving h = (
    (λ m.
        let k = kept_among (is_reached n table limit) (numbers_from 0 (suc n)) m in
        let r = (run_among 0 (suc n) h k.0).1 in
        (omega arith, (reached_arriving n table limit h).0 k.1)),
    (λ a. let cut = a.0 in among_kept (is_reached n table limit) (among_run 0 (suc n) h (omega arith) (omega arith)) ((reached_arriving n table limit h).1 a.1)),
  )
