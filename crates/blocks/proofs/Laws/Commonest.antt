-- The commonest class of use counts: it is told by three lines, and how it stands after one count more.
use Rattle.std.specs.Prelude.{ℕ, zero, suc, ◌≤◌, ◌<◌, max, ◌≡◌, refl, Bool, List, [], ◌∷◌, ◌++◌, length, get_or, eqb}
use Rattle.std.proofs.Common.{sym, ◌∙◌, ap, arith, length-append}
use Rattle.std.proofs.Math.Decide.{dec_lt}
use Rattle.std.proofs.Math.ListN.{get_or-eq_default, get_or-append}
use Rattle.std.proofs.Math.Seq.{get_or-append_seam}
use borrow.Author.Tests.{eq-eqb, eqb-true, eqb-false}
use Rattle.numbers.specs.Lists.{least}
use Rattle.numbers.proofs.Laws.Least.{least_under, below_least, least_le}
use Rattle.blocks.specs.Uses.{most_uses, commonest}
use Rattle.blocks.specs.declared.Common.{Common}

-- Each class before it has fewer uses, none has more, and so many it has itself. A number past the last class has none.
pub record Leading (counts : List ℕ) (c : Common) : Type 0 where
  pub before : (class : ℕ) → class < c.class → get_or counts class 0 < c.uses
  pub most : (class : ℕ) → get_or counts class 0 ≤ c.uses
  pub met : get_or counts c.class 0 ≡ c.uses

-- One class alone does.
pub one_leading : (counts : List ℕ) (c d : Common) → Leading counts c → Leading counts d → c ≡ d
one_leading counts c d left right = λ t. record { class = classes_equal t; uses = uses_equal t }
  where
    uses_equal : c.uses ≡ d.uses
    uses_equal =
        let a = left.met in
        let b = right.met in
        let p = left.most d.class in
        let q = right.most c.class in
        omega arith

    classes_equal : c.class ≡ d.class
    classes_equal = by_order (dec_lt c.class d.class) (dec_lt d.class c.class)
      where
        by_order : Dec (c.class < d.class) → Dec (d.class < c.class) → c.class ≡ d.class
        by_order (yes l) m = absurd (let b = right.before c.class l in let a = left.met in let e = uses_equal in omega arith)
        by_order (no l) (yes m) = absurd (let b = left.before d.class m in let a = right.met in let e = uses_equal in omega arith)
        by_order (no l) (no m) = omega arith

-- ---- the definition

pub most_bounds : (counts : List ℕ) (class : ℕ) → get_or counts class 0 ≤ most_uses counts
unfolding most_uses
most_bounds [] class = omega arith
most_bounds (count ∷ counts) zero = omega arith
most_bounds (count ∷ counts) (suc class) = let b = most_bounds counts class in omega arith

-- The greatest stands somewhere; where there is no count, past the last.
most_stands : (counts : List ℕ) → (class : ℕ) × ((class ≤ length counts) × (get_or counts class 0 ≡ most_uses counts))
unfolding most_uses
most_stands [] = (0, (omega arith, refl))
most_stands (count ∷ counts) = first_or_later (most_stands counts) (dec_lt count (most_uses counts))
  where
    first_or_later : (class : ℕ) × ((class ≤ length counts) × (get_or counts class 0 ≡ most_uses counts)) → Dec (count < most_uses counts) → (class : ℕ) × ((class ≤ suc (length counts)) × (get_or (count ∷ counts) class 0 ≡ max count (most_uses counts)))
    first_or_later s (yes l) = let b = s.1.0 in (suc s.0, (omega arith, s.1.1 ∙ (let e : most_uses counts ≡ max count (most_uses counts) = omega arith in e)))
    first_or_later s (no l) = (0, (omega arith, let e : count ≡ max count (most_uses counts) = omega arith in e))

module _ (counts : List ℕ) where
  abbrev test : ℕ → Bool
  test class = eqb (get_or counts class 0) (most_uses counts)

  abbrev place : ℕ
  place = least (λ class. eqb (get_or counts class 0) (most_uses counts)) (length counts)

  early : place ≤ (most_stands counts).0
  early = let some = most_stands counts in least_le test (length counts) some.0 (eq-eqb (get_or counts some.0 0) (most_uses counts) some.1.1)

  stands : get_or counts place 0 ≡ most_uses counts
  stands = inside_or_past (dec_lt place (length counts))
    where
      inside_or_past : Dec (place < length counts) → get_or counts place 0 ≡ most_uses counts
      inside_or_past (yes l) = eqb-true (get_or counts place 0) (most_uses counts) (least_under test (length counts) l)
      inside_or_past (no l) =
          let some = most_stands counts in
          ap (λ k. get_or counts k 0) (let e = early in let b = some.1.0 in let q : place ≡ some.0 = omega arith in q) ∙ some.1.1

  pub commonest_leads : Leading counts (commonest counts)
  unfolding commonest
  commonest_leads = record {
    before = λ class l. let b = most_bounds counts class in let other = eqb-false (get_or counts class 0) (most_uses counts) (below_least test (length counts) class l) in omega arith;
    most = most_bounds counts;
    met = stands;
  }

-- What leads is the commonest.
pub leading_is : (counts : List ℕ) (c : Common) → Leading counts c → c ≡ commonest counts
leading_is counts c l = one_leading counts c (commonest counts) l (commonest_leads counts)

-- ---- one count more

pub none_leads : Leading [] (record { class = 0; uses = 0 })
none_leads = record { met = refl; most = λ class. omega arith; before = λ class l. absurd (omega arith) }

module _ (counts : List ℕ) (count : ℕ) where
  abbrev more : List ℕ
  more = counts ++ count ∷ []

  -- What stands at a place of the longer list: what stood there, the count, or nothing.
  stands_at : (X : ℕ → Type 0) (k : ℕ) → (k < length counts → X (get_or counts k 0)) → (k ≡ length counts → X count) → (length counts < k → X 0) → X (get_or more k 0)
  stands_at X k inside last past = by_place (dec_lt k (length counts)) (dec_lt (length counts) k)
    where
      by_place : Dec (k < length counts) → Dec (length counts < k) → X (get_or more k 0)
      by_place (yes l) m = rw (get_or-append counts (count ∷ []) 0 k l) (inside l)
      by_place (no l) (yes m) = rw (get_or-eq_default more 0 {n = k} (rw length-append (omega arith))) (past m)
      by_place (no l) (no m) = let e : k ≡ length counts = omega arith in rw (e, get_or-append_seam counts count [] 0) (last e)

  module _ (c : Common) (leads : Leading counts c) where
    -- A greater count leads,
    pub greater_leads : c.uses < count → Leading more (record { class = length counts; uses = count })
    greater_leads l = record {
      met = get_or-append_seam counts count [] 0;
      most = λ class. stands_at (λ m. m ≤ count) class (λ i. let b = leads.most class in omega arith) (λ e. omega arith) (λ p. omega arith);
      before = λ class b. rw (get_or-append counts (count ∷ []) 0 class b) (let m = leads.most class in omega arith);
    }

    -- any other leaves what led.
    pub other_stays : count ≤ c.uses → Leading more c
    other_stays l = record {
      met = stands_at (λ m. m ≡ c.uses) c.class (λ i. leads.met) (λ e. let z = past (omega arith) in omega arith) (λ p. sym (past (omega arith)));
      most = λ class. stands_at (λ m. m ≤ c.uses) class (λ i. leads.most class) (λ e. l) (λ p. omega arith);
      before = λ class b. stands_at (λ m. m < c.uses) class (λ i. leads.before class b) (λ e. let z = past_class class (omega arith) b in omega arith) (λ p. let z = past_class class (omega arith) b in omega arith);
    }
      where
        past : length counts ≤ c.class → c.uses ≡ 0
        past p = sym leads.met ∙ get_or-eq_default counts 0 p

        past_class : (class : ℕ) → length counts ≤ class → class < c.class → 0 < 0
        past_class class p b = let z = past (omega arith) in let f = leads.before class b in let d = get_or-eq_default counts 0 p in omega arith
