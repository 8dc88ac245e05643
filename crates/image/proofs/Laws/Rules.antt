-- The operand rules, as a test and as facts.
use Rattle.std.specs.Prelude.{ℕ, ◌+◌, ◌%◌, ◌^◌, ◌≤◌, ◌<◌, ◌≡◌, true, false, not, ◌&&◌, ◌||◌, ltb, ℤ, pos}
use Rattle.std.proofs.Common.{◌∙◌, arith}
use Rattle.std.proofs.Math.Bool.{and-false, and-true}
use Rattle.std.proofs.Math.Dec.{leb, eqb}
use borrow.Author.Tests.{leb-true, ltb-true, eqb-true, le-leb, lt-ltb, le-ltb, eq-eqb, ltb-false}
use Rattle.numbers.specs.Ranges.{is_weight, eq_z, widest_address}
use Rattle.numbers.specs.Widths.{rail_width}
use Rattle.numbers.proofs.Laws.Bools.{yes_or_no, both}
use Rattle.numbers.proofs.Laws.Integers.{eq_z_true, eq_z_refl}
use Rattle.image.specs.Reader.{keeps_rules, most_classes}
use Rattle.image.specs.WellFormed.{KeepsShape, KeepsWord}
use Rattle.image.specs.declared.Command.TheVariants.{Cell, Word}
use Rattle.image.specs.declared.Place.{Place}

-- ---- a cell

module _ (p : Place) (group incoming outgoing width : ℕ) where
  -- A last cell has one class left.
  last_or : (group ≡ p.left → outgoing ≡ 1) → group ≤ p.left → (ltb group p.left || eqb outgoing 1) ≡ true
  last_or h w =
      yes_or_no (ltb group p.left)
      (λ e. rw e)
      (λ e. rw e (eq-eqb outgoing 1 (h (let l = ltb-false group p.left e in omega arith))))

  -- Where the other rules hold, the address width decides.
  pub shape_decides : 1 ≤ group → group ≤ p.left → incoming ≡ p.classes → 1 ≤ outgoing → outgoing ≤ most_classes → (group ≡ p.left → outgoing ≡ 1) → keeps_rules p (Cell group incoming outgoing width) ≡ leb (rail_width incoming + group) widest_address
  unfolding keeps_rules
  shape_decides some inside joined leaving most last =
      rw (le-leb 1 group some, le-leb group p.left inside, eq-eqb incoming p.classes joined, le-leb 1 outgoing leaving, le-leb outgoing most_classes most, last_or last inside)

  pub shape_test : KeepsShape p.left p.classes group incoming outgoing → keeps_rules p (Cell group incoming outgoing width) ≡ true
  shape_test k =
      shape_decides k.some k.inside k.joined k.leaving k.most k.last
      ∙ le-leb (rail_width incoming + group) widest_address k.address

  pub shape_facts : keeps_rules p (Cell group incoming outgoing width) ≡ true → KeepsShape p.left p.classes group incoming outgoing
  unfolding keeps_rules
  shape_facts h =
      let s6 = both (leb 1 group && leb group p.left && eqb incoming p.classes && leb 1 outgoing && leb outgoing most_classes && (ltb group p.left || eqb outgoing 1)) (leb (rail_width incoming + group) widest_address) h in
      let s5 = both (leb 1 group && leb group p.left && eqb incoming p.classes && leb 1 outgoing && leb outgoing most_classes) (ltb group p.left || eqb outgoing 1) s6.0 in
      let s4 = both (leb 1 group && leb group p.left && eqb incoming p.classes && leb 1 outgoing) (leb outgoing most_classes) s5.0 in
      let s3 = both (leb 1 group && leb group p.left && eqb incoming p.classes) (leb 1 outgoing) s4.0 in
      let s2 = both (leb 1 group && leb group p.left) (eqb incoming p.classes) s3.0 in
      let s1 = both (leb 1 group) (leb group p.left) s2.0 in
      record {
        some = leb-true 1 group s1.0;
        inside = leb-true group p.left s1.1;
        joined = eqb-true incoming p.classes s2.1;
        leaving = leb-true 1 outgoing s3.1;
        most = leb-true outgoing most_classes s4.1;
        last = (λ e. eqb-true outgoing 1 (rw (le-ltb group p.left (omega arith)) at s5.1));
        address = leb-true (rail_width incoming + group) widest_address s6.1;
      }

-- ---- a word

module _ (p : Place) (class : ℕ) (weight : ℤ) where
  abbrev Ground : Type 0
  Ground = p.words % 2 ^ p.group ≡ 0 → weight ≡ pos 0

  ground_or : Ground → (not (eqb (p.words % 2 ^ p.group) 0) || eq_z weight (pos 0)) ≡ true
  ground_or h =
      yes_or_no (eqb (p.words % 2 ^ p.group) 0)
      (λ e. rw e (rw (h (eqb-true (p.words % 2 ^ p.group) 0 e)) (eq_z_refl (pos 0))))
      (λ e. rw e)

  pub word_decides : class < p.classes → Ground → keeps_rules p (Word class weight) ≡ is_weight weight
  unfolding keeps_rules
  word_decides known grounded = rw (lt-ltb class p.classes known, ground_or grounded) (and-true (is_weight weight))

  pub word_ungrounded : p.words % 2 ^ p.group ≡ 0 → (weight ≡ pos 0 → ⊥) → keeps_rules p (Word class weight) ≡ false
  unfolding keeps_rules
  word_ungrounded e h =
      rw (eq-eqb (p.words % 2 ^ p.group) 0 e)
      (yes_or_no (eq_z weight (pos 0))
      (λ z. absurd (h (eq_z_true weight (pos 0) z)))
      (λ z. rw z (and-false (ltb class p.classes && is_weight weight))))

  pub word_test : KeepsWord p.classes (p.words % 2 ^ p.group) (record { class = class; weight = weight }) → keeps_rules p (Word class weight) ≡ true
  word_test k = word_decides k.known k.grounded ∙ k.ranged

  pub word_facts : keeps_rules p (Word class weight) ≡ true → KeepsWord p.classes (p.words % 2 ^ p.group) (record { class = class; weight = weight })
  unfolding keeps_rules
  word_facts h =
      let s2 = both (ltb class p.classes && is_weight weight) (not (eqb (p.words % 2 ^ p.group) 0) || eq_z weight (pos 0)) h in
      let s1 = both (ltb class p.classes) (is_weight weight) s2.0 in
      record {
        known = ltb-true class p.classes s1.0;
        ranged = s1.1;
        grounded = (λ e. eq_z_true weight (pos 0) (rw (eq-eqb (p.words % 2 ^ p.group) 0 e) at s2.1));
      }
