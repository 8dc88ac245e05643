-- `prices::class_extremes` meets its contract. The loop's invariant: the extremes with the words so far.
use Rattle.std.proofs.Common.{ℕ, suc, ◌+◌, ◌-◌, ◌*◌, ◌^◌, ◌≤◌, ◌<◌, ◌≡◌, sym, ◌∙◌, ap, ap₂, add-mul, le_of_mul-le-mul_right, lt_of_mul-lt-mul_right, arith, length, get_or, pow_pos, pow_mono, ℤ, pos, ◌-ℤ◌, w32, of_z, to_z, SFits, to_z-of_z, rules}
use mir.Facts.{Fits-of_lt}
use borrow.Author.Rules.{sfits_of}
use Rattle.numbers.specs.Ranges.{lesser, greater}
use Rattle.blocks.specs.Rows.{cut_place}
use Rattle.cascade.specs.Inner.Words.{cell_word}
use Rattle.cascade.proofs.Laws.Cells.{variables_most}
use Rattle.cascade.proofs.Laws.Words.{sub_blocks}
use Rattle.planner.specs.Inner.Extremes.{extremes_of}
use Rattle.planner.proofs.Laws.Pricing.{cut_small, height_small, lower_small, first_place, from_inside, weight_inside, weight_at_lem, weight_small, one_of_words, extremes_next, values_most}
use Rattle.planner.proofs.prices.class_extremes.Invariants.{Gathered}
use Rattle.planner.proofs.prices.class_extremes.Goals as goal
use Rattle.planner.proofs.prices.class_extremes.Goals.{After-in_cut, In-loop-place}

pub power-size-requires : goal.power-size-requires
power-size-requires c = height_small c.args.cuts.now c.args.h c.args.g c.requires.class_of_cut.0

pub power-step-requires : goal.power-step-requires
power-step-requires c = lower_small c.args.cuts.now c.args.h c.args.g c.requires.class_of_cut.0

pub in_cut-requires : goal.in_cut-requires
in_cut-requires c = let a = c.args in let r = c.requires.class_of_cut in (cut_small a.cuts.now a.h a.g r.0, first_place a.cuts.now a.h a.g r.0 a.class r.1)

-- Where the class's first block begins, the block's size, and the step from part to part.
module _ (c : After-in_cut) where
  abbrev size : ℕ
  size = c.power-size.result

  abbrev step : ℕ
  step = c.power-step.result

  abbrev start : ℕ
  start = c.in_cut.result * size

  is_start : start ≡ get_or c.args.cuts.now.firsts.now (cut_place c.args.h + c.args.class) 0 * 2 ^ (c.args.cuts.now.n - c.args.h)
  is_start = ap₂ ◌*◌ c.in_cut.ensures c.power-size.ensures

  start_inside : start < length c.args.cuts.now.table.now
  start_inside = rw is_start (from_inside c.args.cuts.now c.args.h c.args.g c.requires.class_of_cut.0 c.args.class 0 c.requires.class_of_cut.1 (pow_pos c.args.g))

  start_small : start < 4096
  start_small = let l = start_inside in let m = values_most c.args.cuts.now c.args.h c.args.g c.requires.class_of_cut.0 in omega arith

  parts : size ≡ 2 ^ c.args.g * step
  parts = c.power-size.ensures ∙ sym (sub_blocks c.args.cuts.now.n c.args.cuts.now.table.now c.args.h c.args.g c.requires.class_of_cut.0) ∙ ap (λ p. 2 ^ c.args.g * p) (sym c.power-step.ensures)

  some : 0 < step
  some = rw c.power-step.ensures (pow_pos (c.args.cuts.now.n - (c.args.h + c.args.g)))

  size_small : size ≤ 4096
  size_small = rw c.power-size.ensures (let f = variables_most c.args.cuts.now.n c.args.cuts.now.table.now c.args.cuts.now.admitted in pow_mono {i = c.args.cuts.now.n - c.args.h} {j = 12} (omega arith))

pub overflow_mul-start : goal.overflow_mul-start
overflow_mul-start c = let l = start_small c in Fits-of_lt (omega arith)

pub overflow_add-end : goal.overflow_add-end
overflow_add-end c = let l = start_small c in let m = size_small c in Fits-of_lt (omega arith)

pub offset_bounds-cuts-start : goal.offset_bounds-cuts-start
offset_bounds-cuts-start c = let l = start_small c in Fits-of_lt (omega arith)

pub bounds-cuts-start : goal.bounds-cuts-start
bounds-cuts-start c = start_inside c

-- In a turn: the word is one of the class's.
module _ (c : In-loop-place) where
  abbrev v : ℕ
  v = c.loop-place.invariant.passed

  below : v < 2 ^ c.args.g
  below = lt_of_mul-lt-mul_right (step (goal.at.offset_bounds-cuts-place c).After-in_cut) (let l = c.loop-place-test.true in let r = c.loop-place.invariant.reached in let p = parts (goal.at.offset_bounds-cuts-place c).After-in_cut in omega arith)

  is_place : c.loop-place.place ≡ get_or c.args.cuts.now.firsts.now (cut_place c.args.h + c.args.class) 0 * 2 ^ (c.args.cuts.now.n - c.args.h) + v * 2 ^ (c.args.cuts.now.n - (c.args.h + c.args.g))
  is_place = c.loop-place.invariant.reached ∙ ap₂ ◌+◌ (is_start (goal.at.offset_bounds-cuts-place c).After-in_cut) (ap (λ p. v * p) c.power-step.ensures)

  place_inside : c.loop-place.place < length c.args.cuts.now.table.now
  place_inside = let e = is_place in let l = weight_inside c.args.cuts.now c.args.h c.args.g c.requires.class_of_cut.0 c.args.class v c.requires.class_of_cut.1 below in omega arith

  place_small : c.loop-place.place < 4096
  place_small = let l = place_inside in let m = values_most c.args.cuts.now c.args.h c.args.g c.requires.class_of_cut.0 in omega arith

pub offset_bounds-cuts-place : goal.offset_bounds-cuts-place
offset_bounds-cuts-place c = let l = place_small c in Fits-of_lt (omega arith)

pub bounds-cuts-place : goal.bounds-cuts-place
bounds-cuts-place c = place_inside c

-- The values that were read, and their difference.
module _ (c : In-loop-place) where
  abbrev weight : ℤ
  weight = (cell_word c.args.cuts.now.n c.args.cuts.now.table.now c.args.h c.args.g (c.args.class * 2 ^ c.args.g + v c)).weight

  difference : SFits w32 (get_or c.args.cuts.now.table.now c.loop-place.place (pos 0)) → SFits w32 (get_or c.args.cuts.now.table.now (start (goal.at.offset_bounds-cuts-place c).After-in_cut) (pos 0)) → to_z w32 (of_z w32 (get_or c.args.cuts.now.table.now c.loop-place.place (pos 0))) -ℤ to_z w32 (of_z w32 (get_or c.args.cuts.now.table.now (start (goal.at.offset_bounds-cuts-place c).After-in_cut) (pos 0))) ≡ weight
  difference here first =
      ap₂ ◌-ℤ◌
      (to_z-of_z {w = w32} here ∙ ap (λ p. get_or c.args.cuts.now.table.now p (pos 0)) (is_place c))
      (to_z-of_z {w = w32} first ∙ ap (λ p. get_or c.args.cuts.now.table.now p (pos 0)) (is_start (goal.at.offset_bounds-cuts-place c).After-in_cut))
      ∙ weight_at_lem c.args.cuts.now c.args.h c.args.g c.requires.class_of_cut.0 c.args.class (v c) c.requires.class_of_cut.1 (below c)

  weight_holds : SFits w32 weight
  weight_holds = weight_small c.args.cuts.now c.args.h c.args.g c.requires.class_of_cut.0 c.args.class (v c) c.requires.class_of_cut.1 (below c)

  -- With one word more, from what the calls answered.
  next : {least greatest : ℤ} → SFits w32 (get_or c.args.cuts.now.table.now c.loop-place.place (pos 0)) → SFits w32 (get_or c.args.cuts.now.table.now (start (goal.at.offset_bounds-cuts-place c).After-in_cut) (pos 0)) → SFits w32 least → SFits w32 greatest
      → (let read = to_z w32 (of_z w32 (to_z w32 (of_z w32 (get_or c.args.cuts.now.table.now c.loop-place.place (pos 0))) -ℤ to_z w32 (of_z w32 (get_or c.args.cuts.now.table.now (start (goal.at.offset_bounds-cuts-place c).After-in_cut) (pos 0))))) in
      (least ≡ lesser (to_z w32 c.loop-place.least-bits) read) × (greatest ≡ greater (to_z w32 c.loop-place.greatest-bits) read))
      → Gathered c.args.cuts.now.n c.args.h c.args.g c.args.class c.args.cuts.now.table.now c.power-step.result (start (goal.at.offset_bounds-cuts-place c).After-in_cut) (c.loop-place.place + c.power-step.result) (to_z w32 (of_z w32 least)) (to_z w32 (of_z w32 greatest))
  next {least} {greatest} here first low high made =
      let k = c.args in
      let e = ap (λ z. to_z w32 (of_z w32 z)) (difference here first) ∙ to_z-of_z {w = w32} weight_holds in
      record {
        passed = v c + 1;
        most = let l = below c in omega arith;
        reached = let r = c.loop-place.invariant.reached in omega (arith, add-mul (v c) 1 c.power-step.result);
        extremes =
            ap₂ (λ x y. record { least = x; greatest = y }) (to_z-of_z {w = w32} low ∙ made.0 ∙ ap (lesser (to_z w32 c.loop-place.least-bits)) e) (to_z-of_z {w = w32} high ∙ made.1 ∙ ap (greater (to_z w32 c.loop-place.greatest-bits)) e)
            ∙ extremes_next k.cuts.now.n k.cuts.now.table.now k.h k.g (k.class * 2 ^ k.g + v c) _ _ c.loop-place.invariant.extremes (one_of_words k.cuts.now k.h k.g c.requires.class_of_cut.0 k.class (v c) c.requires.class_of_cut.1 (below c))
            ∙ ap (extremes_of k.cuts.now.n k.cuts.now.table.now k.h k.g) (let n : suc (k.class * 2 ^ k.g + v c) ≡ k.class * 2 ^ k.g + (v c + 1) = omega arith in n);
      }

pub overflow_sub-weight : goal.overflow_sub-weight
overflow_sub-weight c = let t = (goal.at.overflow_sub-weight c).In-loop-place in rw (difference t (record { sfits = search rules }) (record { sfits = search rules })) (weight_holds t)

-- At the end with all.
all : (c : After-in_cut) (place : ℕ) (low high : ℤ) → let a = c.args in Gathered a.cuts.now.n a.h a.g a.class a.cuts.now.table.now (step c) (start c) place low high → start c + size c ≤ place → record { least = low; greatest = high } ≡ extremes_of a.cuts.now.n a.cuts.now.table.now a.h a.g (a.class * 2 ^ a.g + 2 ^ a.g)
all c place low high s past =
    let a = c.args in
    let enough : 2 ^ a.g ≤ s.passed = le_of_mul-le-mul_right (let r = s.reached in let p = parts c in omega arith) (some c) in
    let whole : s.passed ≡ 2 ^ a.g = let m = s.most in omega arith in
    s.extremes ∙ ap (λ v. extremes_of a.cuts.now.n a.cuts.now.table.now a.h a.g (a.class * 2 ^ a.g + v)) whole

pub loop-place-preserved : goal.loop-place-preserved
loop-place-preserved c =
    next (goal.at.loop-place-preserved c).In-loop-place (record { sfits = search rules }) (record { sfits = search rules }) (sfits_of c.lesser_of-least.type_inv) (sfits_of c.greater_of-greatest.type_inv) (c.lesser_of-least.ensures, c.greater_of-greatest.ensures)

pub returns : goal.returns
returns c = let l = c.loop-place in all (goal.at.returns c).After-in_cut l.place (to_z w32 l.least-bits) (to_z w32 l.greatest-bits) l.invariant (let o = c.loop-place-test.false in omega arith)

pub returns-2 : goal.returns-2
returns-2 c =
    let t = (goal.at.returns-2 c).In-loop-place in
    all (goal.at.returns-2 c).After-in_cut _ _ _ (next t (record { sfits = search rules }) (record { sfits = search rules }) (sfits_of c.lesser_of-least.type_inv) (sfits_of c.greater_of-greatest.type_inv) (c.lesser_of-least.ensures, c.greater_of-greatest.ensures)) (omega arith)
