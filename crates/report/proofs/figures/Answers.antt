-- `report::figures` meets its contract. The loop's invariant: the figures of the values up to X, and what its path reaches above the lowest
-- variables.
use Rattle.std.proofs.Common.{ℕ, ◌+◌, ◌^◌, ◌≤◌, ◌<◌, ◌≡◌, sym, ◌∙◌, ap, ap₂, subst, List, arith, pow_mono, ℤ, ◌+ℤ◌, w32, w64, SFits, of_z, to_z, to_z-of_z}
use mir.Facts.{Fits-of_lt}
use borrow.Author.Rules.{sfits_of}
use Rattle.numbers.specs.Extremes.{least_of, greatest_of}
use Rattle.numbers.specs.Lists.{exact_sum}
use Rattle.numbers.specs.Ranges.{lesser, greater}
use Rattle.numbers.proofs.Laws.Extremal.{leasts, greatests}
use Rattle.diagram.specs.Walk.{walk_value}
use Rattle.diagram.specs.Inner.Edges.{descend, Passing, PathReady}
use Rattle.diagram.proofs.Laws.Checks.{variables_range}
use Rattle.diagram.specs.declared.Waypoint.{Waypoint}
use Rattle.report.specs.Report.{values_from, Figures, figures_of, figures_in}
use Rattle.report.proofs.Laws.Answers.{part_order}
use Rattle.report.proofs.Laws.Reports.{values_count, extreme_one, extreme_more, sum_one, sum_more, part_sum_small}
use Rattle.report.specs.Inner.Tops.{lowest_of, top_at}
use Rattle.report.proofs.Laws.Tops.{top_value, top_ready}
use Rattle.report.proofs.figures.Goals as goal
use Rattle.report.proofs.figures.Goals.{After-from-sum-in-loop-x, Start}

-- What is known of the call.
module _ (c : Start) where
  abbrev n : ℕ
  n = c.args.list.now.n

  abbrev o : ℤ
  o = c.args.list.now.offset

  abbrev list : List ℤ
  list = c.args.list.now.records.now

  passing : Passing n o list
  passing = c.args.list.now.passing

  order : (c.args.a ≤ c.args.b) × (c.args.b < 2 ^ n)
  order = part_order n c.args.a c.args.b c.requires

  most : c.args.b < 4096
  most = let p = order.1 in let m = pow_mono {i = n} {j = 12} (variables_range n passing.variables).1 in omega arith

  -- From what is reached at x the value at x is c.
  ready : (top : Waypoint) (x : ℕ) → top ≡ top_at n o list x → PathReady list 0 (lowest_of n) top
  ready top x e = subst (PathReady list 0 (lowest_of n)) (sym e) (top_ready n o list passing x)

  valued : (top : Waypoint) (x : ℕ) → top ≡ top_at n o list x → (descend list 0 (lowest_of n) x top).value ≡ walk_value n o list x
  valued top x e = ap (λ r. (descend list 0 (lowest_of n) x r).value) e ∙ top_value n o list x

-- A value as the machine has it, in 32 and in 64 bits.
module _ (z : ℤ) (h : SFits w32 z) where
  wider : SFits w64 z
  wider = let m = h.sfits in record { sfits = omega arith }

  narrow : to_z w32 (of_z w32 z) ≡ z
  narrow = to_z-of_z h

  wide : (w : ℤ) → w ≡ to_z w32 (of_z w32 z) → to_z w64 (of_z w64 w) ≡ z
  wide w e = ap (λ y. to_z w64 (of_z w64 y)) (e ∙ narrow) ∙ to_z-of_z wider

pub value_below-first-requires : goal.value_below-first-requires
value_below-first-requires c = ready (goal.at.value_below-first-requires c).Start c.top_at-top.result c.args.a c.top_at-top.ensures

pub loop-x-init : goal.loop-x-init
loop-x-init c =
    let s = (goal.at.loop-x-init c).Start in
    let a = s.args in
    let fits : SFits w32 c.value_below-first.result = sfits_of c.value_below-first.type_inv in
    let first : c.value_below-first.result ≡ walk_value (n s) (o s) (list s) a.a = c.value_below-first.ensures ∙ valued s c.top_at-top.result a.a c.top_at-top.ensures in
    record {
      reaches = c.top_at-top.ensures;
      lows = narrow c.value_below-first.result fits ∙ first ∙ sym (extreme_one (n s) (o s) (list s) a.a leasts);
      highs = narrow c.value_below-first.result fits ∙ first ∙ sym (extreme_one (n s) (o s) (list s) a.a greatests);
      sums = wide c.value_below-first.result fits c.from-sum.result c.from-sum.ensures ∙ first ∙ sym (sum_one (n s) (o s) (list s) a.a);
    }

pub next_top-top-requires : goal.next_top-top-requires
next_top-top-requires c =
    let s = (goal.at.next_top-top-requires c).Start in
    (let l = c.loop-x-test.true in let p = (order s).1 in omega arith, c.loop-x.invariant.reaches)

pub value_below-value-requires : goal.value_below-value-requires
value_below-value-requires c = ready (goal.at.value_below-value-requires c).Start c.next_top-top.result (c.loop-x.x + 1) c.next_top-top.ensures

-- One turn: the value c, and the sum with it.
module _ (c : After-from-sum-in-loop-x) where
  abbrev s : Start
  s = (goal.at.overflow_add-sum c).Start

  abbrev x : ℕ
  x = c.loop-x.x

  abbrev value : ℤ
  value = c.value_below-value.result

  fits : SFits w32 value
  fits = sfits_of c.value_below-value.type_inv

  is_value : value ≡ walk_value (n s) (o s) (list s) (x + 1)
  is_value = c.value_below-value.ensures ∙ valued s c.next_top-top.result (x + 1) c.next_top-top.ensures

  is_sum : to_z w64 c.loop-x.sum-bits +ℤ to_z w64 (of_z w64 c.from-sum-in-loop-x.result) ≡ exact_sum (values_from (n s) (o s) (list s) c.args.a (x + 1))
  is_sum = ap₂ (λ s v. s +ℤ v) c.loop-x.invariant.sums (wide value fits c.from-sum-in-loop-x.result c.from-sum-in-loop-x.ensures ∙ is_value) ∙ sym (sum_more (n s) (o s) (list s) c.args.a x c.loop-x.auto.x)

  sum_fits : SFits w64 (exact_sum (values_from (n s) (o s) (list s) c.args.a (x + 1)))
  sum_fits =
      let l = c.loop-x-test.true in
      let m = part_sum_small (n s) (o s) (list s) (passing s) c.args.a (x + 1) (let p = (order s).1 in omega arith) in
      record { sfits = omega arith }

pub overflow_add-sum : goal.overflow_add-sum
overflow_add-sum c = subst (SFits w64) (sym (is_sum c)) (sum_fits c)

pub loop-x-preserved : goal.loop-x-preserved
loop-x-preserved c =
    let s = (goal.at.loop-x-preserved c).Start in
    let a = s.args in
    let i = c.loop-x.invariant in
    record {
      reaches = c.next_top-top.ensures;
      lows =
          to_z-of_z {w = w32} (sfits_of c.lesser_of-least.type_inv)
          ∙ c.lesser_of-least.ensures
          ∙ ap₂ lesser i.lows (narrow (value c) (fits c) ∙ is_value c)
          ∙ sym (extreme_more (n s) (o s) (list s) a.a leasts (x c) c.loop-x.auto.x);
      highs =
          to_z-of_z {w = w32} (sfits_of c.greater_of-greatest.type_inv)
          ∙ c.greater_of-greatest.ensures
          ∙ ap₂ greater i.highs (narrow (value c) (fits c) ∙ is_value c)
          ∙ sym (extreme_more (n s) (o s) (list s) a.a greatests (x c) c.loop-x.auto.x);
      sums = ap (λ z. to_z w64 (of_z w64 z)) (is_sum c) ∙ to_z-of_z {w = w64} (sum_fits c);
    }

pub overflow_sub-result : goal.overflow_sub-result
overflow_sub-result c = (order (goal.at.overflow_sub-result c).Start).0

pub overflow_add-result : goal.overflow_add-result
overflow_add-result c = let m = most (goal.at.overflow_add-result c).Start in Fits-of_lt (omega arith)

pub returns : goal.returns
unfolding figures_in figures_of
returns c =
    let s = (goal.at.returns c).Start in
    let a = s.args in
    let i = c.loop-x.invariant in
    let last : c.loop-x.x ≡ a.b = (let l = c.loop-x-test.false in let w = c.loop-x.auto.x-end (order s).0 in omega arith) in
    let values = ap (values_from (n s) (o s) (list s) a.a) last in
    figures_by
    (let n = values_count (n s) (o s) (list s) a.a a.b in let f = (order s).0 in omega arith)
    (i.lows ∙ ap least_of values) (i.highs ∙ ap greatest_of values) (i.sums ∙ ap exact_sum values)
  where
    figures_by : {k m : ℕ} {l g t u v w : ℤ} → k ≡ m → l ≡ u → g ≡ v → t ≡ w → ◌≡◌ {A = Figures} (record { count = k; least = l; greatest = g; sum = t }) (record { count = m; least = u; greatest = v; sum = w })
    figures_by a b c d i = record { count = a i; least = b i; greatest = c i; sum = d i }
