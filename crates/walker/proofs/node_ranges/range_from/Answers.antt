-- `node_ranges::range_from` meets its contract.
use Rattle.std.proofs.Common.{ℕ, ◌≤◌, ◌<◌, ◌≡◌, sym, ◌∙◌, ap, ap₂, subst, List, arith, ℤ, pos, nat_abs, ◌+ℤ◌, w32, SFits, of_z, to_z, to_z-of_z}
use Rattle.std.specs.Int.Signed.{mag}
use borrow.Author.Rules.{sfits_of}
use Rattle.numbers.specs.Ranges.{lesser, greater}
use Rattle.numbers.proofs.Laws.Bounds.{weight_mag}
use Rattle.numbers.proofs.Laws.Machine.{mag_add}
use Rattle.diagram.specs.Walk.{number_at, low_at, high_at, weight_at}
use Rattle.diagram.specs.Inner.Edges.{range_at, range_by, range_from}
use Rattle.diagram.specs.declared.Range.{Range}
use Rattle.diagram.proofs.Laws.Checks.{child_node, cast_natural}
use Rattle.walker.proofs.node_ranges.range_from.Goals as goal
use Rattle.walker.proofs.node_ranges.range_from.Goals.{After-number_at, After-number_at-2, After-number_at-weight}

-- The children that are read.
low_read : (list : List ℤ) (k : ℕ) (z : ℤ) → z ≡ number_at list k 1 → z ≡ low_at list k
unfolding low_at
low_read list k z e = e

high_read : (list : List ℤ) (k : ℕ) (z : ℤ) → z ≡ number_at list k 2 → z ≡ high_at list k
unfolding high_at
high_read list k z e = e

low_is : (c : After-number_at) → to_z w32 (of_z w32 c.number_at.result) ≡ low_at c.args.records.now c.args.k
low_is c = to_z-of_z {w = w32} (sfits_of c.number_at.type_inv) ∙ low_read c.args.records.now c.args.k c.number_at.result c.number_at.ensures

high_is : (c : After-number_at-2) → to_z w32 (of_z w32 c.number_at-2.result) ≡ high_at c.args.records.now c.args.k
high_is c = to_z-of_z {w = w32} (sfits_of c.number_at-2.type_inv) ∙ high_read c.args.records.now c.args.k c.number_at-2.result c.number_at-2.ensures

pub overflow_cast-number_at : goal.overflow_cast-number_at
overflow_cast-number_at c =
    let a = c.args in
    rw (to_z-of_z {w = w32} (sfits_of c.number_at.type_inv))
    (cast_natural c.number_at.result (sfits_of c.number_at.type_inv) (subst (λ z. z ≡ pos (nat_abs z)) (sym (low_read a.records.now a.k c.number_at.result c.number_at.ensures)) (child_node a.records.now a.k (low_at a.records.now a.k) c.requires.low).0))

pub range_at-low-requires : goal.range_at-low-requires
range_at-low-requires c =
    rw (low_is c) (let l = (child_node c.args.records.now c.args.k (low_at c.args.records.now c.args.k) c.requires.low).1 in let b = c.requires.here.among in omega arith)

pub overflow_cast-number_at-2 : goal.overflow_cast-number_at-2
overflow_cast-number_at-2 c =
    rw (to_z-of_z {w = w32} (sfits_of c.number_at-2.type_inv))
    (cast_natural c.number_at-2.result (sfits_of c.number_at-2.type_inv) (subst (λ z. z ≡ pos (nat_abs z)) (sym (high_read c.args.records.now c.args.k c.number_at-2.result c.number_at-2.ensures)) (child_node c.args.records.now c.args.k (high_at c.args.records.now c.args.k) c.requires.high).0))

pub range_at-high-requires : goal.range_at-high-requires
range_at-high-requires c =
    rw (high_is c) (let l = (child_node c.args.records.now c.args.k (high_at c.args.records.now c.args.k) c.requires.high).1 in let b = c.requires.here.among in omega arith)

-- What was read of the record and its children.
module _ (c : After-number_at-weight) where
  abbrev list : List ℤ
  list = c.args.records.now

  weight_is : c.number_at-weight.result ≡ weight_at list c.args.k
  unfolding weight_at
  weight_is = c.number_at-weight.ensures

  low_range : c.range_at-low.result ≡ range_at list (nat_abs (low_at list c.args.k))
  low_range = c.range_at-low.ensures ∙ ap (λ z. range_at list (nat_abs z)) (to_z-of_z {w = w32} (sfits_of c.number_at.type_inv) ∙ low_read c.args.records.now c.args.k c.number_at.result c.number_at.ensures)

  high_range : c.range_at-high.result ≡ range_at list (nat_abs (high_at list c.args.k))
  high_range = c.range_at-high.ensures ∙ ap (λ z. range_at list (nat_abs z)) (to_z-of_z {w = w32} (sfits_of c.number_at-2.type_inv) ∙ high_read c.args.records.now c.args.k c.number_at-2.result c.number_at-2.ensures)

  weight_small : mag c.number_at-weight.result ≤ 16777215
  weight_small = rw weight_is (weight_mag (weight_at list c.args.k) c.requires.weight)

  -- The sums fit.
  least_fits : SFits w32 (c.number_at-weight.result +ℤ c.range_at-high.result.least)
  least_fits =
      let a = weight_small in
      let b : mag c.range_at-high.result.least ≤ 201326592 = subst (λ (r : Range). mag r.least ≤ 201326592) (sym high_range) c.requires.least_small in
      let m = mag_add c.number_at-weight.result c.range_at-high.result.least in
      record { sfits = omega arith }

  greatest_fits : SFits w32 (c.number_at-weight.result +ℤ c.range_at-high.result.greatest)
  greatest_fits =
      let a = weight_small in
      let b : mag c.range_at-high.result.greatest ≤ 201326592 = subst (λ (r : Range). mag r.greatest ≤ 201326592) (sym high_range) c.requires.greatest_small in
      let m = mag_add c.number_at-weight.result c.range_at-high.result.greatest in
      record { sfits = omega arith }

-- A sum as the machine has it.
sum_lem : (w h : ℤ) → mag w < 2147483648 → mag h < 2147483648 → to_z w32 (of_z w32 w) +ℤ to_z w32 (of_z w32 h) ≡ w +ℤ h
sum_lem w h a b =
    let x : to_z w32 (of_z w32 w) ≡ w = to_z-of_z {w = w32} (sfits_of a) in
    let y : to_z w32 (of_z w32 h) ≡ h = to_z-of_z {w = w32} (sfits_of b) in
    ap₂ (λ m n. m +ℤ n) x y

pub overflow_add-weight : goal.overflow_add-weight
overflow_add-weight c =
    subst (SFits w32) (sym (sum_lem c.number_at-weight.result c.range_at-high.result.least c.number_at-weight.type_inv (omega arith)))
    (least_fits (goal.at.overflow_add-weight c).After-number_at-weight)

pub overflow_add-weight-2 : goal.overflow_add-weight-2
overflow_add-weight-2 c =
    subst (SFits w32) (sym (sum_lem c.number_at-weight.result c.range_at-high.result.greatest c.number_at-weight.type_inv (omega arith)))
    (greatest_fits (goal.at.overflow_add-weight-2 c).After-number_at-weight)

pub returns : goal.returns
unfolding range_from range_by
returns c =
    let n = (goal.at.returns c).After-number_at-weight in
    let low = c.range_at-low.result in
    let high = c.range_at-high.result in
    let w = c.number_at-weight.result in
    let k = c.args.k in
    let least : to_z w32 (of_z w32 c.lesser_of.result) ≡ lesser low.least (w +ℤ high.least)
    = to_z-of_z {w = w32} (sfits_of c.lesser_of.type_inv) ∙ c.lesser_of.ensures
    ∙ ap₂ lesser (to_z-of_z {w = w32} (record { sfits = omega arith })) (ap (λ z. to_z w32 (of_z w32 z)) (sum_lem w high.least c.number_at-weight.type_inv (omega arith)) ∙ to_z-of_z {w = w32} (least_fits n)) in
    let greatest : to_z w32 (of_z w32 c.greater_of.result) ≡ greater low.greatest (w +ℤ high.greatest)
    = to_z-of_z {w = w32} (sfits_of c.greater_of.type_inv) ∙ c.greater_of.ensures
    ∙ ap₂ greater (to_z-of_z {w = w32} (record { sfits = omega arith })) (ap (λ z. to_z w32 (of_z w32 z)) (sum_lem w high.greatest c.number_at-weight.type_inv (omega arith)) ∙ to_z-of_z {w = w32} (greatest_fits n)) in
    ap₂ (λ a b. record { least = a; greatest = b }) least greatest
    ∙ ap (λ w. range_by w low high) (weight_is n)
    ∙ ap₂ (range_by (weight_at (list n) k)) (low_range n) (high_range n)
