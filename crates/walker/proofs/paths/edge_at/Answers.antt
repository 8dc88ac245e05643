-- `paths::edge_at` meets its contract.
use Rattle.std.proofs.Common.{◌/◌, ◌%◌, ◌^◌, ◌≤◌, ◌≡◌, sym, ◌∙◌, ap, ap₂, arith, pos, nat_abs, w32, of_z, to_z-of_z}
use borrow.Author.Rules.{sfits_of}
use borrow.Author.Tests.{eq-eqb, ne_eqb}
use Rattle.numbers.proofs.Laws.Machine.{same_bits}
use Rattle.diagram.specs.Walk.{variable_at, low_at, high_at, weight_at, bit_set}
use Rattle.diagram.specs.Inner.Edges.{Recorded}
use Rattle.diagram.proofs.Laws.Checks.{cast_natural, child_node}
use Rattle.diagram.proofs.Laws.Edges.{edge_none, edge_later, edge_high, edge_low}
use Rattle.walker.proofs.paths.edge_at.Goals as goal
use Rattle.walker.proofs.paths.edge_at.Goals.{After-number_at, Else-k-eq0, Else-number_at-i}

pub returns-then-k-eq0 : goal.returns-then-k-eq0
returns-then-k-eq0 c = let a = c.args in sym (edge_none a.records.now a.i a.k a.x c.if-k-eq0.true)

one : (c : Else-k-eq0) → 1 ≤ c.args.k
one c = let h = c.if-k-eq0.false in omega arith

recorded : (c : Else-k-eq0) → Recorded c.args.records.now c.args.k
recorded c = record { from_one = one c; among = c.requires.1.known }

-- Whether the record has variable i.
module _ (c : After-number_at) where
  is_variable : c.number_at.result ≡ variable_at c.args.records.now c.args.k
  unfolding variable_at
  is_variable = c.number_at.ensures

pub returns-then-number_at-i : goal.returns-then-number_at-i
returns-then-number_at-i c =
    let a = c.args in
    sym (edge_later a.records.now a.i a.k a.x (one (goal.at.returns-then-number_at-i c).Else-k-eq0) (λ e. c.if-number_at-i.true (ap (of_z w32) (is_variable (goal.at.returns-then-number_at-i c).After-number_at ∙ e))))

own : (c : Else-number_at-i) → variable_at c.args.records.now c.args.k ≡ pos c.args.i
unfolding variable_at
own c =
    sym c.number_at.ensures
    ∙ same_bits w32 c.number_at.result (pos c.args.i) (sfits_of c.number_at.type_inv) (record { sfits = omega arith }) c.if-number_at-i.false

pub overflow_cast-result : goal.overflow_cast-result
unfolding high_at
overflow_cast-result c =
    let e = (goal.at.overflow_cast-result c).Else-k-eq0 in
    let a = e.args in
    rw (to_z-of_z {w = w32} (sfits_of c.number_at-then-x-i-eq1-2.type_inv))
    (cast_natural c.number_at-then-x-i-eq1-2.result (sfits_of c.number_at-then-x-i-eq1-2.type_inv)
    (rw c.number_at-then-x-i-eq1-2.ensures (child_node a.records.now a.k (high_at a.records.now a.k) (e.requires.1.high (one e))).0))

pub returns-then-x-i-eq1 : goal.returns-then-x-i-eq1
unfolding high_at weight_at bit_set
returns-then-x-i-eq1 c =
    let e = (goal.at.returns-then-x-i-eq1 c).Else-k-eq0 in
    let a = e.args in
    ap₂ (λ w k. record { weight = w; node = nat_abs k }) (to_z-of_z {w = w32} (sfits_of c.number_at-then-x-i-eq1.type_inv) ∙ c.number_at-then-x-i-eq1.ensures) (to_z-of_z {w = w32} (sfits_of c.number_at-then-x-i-eq1-2.type_inv) ∙ c.number_at-then-x-i-eq1-2.ensures)
    ∙ sym (edge_high a.records.now a.i a.k a.x (one e) (own (goal.at.returns-then-x-i-eq1 c).Else-number_at-i) (eq-eqb (a.x / 2 ^ a.i % 2) 1 c.if-x-i-eq1.true))

pub overflow_cast-result-2 : goal.overflow_cast-result-2
unfolding low_at
overflow_cast-result-2 c =
    let e = (goal.at.overflow_cast-result-2 c).Else-k-eq0 in
    let a = e.args in
    rw (to_z-of_z {w = w32} (sfits_of c.number_at-2.type_inv))
    (cast_natural c.number_at-2.result (sfits_of c.number_at-2.type_inv)
    (rw c.number_at-2.ensures (child_node a.records.now a.k (low_at a.records.now a.k) (e.requires.1.low (one e))).0))

pub returns : goal.returns
unfolding low_at bit_set
returns c =
    let e = (goal.at.returns c).Else-k-eq0 in
    let a = e.args in
    ap (λ k. record { weight = pos 0; node = nat_abs k }) (to_z-of_z {w = w32} (sfits_of c.number_at-2.type_inv) ∙ c.number_at-2.ensures)
    ∙ sym (edge_low a.records.now a.i a.k a.x (one e) (own (goal.at.returns c).Else-number_at-i) (ne_eqb (a.x / 2 ^ a.i % 2) 1 c.if-x-i-eq1.false))
