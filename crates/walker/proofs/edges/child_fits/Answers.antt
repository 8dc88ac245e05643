-- `edges::child_fits` meets its contract.
use Rattle.std.proofs.Common.{◌≡◌, ◌-◌, true, sym, ◌∙◌, ap, ap₂, arith, eq-eqb, pos, nat_abs, w32, of_z, to_z-of_z}
use Rattle.std.specs.Int.Signed.{lt_z}
use borrow.Author.Rules.{sfits_of}
use Rattle.numbers.specs.Ranges.{within}
use Rattle.numbers.proofs.Laws.Machine.{same_bits}
use Rattle.diagram.specs.Records.{record_size}
use Rattle.diagram.specs.Walk.{child_fits, variable_at}
use Rattle.diagram.proofs.Laws.Checks.{counted, cast_natural, child_outside, child_terminal, child_record, child_recorded}
use Rattle.walker.proofs.edges.child_fits.Goals as goal
use Rattle.walker.proofs.edges.child_fits.Goals.{After-is_below, Else-child-eq0}

-- What the test of the range says.
tested : (c : After-is_below) → c.is_below.result ≡ within (pos 0) (pos (c.args.k - 1)) c.args.child
tested c = c.is_below.ensures ∙ ap (within (pos 0) (pos (c.args.k - 1))) (to_z-of_z {w = w32} c.ranges.child)

in_range : (c : Else-child-eq0) → within (pos 0) (pos (c.args.k - 1)) c.args.child ≡ true
in_range c = sym (tested (goal.at.overflow_cast-child c).After-is_below) ∙ c.if-is_below.true

not_terminal : (c : Else-child-eq0) → c.args.child ≡ pos 0 → ⊥
not_terminal c e = c.if-child-eq0.false (ap (of_z w32) e)

pub overflow_cast-child : goal.overflow_cast-child
overflow_cast-child c =
    rw (to_z-of_z {w = w32} c.ranges.child) (cast_natural c.args.child c.ranges.child (counted (c.args.k - 1) c.args.child (in_range c)).0)

pub number_at-requires : goal.number_at-requires
unfolding record_size
number_at-requires c =
    (rw (to_z-of_z {w = w32} c.ranges.child) (child_recorded c.args.records.now c.args.k c.args.child c.requires (in_range c) (not_terminal c)), omega arith)

pub returns-then-child-eq0 : goal.returns-then-child-eq0
returns-then-child-eq0 c =
    let a = c.args in
    let e = same_bits w32 a.child (pos 0) c.ranges.child (sfits_of (omega arith)) c.if-child-eq0.true in
    eq-eqb _ _ c.if-child-eq0.true ∙ sym (ap (child_fits a.records.now a.k) e ∙ child_terminal a.records.now a.k)

pub returns-else-child-eq0 : goal.returns-else-child-eq0
unfolding variable_at
returns-else-child-eq0 c =
    let e = (goal.at.returns-else-child-eq0 c).Else-child-eq0 in
    ap₂ lt_z
    (to_z-of_z {w = w32} (sfits_of c.number_at.type_inv) ∙ c.number_at.ensures ∙ ap (λ z. variable_at c.args.records.now (nat_abs z)) (to_z-of_z {w = w32} c.ranges.child))
    (to_z-of_z {w = w32} (sfits_of c.number_at-else-child-eq0.type_inv) ∙ c.number_at-else-child-eq0.ensures)
    ∙ sym (child_record c.args.records.now c.args.k c.args.child (in_range e) (not_terminal e))

pub returns-else-is_below : goal.returns-else-is_below
returns-else-is_below c =
    let told = tested (goal.at.returns-else-is_below c).After-is_below in
    c.if-is_below.false ∙ sym (child_outside c.args.records.now c.args.k c.args.child (sym told ∙ c.if-is_below.false))
