-- `sum_tables::reduce` meets its contract. The loop's invariant: the first numbers are reduced, the rest is as it was.
use Rattle.std.proofs.Common.{rules, ◌≡◌, refl, ◌∙◌, ap, map, ◌+◌, ◌≤◌, ◌<◌, get_or, pos, to_z, of_z, w32, arith, pow_pos, pow_mono}
use Rattle.std.proofs.lemmas.Int.{to_z-of_z}
use Rattle.sums.specs.Sums.{remainder_by}
use Rattle.sums.proofs.Laws.Filling.{changed_none, changed_more, changed_all, next_behind}
use Rattle.sums.proofs.sum_tables.reduce.Goals as goal
use Rattle.sums.proofs.sum_tables.reduce.Goals.{After-power-modulus}

-- The modulus, from 1 to 2048.
modulus_range : (c : After-power-modulus) → (0 < c.power-modulus.result) × (c.power-modulus.result ≤ 2048)
modulus_range c =
    let is = c.power-modulus.ensures in
    let some = pow_pos c.args.q in
    let most = pow_mono {i = c.args.q} {j = 11} c.requires in
    (omega arith, omega arith)

pub loop-value-init : goal.loop-value-init
loop-value-init c = changed_none (λ z. pos (remainder_by c.power-modulus.result z)) c.args.table.now 0

pub remainder_of-requires : goal.remainder_of-requires
remainder_of-requires c = modulus_range (goal.at.remainder_of-requires c).After-power-modulus

-- One turn: the number that is read stands as it was.
pub loop-value-preserved : goal.loop-value-preserved
loop-value-preserved c =
    let row = c.args.table.now in
    let l = c.loop-value in
    let modulus = c.power-modulus.result in
    let inside = c.loop-value-test.true in
    let same = next_behind (λ z. pos (remainder_by modulus z)) row 0 l.value-index inside (omega arith) l.invariant refl in
    let law = changed_more (λ z. pos (remainder_by modulus z)) row 0 l.value-index inside (omega arith) l.invariant in
    let out : to_z w32 (of_z w32 c.remainder_of.result) ≡ c.remainder_of.result = search (rules, to_z-of_z) in
    let read : to_z w32 (of_z w32 (get_or l.table l.value-index (pos 0))) ≡ get_or l.table l.value-index (pos 0) = search (rules, to_z-of_z) in
    let place : 0 + l.value-index ≡ l.value-index = omega arith in
    rw (out, c.remainder_of.ensures, read, same) (rw place at law)

pub returns : goal.returns
returns c =
    let row = c.args.table.now in
    let l = c.loop-value in
    changed_all (λ z. pos (remainder_by c.power-modulus.result z)) row 0 l.value-index refl (let m = l.auto in let t = c.loop-value-test.false in omega arith) l.invariant
    ∙ ap (λ m. map (λ z. pos (remainder_by m z)) row) c.power-modulus.ensures
