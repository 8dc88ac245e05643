-- `ranges::range_of` meets its contract. The loop's invariant: the extremes of the differences so far.
use Rattle.std.specs.Prelude.{ℕ, ◌<◌, ◌≡◌, List, length, get_or, take, ℤ, pos, ◌-ℤ◌}
use Rattle.std.proofs.Common.{sym, ◌∙◌, ap, ap₂, take_all, arith, SFits, of_z, to_z, to_z-of_z}
use Rattle.std.specs.Int.{w32}
use borrow.Author.Rules.{sfits_of}
use Rattle.numbers.specs.Extremes.{least_of, greatest_of}
use Rattle.numbers.specs.Ranges.{lesser, greater}
use Rattle.numbers.proofs.Laws.Extremal.{leasts, greatests}
use Rattle.blocks.specs.Blocks.{first, differences}
use Rattle.blocks.proofs.Laws.Differences.{length_differences}
use Rattle.diagram.specs.Inner.Building.{range_of}
use Rattle.builder.proofs.Laws.Gathering.{extreme_first, extreme_next, difference_fits, value_read}
use Rattle.builder.proofs.ranges.range_of.Goals as goal
use Rattle.builder.proofs.ranges.range_of.Goals.{In-loop-x}

pub loop-x-init : goal.loop-x-init
loop-x-init c =
    let some = c.requires.0 in
    record { some = omega arith; lows = sym (extreme_first leasts c.args.values.now some); highs = sym (extreme_first greatests c.args.values.now some) }

-- The difference that a turn reads.
module _ (c : In-loop-x) where
  abbrev values : List ℤ
  values = c.args.values.now

  abbrev place : ℕ
  place = c.loop-x.x

  within : place < length values
  within = c.loop-x-test.true

  difference : to_z w32 (of_z w32 (get_or values place (pos 0))) -ℤ to_z w32 (of_z w32 (get_or values 0 (pos 0))) ≡ get_or values place (pos 0) -ℤ first values
  unfolding first
  difference = ap₂ ◌-ℤ◌ (value_read values place c.requires.1 within) (value_read values 0 c.requires.1 c.requires.0)

  holds : SFits w32 (get_or values place (pos 0) -ℤ first values)
  holds = difference_fits values place c.requires.1 within

  read : to_z w32 (of_z w32 (to_z w32 (of_z w32 (get_or values place (pos 0))) -ℤ to_z w32 (of_z w32 (get_or values 0 (pos 0))))) ≡ get_or values place (pos 0) -ℤ first values
  read = ap (λ z. to_z w32 (of_z w32 z)) difference ∙ to_z-of_z holds

pub overflow_sub-difference : goal.overflow_sub-difference
overflow_sub-difference c = let d = (goal.at.overflow_sub-difference c).In-loop-x in rw (difference d) (holds d)

pub loop-x-preserved : goal.loop-x-preserved
loop-x-preserved c =
    let d = (goal.at.loop-x-preserved c).In-loop-x in
    let l = d.loop-x in
    let some = l.invariant.some in
    record {
      some = omega arith;
      lows =
          to_z-of_z {w = w32} (sfits_of c.lesser_of-least.type_inv) ∙ c.lesser_of-least.ensures ∙ ap₂ lesser l.invariant.lows (read d)
          ∙ sym (extreme_next leasts (values d) l.x some (within d));
      highs =
          to_z-of_z {w = w32} (sfits_of c.greater_of-greatest.type_inv) ∙ c.greater_of-greatest.ensures ∙ ap₂ greater l.invariant.highs (read d)
          ∙ sym (extreme_next greatests (values d) l.x some (within d));
    }

pub returns : goal.returns
unfolding range_of
returns c =
    let l = c.loop-x in
    let values = c.args.values.now in
    let all : take l.x (differences values) ≡ differences values = take_all l.x (differences values) (rw length_differences c.loop-x-test.false) in
    ap₂ (λ a b. record { least = a; greatest = b }) (l.invariant.lows ∙ ap least_of all) (l.invariant.highs ∙ ap greatest_of all)
