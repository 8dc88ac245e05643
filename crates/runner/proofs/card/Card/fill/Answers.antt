-- `card::Card::fill` meets its contract. The loop's invariant: the rows hold the class and the value of each block of the cut reached.
use Rattle.std.proofs.Common.{◌≡◌, ◌+◌, ◌*◌, ◌%◌, ◌^◌, ◌≤◌, length, arith, sym, ◌∙◌, ap, refl, pos, pow_pos, to_z-of_z, w32}
use Rattle.std.proofs.lemmas.Grind.{common_steps}
use Rattle.std.proofs.lemmas.List.{length-set, get_or-set_same}
use Rattle.numbers.proofs.Laws.Pieces.{shifted_one}
use Rattle.image.specs.Inner.Evaluation.{card_read, group_at, first_word, CellThere, values_to}
use Rattle.image.specs.Reader.{most_classes}
use Rattle.image.proofs.Laws.Evaluating.{variables_read, command_room, group_narrow}
use Rattle.image.proofs.Laws.Spreading.{first_block, cell_there, blocks_fit, blocks_below, blocks_passed, all_values}
use Rattle.runner.proofs.card.Card.fill.Goals as goal
use Rattle.runner.proofs.card.Card.fill.Goals.{After-read_one-group, In-loop-left}

pub loop-left-init : goal.loop-left-init
unfolding most_classes
loop-left-init c =
    let image = c.args.self.now.image.now in
    let some = pow_pos (card_read image).n in
    let full = c.requires in
    let n = c.variables-left.ensures ∙ sym (variables_read image c.args.self.now.accepted) in
    let offset = to_z-of_z {w = w32} (record { sfits = c.read_signed.type_inv }) ∙ c.read_signed.ensures in
    rw (n, offset) (first_block image c.args.self.now.accepted _ _ refl (length-set c.args.table.now 0 _ ∙ full) refl (get_or-set_same c.args.table.now 0 _ (pos 0) (omega arith)))

-- The cell ahead.
module _ (c : In-loop-left) where
  there : CellThere c.args.self.now.image.now c.loop-left.left c.loop-left.at
  there = let l = c.loop-left in cell_there c.args.self.now.image.now l.at l.left l.count l.classes l.table l.invariant c.loop-left-test.true

  room : c.loop-left.at + 7 ≤ length c.args.self.now.image.now
  room = command_room c.args.self.now.image.now c.loop-left.left c.loop-left.at there

pub overflow_add-at : goal.overflow_add-at
overflow_add-at c = let r = room (goal.at.overflow_add-at c).In-loop-left in grind (arith, common_steps)

pub read_one-group-requires : goal.read_one-group-requires
read_one-group-requires c = let r = room (goal.at.read_one-group-requires c).In-loop-left in omega arith

-- Its group, and the size of that as a shift.
module _ (c : After-read_one-group) where
  is_group : c.read_one-group.result ≡ group_at c.args.self.now.image.now c.loop-left.at
  unfolding group_at
  is_group = c.read_one-group.ensures.read

  narrow : c.read_one-group.result ≤ 12
  narrow = group_narrow c.args.self.now.image.now c.loop-left.left c.loop-left.at (there (goal.at.overflow_sub-left c).In-loop-left) c.read_one-group.result is_group

  size : (1 * 2 ^ c.read_one-group.result) % 18446744073709551616 ≡ 2 ^ group_at c.args.self.now.image.now c.loop-left.at
  size = shifted_one c.read_one-group.result (let n = narrow in omega arith) ∙ ap (λ g. 2 ^ g) is_group

pub overflow_sub-left : goal.overflow_sub-left
overflow_sub-left c = let e = is_group c in let inside = (there (goal.at.overflow_sub-left c).In-loop-left).inside in omega arith

pub overflow_shl-count : goal.overflow_shl-count
overflow_shl-count c = let n = narrow c in omega arith

pub overflow_mul-count : goal.overflow_mul-count
unfolding most_classes
overflow_mul-count c =
    let l = c.loop-left in
    let s = size c in
    let room = l.invariant.room in
    let row = l.invariant.row in
    let fit = blocks_fit c.args.self.now.image.now l.at l.left l.count l.classes l.table l.invariant c.loop-left-test.true in
    grind (arith, common_steps)

pub overflow_add-at-in-loop-left : goal.overflow_add-at-in-loop-left
overflow_add-at-in-loop-left c = let r = room (goal.at.overflow_add-at-in-loop-left c).In-loop-left in grind (arith, common_steps)

pub spread-requires : goal.spread-requires
unfolding first_word
spread-requires c =
    let l = c.loop-left in
    let d = (goal.at.spread-requires c).After-read_one-group in
    rw (size d, is_group d) (blocks_below c.args.self.now.image.now l.at l.left l.count l.classes l.table l.invariant c.loop-left-test.true)

pub next_place-at-requires : goal.next_place-at-requires
next_place-at-requires c = (is_group (goal.at.next_place-at-requires c).After-read_one-group, (c.loop-left.left, there (goal.at.next_place-at-requires c).In-loop-left))

pub loop-left-smaller : goal.loop-left-smaller
loop-left-smaller c =
    let e = is_group (goal.at.loop-left-smaller c).After-read_one-group in
    let some = (there (goal.at.loop-left-smaller c).In-loop-left).some in
    let inside = (there (goal.at.loop-left-smaller c).In-loop-left).inside in
    omega arith

pub loop-left-preserved : goal.loop-left-preserved
unfolding first_word
loop-left-preserved c =
    let l = c.loop-left in
    let d = (goal.at.loop-left-preserved c).After-read_one-group in
    let s = size d in
    let g = is_group d in
    let passed = blocks_passed c.args.self.now.image.now l.at l.left l.count l.classes l.table l.invariant c.loop-left-test.true c.spread.new.classes c.spread.new.table (rw (sym s, sym g) c.spread.ensures.classes_after) (rw (sym s, sym g) c.spread.ensures.table_after) in
    rw (s, g, c.next_place-at.ensures) passed

pub returns : goal.returns
returns c =
    let l = c.loop-left in
    let none = c.loop-left-test.false in
    let e = l.invariant.full ∙ sym c.requires in
    all_values c.args.self.now.image.now l.at l.left l.count l.classes l.table l.invariant (omega arith)
    ∙ ap (values_to (card_read c.args.self.now.image.now)) e
