-- `expansion::spread` meets its contract. The loop's invariant: the blocks from y on are made, the others are as they were.
use Rattle.std.proofs.Common.{◌≡◌, ℕ, ◌+◌, ◌-◌, ◌*◌, ◌/◌, ◌%◌, ◌^◌, ◌≤◌, slice_index_or, length, arith, ◌∙◌}
use Rattle.std.proofs.lemmas.Grind.{common_steps}
use Rattle.numbers.specs.Ranges.{most_variables}
use Rattle.numbers.proofs.Laws.Pieces.{shifted_one}
use Rattle.image.specs.Inner.Evaluation.{word_place, block_word, block_class}
use Rattle.image.proofs.Laws.Spreading.{spread_none, word_here, word_there_lem, value_here, value_small, spread_more, spread_all}
use Rattle.runner.proofs.expansion.spread.Goals as goal
use Rattle.runner.proofs.expansion.spread.Goals.{After-read_signed, After-word_place-word, In-loop-y}

-- A turn of the loop, at the block before those that are made.
module _ (c : In-loop-y) where
  abbrev last : ℕ
  last = c.loop-y.y - 1

  -- The size of a group, as a shift.
  abbrev size : ℕ
  size = (1 * 2 ^ c.args.group) % 18446744073709551616

  is_size : size ≡ 2 ^ c.args.group
  unfolding most_variables
  is_size = shifted_one c.args.group (let f = c.requires.few in omega arith)

  -- Where its word stands.
  abbrev place : ℕ
  place = block_word c.args.words c.args.group c.args.classes.now last

  is_place : word_place c.args.words c.args.group (slice_index_or c.loop-y.classes (last / size) 0) (last % size) ≡ place
  is_place =
      let a = c.args in
      let l = c.loop-y in
      rw is_size (word_here a.image.now a.words a.group a.count a.classes.now a.table.now c.requires l.classes l.table l.y l.invariant c.loop-y-test.true)

  there : place + 7 ≤ length c.args.image.now
  there =
      let a = c.args in
      let l = c.loop-y in
      word_there_lem a.image.now a.words a.group a.count a.classes.now a.table.now c.requires l.classes l.table l.y l.invariant c.loop-y-test.true

pub loop-y-init : goal.loop-y-init
loop-y-init c = spread_none c.args.image.now c.args.words c.args.group c.args.count c.args.classes.now c.args.table.now c.requires

pub word_place-word-requires : goal.word_place-word-requires
unfolding most_variables
word_place-word-requires c =
    let d = (goal.at.word_place-word-requires c).In-loop-y in
    let few = c.requires.few in
    let e = is_place d in
    let t = there d in
    grind (arith, common_steps)

placed : (c : After-word_place-word) → c.word_place-word.result ≡ place (goal.at.overflow_add-word c).In-loop-y
placed c = c.word_place-word.ensures ∙ is_place (goal.at.overflow_add-word c).In-loop-y

room : (c : After-word_place-word) → c.word_place-word.result + 7 ≤ length c.args.image.now
room c = rw (placed c) (there (goal.at.overflow_add-word c).In-loop-y)

pub overflow_add-word : goal.overflow_add-word
overflow_add-word c = let r = room c in grind (arith, common_steps)

pub read_two-class-requires : goal.read_two-class-requires
read_two-class-requires c = let r = room c in omega arith

pub overflow_add-word-in-loop-y : goal.overflow_add-word-in-loop-y
overflow_add-word-in-loop-y c = let r = room (goal.at.overflow_add-word-in-loop-y c).After-word_place-word in grind (arith, common_steps)

pub read_signed-requires : goal.read_signed-requires
read_signed-requires c = let r = room (goal.at.read_signed-requires c).After-word_place-word in omega arith

pub overflow_add-value : goal.overflow_add-value
overflow_add-value c =
    let a = c.args in
    let l = c.loop-y in
    let d = (goal.at.overflow_add-value c).In-loop-y in
    let s = is_size d in
    let p = placed (goal.at.overflow_add-value c).After-word_place-word in
    let v = value_here a.image.now a.words a.group a.count a.classes.now a.table.now c.requires l.classes l.table l.y l.invariant c.loop-y-test.true in
    let m = value_small a.image.now a.words a.group a.count a.classes.now a.table.now c.requires l.classes l.table l.y l.invariant c.loop-y-test.true in
    grind (arith, common_steps)

pub loop-y-preserved : goal.loop-y-preserved
unfolding block_class
loop-y-preserved c =
    let a = c.args in
    let l = c.loop-y in
    let d = (goal.at.loop-y-preserved c).In-loop-y in
    let s = is_size d in
    let p = placed (goal.at.loop-y-preserved c).After-word_place-word in
    let v = value_here a.image.now a.words a.group a.count a.classes.now a.table.now c.requires l.classes l.table l.y l.invariant c.loop-y-test.true in
    let m = value_small a.image.now a.words a.group a.count a.classes.now a.table.now c.requires l.classes l.table l.y l.invariant c.loop-y-test.true in
    let more = spread_more a.image.now a.words a.group a.count a.classes.now a.table.now c.requires l.classes l.table l.y l.invariant c.loop-y-test.true in
    grind (arith, common_steps)

pub returns : goal.returns
returns c =
    let a = c.args in
    let l = c.loop-y in
    let all = spread_all a.image.now a.words a.group a.count a.classes.now a.table.now c.requires l.classes l.table l.y l.invariant (let t = c.loop-y-test.false in omega arith) in
    record { classes_after = all.0; table_after = all.1 }
