-- `words::write_words` meets its contract. The loop's invariant: the words so far stand behind the cell's command.
use Rattle.std.specs.Prelude.{◌+◌, ◌*◌, ◌^◌, ◌≤◌, ◌<◌, ◌≡◌, length}
use Rattle.std.proofs.Common.{◌∙◌, arith, of_z, to_z, to_z-of_z}
use Rattle.std.specs.Int.{w32}
use borrow.Author.Rules.{sfits_of}
use Rattle.image.specs.Commands.{word_command}
use Rattle.cascade.specs.Cascade.{cell_of}
use Rattle.cascade.specs.Inner.Words.{cell_word, WordReady}
use Rattle.compiler.proofs.Laws.Words.{no_words, words_kept, next_word, all_words, words_are, small, word_ready}
use Rattle.compiler.proofs.words.write_words.Goals as goal
use Rattle.compiler.proofs.words.write_words.Goals.{At-loop-k, In-loop-k}

pub word_count-k-end-requires : goal.word_count-k-end-requires
word_count-k-end-requires c = small c.requires.cell_planned c.args.cuts.now.admitted

pub loop-k-init : goal.loop-k-init
loop-k-init c = no_words c.args.cuts.now.n c.args.cuts.now.table.now c.args.h c.args.cell.now.group c.args.tail.now

-- At the loop's test.
module _ (c : At-loop-k) where
  room : 7 + 7 * length (cell_of c.args.cuts.now.n c.args.cuts.now.table.now c.args.h c.args.cell.now.group).words ≤ length c.args.tail.now
  room = rw (words_are c.requires.cell_planned) c.requires.group_in_bounds

  kept : length c.loop-k.tail ≡ length c.args.tail.now
  kept = words_kept c.args.cuts.now.n c.args.cuts.now.table.now c.args.h c.args.cell.now.group c.args.tail.now c.loop-k.invariant room

-- In a turn the word is one of the cell's.
module _ (c : In-loop-k) where
  below : c.loop-k.k < c.args.cell.now.incoming * 2 ^ c.args.cell.now.group
  below = let l = c.loop-k-test.true in let e = c.word_count-k-end.ensures in omega arith

  ready : WordReady c.args.cuts.now.n c.args.h c.args.cell.now.group c.loop-k.k c.args.cuts.now.table.now c.args.cuts.now.firsts.now
  ready = word_ready c.requires.cell_planned c.args.cuts.now.admitted c.args.cuts.now.classed.placed c.loop-k.k below

pub word_class-class-requires : goal.word_class-class-requires
word_class-class-requires c = (ready (goal.at.word_class-class-requires c).In-loop-k, c.args.cuts.now.classed.numbered)

pub word_weight-weight-requires : goal.word_weight-weight-requires
word_weight-weight-requires c = ready (goal.at.word_weight-weight-requires c).In-loop-k

pub write_word-requires : goal.write_word-requires
write_word-requires c =
    let l = below (goal.at.write_word-requires c).In-loop-k in
    let r = room (goal.at.write_word-requires c).At-loop-k in
    let k = kept (goal.at.write_word-requires c).At-loop-k in
    let w = words_are c.requires.cell_planned in
    omega arith

pub loop-k-preserved : goal.loop-k-preserved
unfolding word_command
loop-k-preserved c =
    let i = (goal.at.loop-k-preserved c).In-loop-k in
    let k = i.args.cuts.now in
    let word = cell_word k.n k.table.now i.args.h i.args.cell.now.group i.loop-k.k in
    let class : c.word_class-class.result ≡ word.class = c.word_class-class.ensures in
    let weight : to_z w32 (of_z w32 c.word_weight-weight.result) ≡ word.weight = to_z-of_z {w = w32} (sfits_of c.word_weight-weight.type_inv) ∙ c.word_weight-weight.ensures in
    next_word k.n k.table.now i.args.h i.args.cell.now.group i.args.tail.now i.loop-k.invariant (room (goal.at.loop-k-preserved c).At-loop-k) (rw (words_are i.requires.cell_planned) (below i)) (rw (class, weight) at c.write_word.ensures)

pub returns : goal.returns
returns c =
    let l = (goal.at.returns c).At-loop-k in
    let k = l.args.cuts.now in
    all_words k.n k.table.now l.args.h l.args.cell.now.group l.args.tail.now l.loop-k.invariant (room l)
    (let i = l.loop-k.invariant.inside in let t = c.loop-k-test.false in let e = l.word_count-k-end.ensures in let w = words_are l.requires.cell_planned in omega arith)
