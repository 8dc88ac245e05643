-- `words::word_class` meets its contract.
use Prim.Native.Nat.{◌+◌}
use mathlib.Core.Path.{◌∙◌, ap₂}
use lib.ListN.{get_or}
use Rattle.blocks.specs.Rows.{cut_place}
use Rattle.cascade.proofs.Laws.WordReading.{block_ready, end_small, class_read, class_place}
use Rattle.cascade.proofs.words.word_class.Goals as goal

pub word_block-requires : goal.word_block-requires
word_block-requires c = block_ready c.requires.0

pub in_cut-requires : goal.in_cut-requires
in_cut-requires c =
    (end_small c.requires.0, rw (c.word_block.ensures, c.requires.1) (class_place c.requires.0))

pub returns : goal.returns
returns c =
    c.in_cut.ensures
    ∙ ap₂ (λ row j. get_or row (cut_place (c.args.h + c.args.g) + j) 0) c.requires.1 c.word_block.ensures
    ∙ class_read c.requires.0
