use Rattle.compiler.proofs.Laws.Words.{WordsWritten}
use Rattle.compiler.proofs.words.write_words.Given as goal

abbrev pub invariant-loop-k : goal.invariant-loop-k
invariant-loop-k l = WordsWritten l.cuts.n l.cuts.table.now l.h l.group l.k l.initial.tail l.tail
