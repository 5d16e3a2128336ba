use Rattle.std.proofs.Common.{arith}
use Rattle.journal_text.proofs.WordLaws.{word_next}
use Rattle.journal_text.proofs.request_word.RequestWord.of.Goals as goal

pub loop-word-preserved : goal.loop-word-preserved
loop-word-preserved c = word_next c.loop-word.word-index c.args.text.now c.text.result.now _ _ (omega arith) c.loop-word.invariant c.text.ensures c.if-eq.ensures
