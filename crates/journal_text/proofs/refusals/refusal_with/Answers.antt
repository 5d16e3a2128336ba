use Rattle.std.proofs.Common.{sym, arith}
use Rattle.journal_text.proofs.RefusalLaws.{among_next}
use Rattle.journal_text.proofs.refusals.refusal_with.Goals as goal

pub loop-refusal-preserved : goal.loop-refusal-preserved
loop-refusal-preserved c =
    among_next _ c.loop-refusal.refusal-index c.args.number c.args.name.now c.args.field _ _ (omega arith) c.loop-refusal.invariant (sym c.if-is_told.ensures)
