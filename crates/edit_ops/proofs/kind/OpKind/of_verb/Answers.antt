use Rattle.std.proofs.Common.{arith, ◌∙◌}
use Rattle.edit_ops.proofs.VerbLaws.{all_ahead, ahead_next}
use Rattle.edit_ops.proofs.kind.OpKind.of_verb.Goals as goal

pub loop-kind-init : goal.loop-kind-init
loop-kind-init c = all_ahead c.args.word.now

pub loop-kind-preserved : goal.loop-kind-preserved
loop-kind-preserved c =
    ahead_next c.loop-kind.kind-index c.args.word.now c.as_bytes.result.now _ (omega arith) c.loop-kind.invariant (c.as_bytes.ensures.value ∙ c.verb.ensures) c.if-eq.ensures
