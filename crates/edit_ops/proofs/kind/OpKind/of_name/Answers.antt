use Rattle.std.proofs.Common.{arith, ◌∙◌}
use Rattle.edit_ops.proofs.NameLaws.{all_named, named_next}
use Rattle.edit_ops.proofs.kind.OpKind.of_name.Goals as goal

pub loop-kind-init : goal.loop-kind-init
loop-kind-init c = all_named c.args.word.now

pub loop-kind-preserved : goal.loop-kind-preserved
loop-kind-preserved c =
    named_next c.loop-kind.kind-index c.args.word.now c.as_bytes.result.now _ (omega arith) c.loop-kind.invariant (c.as_bytes.ensures.value ∙ c.name.ensures) c.if-eq.ensures
