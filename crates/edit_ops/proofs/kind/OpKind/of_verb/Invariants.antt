use Rattle.std.proofs.Common.{drop}
use Rattle.edit_ops.proofs.VerbLaws.{Ahead}
use Rattle.edit_ops.proofs.kind.OpKind.of_verb.Given as goal

-- a kind with this verb is still ahead
abbrev pub invariant-loop-kind : goal.invariant-loop-kind
invariant-loop-kind l = Ahead (drop l.kind-index l.kind-items) l.word
