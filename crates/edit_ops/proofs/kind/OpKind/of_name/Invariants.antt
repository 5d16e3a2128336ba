use Rattle.std.proofs.Common.{drop}
use Rattle.edit_ops.proofs.NameLaws.{IsAhead}
use Rattle.edit_ops.proofs.kind.OpKind.of_name.Given as goal

-- a kind with this name is still ahead
abbrev pub invariant-loop-kind : goal.invariant-loop-kind
invariant-loop-kind l = IsAhead (drop l.kind-index l.kind-items) l.word
