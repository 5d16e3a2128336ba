use Rattle.std.proofs.Common.{◌≡◌, ℕ, ◌<◌, get_or}
use Rattle.writer_core.specs.declared.cause.Cause.{Cause}
use Rattle.writer_core.proofs.writer.sharing.same_causes.Given as goal

abbrev pub invariant-loop-index : goal.invariant-loop-index
invariant-loop-index l = (k : ℕ) (d : Cause) → k < l.index → get_or l.a k d ≡ get_or l.b k d
