use Rattle.std.proofs.Common.{◌≡◌, drop}
use Rattle.journal_history.specs.Same.{same_bodies}
use Rattle.journal_history.proofs.equality.same_bodies.Given as goal

-- so far the lists are the same
abbrev pub invariant-loop-i : goal.invariant-loop-i
invariant-loop-i l = same_bodies l.a l.b ≡ same_bodies (drop l.i l.a) (drop l.i l.b)
