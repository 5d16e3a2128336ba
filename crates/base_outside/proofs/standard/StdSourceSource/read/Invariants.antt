use Rattle.std.proofs.Common.{◌≡◌, length}
use Rattle.std.specs.Io.KnownBytes.{Keeps}
use Rattle.base_outside.proofs.standard.StdSourceSource.read.Given as goal

-- so far no byte was read, and no fault counted
abbrev pub invariant-loop : goal.invariant-loop
invariant-loop g l =
    Keeps (g.R.Reader.Read.remaining l.initial.self-inside.reader) (g.R.Reader.Read.remaining l.self-inside.reader)
    × (l.self-inside.faults ≡ l.initial.self-inside.faults) × (length l.into ≡ length l.initial.into)
