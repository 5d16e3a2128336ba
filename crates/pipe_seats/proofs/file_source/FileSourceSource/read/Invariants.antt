use Rattle.std.proofs.Common.{◌≡◌, length}
use Rattle.std.specs.Io.KnownBytes.{Keeps}
use Rattle.pipe_seats.proofs.file_source.FileSourceSource.read.Given as goal

-- so far no byte was read, and no fault counted
abbrev pub invariant-loop : goal.invariant-loop
invariant-loop g l =
    Keeps (g.F.Read.remaining l.initial.self-inside.file) (g.F.Read.remaining l.self-inside.file) × (l.self-inside.faults ≡ l.initial.self-inside.faults) × (length l.into ≡ length l.initial.into)
