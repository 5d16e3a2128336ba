use Rattle.std.proofs.Common.{◌≡◌}
use Rattle.std.specs.Io.KnownBytes.{Keeps}
use Rattle.pipe_seats.proofs.file_sink.FileSinkSink.write.Given as goal

-- so far no byte was taken, and no fault counted
abbrev pub invariant-loop : goal.invariant-loop
invariant-loop g l = Keeps (g.F.Write.contents l.initial.self-inside.file) (g.F.Write.contents l.self-inside.file) × (l.self-inside.faults ≡ l.initial.self-inside.faults)
