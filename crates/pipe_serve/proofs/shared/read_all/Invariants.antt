use Rattle.pipe_serve.specs.Sessions.{read_from}
use Rattle.pipe_serve.proofs.InputLaws.{IsReading}
use Rattle.pipe_serve.proofs.shared.read_all.Given as goal

-- so far nothing failed
abbrev pub invariant-loop : goal.invariant-loop
invariant-loop g l = IsReading (read_from g.I.Source.left g.I.Source.faults l.fn.input l.input)
