use Rattle.pipe_serve.specs.Serving.{IsSharedAnswer}
use Rattle.pipe_serve.specs.Sessions.{read_from, written_to}
use Rattle.pipe_serve.specs.Trails.{AreServed, IsSeatAnswer, at_pipes}
use Rattle.pipe_serve.proofs.shared.Shared.serve_sessions.Given as goal

-- so far it went through sessions alone
abbrev pub invariant-loop : goal.invariant-loop
invariant-loop g l = AreServed (IsSeatAnswer (IsSharedAnswer g.D.DiskModel.tells g.D.DiskModel.view g.J.Origin.steady))
    (at_pipes g.P.Ports.are_of (read_from g.S.Source.left g.S.Source.faults) (written_to g.K.Sink.taken g.K.Sink.faults) l.fn.client) l.initial.node l.node
