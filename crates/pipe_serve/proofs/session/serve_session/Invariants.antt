use Rattle.pipe_serve.specs.Sessions.{read_from, written_to}
use Rattle.pipe_serve.proofs.SessionLaws.{Going}
use Rattle.pipe_serve.proofs.session.serve_session.Given as goal

-- each call that was read so far was answered
abbrev pub invariant-loop-answered : goal.invariant-loop-answered
invariant-loop-answered g l =
    Going g.N.SessionNode.asked l._answered l.reader l.fn.node l.node (read_from g.S.Source.left g.S.Source.faults l.fn.source l.source)
    (written_to g.K.Sink.taken g.K.Sink.faults l.fn.sink l.sink)
