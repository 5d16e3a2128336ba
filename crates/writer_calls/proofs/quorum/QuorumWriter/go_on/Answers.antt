use Rattle.writer_calls.proofs.Comes.{gives_up}
use Rattle.writer_calls.proofs.quorum.QuorumWriter.go_on.Goals as goal

pub returns-in-Err-clause-came : goal.returns-in-Err-clause-came
returns-in-Err-clause-came g c = λ t old e. gives_up t old c.args.self.now (g.P.Peers.calls c.args.peers.now) c.stop.new.self c.finish.new.self
    (g.P.Peers.calls c.finish.new.peers) c.in-Err.ensures.err.0 e c.in-Err.ensures.err.1 c.stop.ensures
