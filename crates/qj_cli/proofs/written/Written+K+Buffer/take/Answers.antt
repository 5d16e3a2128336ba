use Rattle.qj_cli.specs.Written.{at}
use Rattle.qj_cli.proofs.WriteLaws.{swallows}
use Rattle.qj_cli.proofs.written.Written+K+Buffer.take.Goals as goal

pub returns-then-self-clause-gives : goal.returns-then-self-clause-gives
returns-then-self-clause-gives g c = swallows (at g.K.Sink.taken g.K.Sink.faults c.args.self.now.sink.now c.args.self.now.buffer c.args.self.now.failed) c.args.piece.now c.if-self.true
