use Rattle.pipe_serve.specs.Serving.{IsSharedAnswer}
use Rattle.pipe_serve.specs.Sessions.{read_from, written_to}
use Rattle.pipe_serve.proofs.SharedLaws.{served_at}
use Rattle.pipe_serve.proofs.shared.Shared.serve_once.Goals as goal

pub returns-in-Some : goal.returns-in-Some
returns-in-Some g c =
    served_at (IsSharedAnswer g.D.DiskModel.tells g.D.DiskModel.view g.J.Origin.steady) (g.P.Ports.are_of c.args.client)
    (read_from g.S.Source.left g.S.Source.faults) (written_to g.K.Sink.taken g.K.Sink.faults) c.serve.ensures.0 c.args.node.now c.serve.new.node
    c.in-Some.source c.serve.new.source c.in-Some.sink c.serve.new.sink c.in-Some.ensures c.serve.ensures.1
