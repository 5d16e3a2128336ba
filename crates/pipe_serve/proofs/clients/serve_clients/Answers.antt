use Rattle.std.proofs.lemmas.Option.{IfSome_then}
use Rattle.pipe_serve.specs.Sessions.{read_from, written_to}
use Rattle.pipe_serve.specs.Trails.{at_pipes}
use Rattle.pipe_serve.proofs.TrailLaws.{shared_leads}
use Rattle.pipe_serve.proofs.clients.serve_clients.Goals as goal

pub returns-in-Ok-clause-node : goal.returns-in-Ok-clause-node
returns-in-Ok-clause-node g c =
    IfSome_then c.in-Ok.served.node c.in-Ok.ensures.shared (λ n h.
    shared_leads g.D.DiskModel.tells g.D.DiskModel.is_told g.D.DiskModel.view (g.D.DiskModel.steady c.args.node.disk)
    (at_pipes g.P.Ports.are_of (read_from g.S.Source.left g.S.Source.faults) (written_to g.K.Sink.taken g.K.Sink.faults)) c.args.clients c.args.node n h)
