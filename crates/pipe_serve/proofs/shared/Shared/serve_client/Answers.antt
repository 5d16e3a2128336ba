use Rattle.pipe_serve.specs.Serving.{IsSharedAnswer}
use Rattle.pipe_serve.specs.Sessions.{read_from, written_to}
use Rattle.pipe_serve.specs.Trails.{at_pipes}
use Rattle.pipe_serve.proofs.SharedLaws.{attended}
use Rattle.pipe_serve.proofs.shared.Shared.serve_client.Goals as goal

pub returns : goal.returns
returns g c =
    attended (IsSharedAnswer g.D.DiskModel.tells g.D.DiskModel.view g.J.Origin.steady)
    (at_pipes g.P.Ports.are_of (read_from g.S.Source.left g.S.Source.faults) (written_to g.K.Sink.taken g.K.Sink.faults) c.args.client)
    c.args.seat.seat.table_id c.into_seat.result.seat.table_id c.args.seat.caller c.into_seat.result.caller
    c.serve_sessions.new.node.faults c.args.seat.seat.me.0.seen c.into_seat.result.seat.me.0.seen c.new-node.result c.serve_sessions.new.node c.requires.fresh c.new-node.ensures c.into_seat.ensures
    c.serve_sessions.ensures
