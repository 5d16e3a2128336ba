use Rattle.std.proofs.Common.{◌+◌, sym, subst}
use Rattle.pipe_serve.specs.Serving.{IsSharedAnswer}
use Rattle.pipe_serve.specs.Sessions.{read_from, written_to}
use Rattle.pipe_serve.specs.Trails.{IsAttended, at_pipes}
use Rattle.pipe_serve.proofs.clients.start_client.Goals as goal

pub spawn_with-requires-clause-keeps : goal.spawn_with-requires-clause-keeps
spawn_with-requires-clause-keeps g c κs within r =
    let Fits = IsSharedAnswer g.D.DiskModel.tells g.D.DiskModel.view g.J.Origin.steady in
    let At = at_pipes g.P.Ports.are_of (read_from g.S.Source.left g.S.Source.faults) (written_to g.K.Sink.taken g.K.Sink.faults) in
    subst (λ s. IsAttended Fits (At (s.caller + 1)) s.seat.table_id s.caller r.seat.table_id r.caller r.seat.me.0.seen) (sym c.of.ensures)
