use Rattle.std.proofs.Common.{◌+◌, ◌∙◌, sym, subst, arith, get_or}
use Rattle.play_threads.proofs.CloseLaws.{at_map}
use Rattle.pipe_serve.specs.Serving.{IsSharedAnswer}
use Rattle.pipe_serve.specs.Sessions.{read_from, written_to}
use Rattle.pipe_serve.specs.Trails.{IsAttended, at_pipes}
use Rattle.pipe_serve.proofs.clients.join_all.Goals as goal

pub returns-in-Ok : goal.returns-in-Ok
returns-in-Ok g c =
    let Fits = IsSharedAnswer g.D.DiskModel.tells g.D.DiskModel.view g.J.Origin.steady in
    let At = at_pipes g.P.Ports.are_of (read_from g.S.Source.left g.S.Source.faults) (written_to g.K.Sink.taken g.K.Sink.faults) in
    let many = c.args.threads.ok.0 in
    let all = c.in-Ok.seats.ok.0 in (
      sym all ∙ c.in-Ok.ensures.len ∙ many,
      λ k d e lt.
          let h = (c.in-Ok.ensures.each k e (omega (arith, lt, many))).1 in
          let s = get_or c.in-Ok.seats.items k e in
          subst (λ b. IsAttended Fits (At (b.caller + 1)) b.seat.table_id b.caller s.seat.table_id s.caller s.seat.me.0.seen)
          (at_map (λ t. t.promise.was.value) c.args.threads.items k h.handle d lt h.handle_is) h.kept,
    )
