use Rattle.std.proofs.Common.{◌≡◌, ◌+◌, ◌∙◌, sym, subst, rules, length}
use Rattle.std.specs.Prelude.{IfSome}
use Rattle.play_threads.specs.Board.{AllAt}
use Rattle.pipe_serve.specs.Serving.{IsSharedAnswer}
use Rattle.pipe_serve.specs.Sessions.{read_from, written_to}
use Rattle.pipe_serve.specs.Trails.{IsAttended, IsSharedFrom, at_pipes}
use Rattle.pipe_serve.proofs.TrailLaws.{closed_out}
use Rattle.pipe_serve.proofs.clients.left_node.Goals as goal

pub close-requires-clause-own : goal.close-requires-clause-own
close-requires-clause-own g c =
    let Fits = IsSharedAnswer g.D.DiskModel.tells g.D.DiskModel.view g.J.Origin.steady in
    let At = at_pipes g.P.Ports.are_of (read_from g.S.Source.left g.S.Source.faults) (written_to g.K.Sink.taken g.K.Sink.faults) in
    let table = c.args.shared.value.gate.table.shared.table_id in
    let same : table ≡ c.into_gate.result.table.shared.table_id = search rules in
    let own = subst (λ o. IfSome o (λ v. AllAt (λ k s. IsAttended Fits (At (k + 1)) table k s.seat.table_id s.caller s.seat.me.0.seen) v.items)) c.in-Some.is c.requires.own in
    λ k s at. (((own k s at).own ∙ same), (own k s at).its)

pub returns-in-Some-into_inner : goal.returns-in-Some-into_inner
returns-in-Some-into_inner g c =
    let Fits = IsSharedAnswer g.D.DiskModel.tells g.D.DiskModel.view g.J.Origin.steady in
    let At = at_pipes g.P.Ports.are_of (read_from g.S.Source.left g.S.Source.faults) (written_to g.K.Sink.taken g.K.Sink.faults) in
    let table = c.args.shared.value.gate.table.shared.table_id in
    let all = subst (λ o. IfSome o (λ v. length v.items ≡ c.args.shared.value.gate.seats)) c.in-Some.is c.requires.all in
    let own = subst (λ o. IfSome o (λ v. AllAt (λ k s. IsAttended Fits (At (k + 1)) table k s.seat.table_id s.caller s.seat.me.0.seen) v.items)) c.in-Some.is c.requires.own in
    let From = IsSharedFrom g.D.DiskModel.tells g.D.DiskModel.is_told g.D.DiskModel.view g.J.Origin.steady At g.J.Origin.first in
    subst (From c.args.shared.value.gate.seats) (sym c.into_node.ensures) (subst (λ k. From k c.close.result) all
    (closed_out g.D.DiskModel.tells g.D.DiskModel.is_told g.D.DiskModel.view g.J.Origin.first g.J.Origin.steady At table (λ s. s.seat.me.0.seen) (λ s. s.seat.me.0.places)
    (λ s. s.seat.table_id) (λ s. s.caller) (λ s. s.at_rest.3) c.in-Some.seats.items c.close.result own c.close.ensures.closed))
