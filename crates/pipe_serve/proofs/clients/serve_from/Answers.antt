use Rattle.std.proofs.Common.{◌≡◌, ◌∙◌, sym, ap, subst, rules, arith, length, map}
use Rattle.std.proofs.lemmas.List.{length-map}
use Rattle.std.proofs.lemmas.Option.{IfSome_then}
use lib.ListN.{get_elem?}
use mathlib.Core.Option.{some}
use Rattle.pipe_serve.specs.Serving.{IsSharedAnswer}
use Rattle.pipe_serve.specs.Sessions.{read_from, written_to}
use Rattle.pipe_serve.specs.Trails.{at_pipes}
use Rattle.pipe_serve.proofs.TrailLaws.{attended_all}
use Rattle.pipe_serve.proofs.clients.serve_from.Goals as goal

pub start_clients-requires-after_bounds : goal.start_clients-requires-after_bounds
start_clients-requires-after_bounds g c κs within k s at =
    let same : c.in_ok-gate.gate.table.shared.table_id ≡ c.in_ok-shared.shared.value.gate.table.shared.table_id = search rules in
    let here = c.in_ok-gate.ensures.each k s at in
    (here.0 ∙ same, here.1, here.2)

pub left_node-requires-clause-all : goal.left_node-requires-clause-all
left_node-requires-clause-all g c =
    let same : c.in_ok-gate.gate.seats ≡ c.in_ok-shared.shared.value.gate.seats = search rules in
    let count = c.in_ok-gate.ensures.count in
    let many = sym (length-map c.in_ok-threads.threads.items (λ t. t.promise.was.value)) ∙ ap (λ l. length l) c.in_ok-threads.ensures in
    IfSome_then c.join_all-seats.result c.join_all-seats.ensures (λ v h. h.0 ∙ many ∙ count.1 ∙ sym count.0 ∙ same)

pub left_node-requires-clause-own : goal.left_node-requires-clause-own
left_node-requires-clause-own g c =
    let same : c.in_ok-gate.gate.table.shared.table_id ≡ c.in_ok-shared.shared.value.gate.table.shared.table_id = search rules in
    let n = length-map c.in_ok-threads.threads.items (λ t. t.promise.was.value) in
    IfSome_then c.join_all-seats.result c.join_all-seats.ensures (λ v h.
    attended_all (IsSharedAnswer g.D.DiskModel.tells g.D.DiskModel.view g.J.Origin.steady)
    (at_pipes g.P.Ports.are_of (read_from g.S.Source.left g.S.Source.faults) (written_to g.K.Sink.taken g.K.Sink.faults)) c.in_ok-shared.shared.value.gate.table.shared.table_id
    (λ s. s.seat.table_id) (λ s. s.caller) (λ s. s.seat.me.0.seen) (map (λ t. t.promise.was.value) c.in_ok-threads.threads.items) v.items
    (λ k s at. let here = c.in_ok-gate.ensures.each k s (subst (λ l. get_elem? l k ≡ some s) c.in_ok-threads.ensures at) in (here.0 ∙ same, here.1))
    (h.0 ∙ sym n) (λ k d e lt. h.1 k d e (omega (arith, lt, n))))
