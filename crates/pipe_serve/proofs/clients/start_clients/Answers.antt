use Rattle.std.proofs.Common.{◌≡◌, ◌+◌, ◌∙◌, sym, ap, rules, length}
use Rattle.std.proofs.lemmas.Iterator.Adapters.{YieldsList-from_vec}
use Rattle.std.proofs.lemmas.Iterator.Consumers.{YieldsList-turn}
use Rattle.atomic_table.proofs.Lists.{at_index}
use Rattle.pipe_serve.proofs.clients.start_clients.Goals as goal

pub start_client-requires-clause-own : goal.start_client-requires-clause-own
start_client-requires-clause-own g c κs within =
    let b = c.into_iter-seat-iterator.ensures.into_iter_gives in
    let t = YieldsList-turn (YieldsList-from_vec {s = c.into_iter-seat-iterator.result} c.args.seats.items b.0 (b.1 ∙ c.args.seats.ok.0))
    c.loop-seat.yielded c.loop-seat.seat-iterator c.loop-seat.yielded_by c.next.result c.next.new.self c.in-Some.seat c.in-Some.is c.next.ensures.steps in
    let same : c.args.shared.now.value.gate.table.shared.table_id ≡ c.in_ok-theirs.theirs.value.gate.table.shared.table_id = search rules in
    (c.requires (length c.loop-seat.yielded) c.in-Some.seat (at_index _ _ _ t.0 t.1)).0 ∙ same

pub start_client-requires-clause-fresh : goal.start_client-requires-clause-fresh
start_client-requires-clause-fresh g c κs within =
    let b = c.into_iter-seat-iterator.ensures.into_iter_gives in
    let t = YieldsList-turn (YieldsList-from_vec {s = c.into_iter-seat-iterator.result} c.args.seats.items b.0 (b.1 ∙ c.args.seats.ok.0))
    c.loop-seat.yielded c.loop-seat.seat-iterator c.loop-seat.yielded_by c.next.result c.next.new.self c.in-Some.seat c.in-Some.is c.next.ensures.steps in
    (c.requires (length c.loop-seat.yielded) c.in-Some.seat (at_index _ _ _ t.0 t.1)).2

pub start_client-requires-clause-its : goal.start_client-requires-clause-its
start_client-requires-clause-its g c κs within =
    let b = c.into_iter-seat-iterator.ensures.into_iter_gives in
    let t = YieldsList-turn (YieldsList-from_vec {s = c.into_iter-seat-iterator.result} c.args.seats.items b.0 (b.1 ∙ c.args.seats.ok.0))
    c.loop-seat.yielded c.loop-seat.seat-iterator c.loop-seat.yielded_by c.next.result c.next.new.self c.in-Some.seat c.in-Some.is c.next.ensures.steps in
    ap (λ n. n + 1) (c.loop-seat.invariant.0 ∙ sym (c.requires (length c.loop-seat.yielded) c.in-Some.seat (at_index _ _ _ t.0 t.1)).1)
