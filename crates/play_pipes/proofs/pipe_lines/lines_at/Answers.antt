use Rattle.std.proofs.Common.{rules, ◌≡◌, ◌∷◌, [], ◌++◌, ◌∙◌, sym, subst, arith, length, length-append, get_or}
use Rattle.std.proofs.lemmas.List.{map-append}
use Rattle.std.proofs.lemmas.Iterator.Adapters.{YieldsList-from_vec}
use Rattle.std.proofs.lemmas.Iterator.Consumers.{YieldsList-turn}
use Rattle.play_threads.specs.Seated.{seat_of}
use Rattle.play_pipes.proofs.PipeWorkLaws.{line_at, line_within}
use Rattle.play_pipes.proofs.pipe_lines.lines_at.Goals as goal

pub bounds-gates-at : goal.bounds-gates-at
bounds-gates-at g c =
    let b = c.into_iter-seat-iterator.ensures.into_iter_gives in
    let t = YieldsList-turn (YieldsList-from_vec {s = c.into_iter-seat-iterator.result} c.args.seats.items b.0 (b.1 ∙ c.args.seats.ok.0))
    c.loop-seat.yielded c.loop-seat.seat-iterator c.loop-seat.yielded_by c.next.result c.next.new.self c.in-Some.seat c.in-Some.is
    c.next.ensures.steps in
    let n = length c.loop-seat.yielded in
    let at = c.loop-seat.invariant.2 in
    let within = line_within (λ x. x.table.shared.table_id) (λ t. seat_of t.seat.table_id t.caller t.seat.me.0.seen) c.args.gates.now c.args.seats.items c.args.caller n c.requires.seated t.0 in
    omega (arith, at, within)

pub new-requires-clause-table : goal.new-requires-clause-table
new-requires-clause-table g c =
    let b = c.into_iter-seat-iterator.ensures.into_iter_gives in
    let t = YieldsList-turn (YieldsList-from_vec {s = c.into_iter-seat-iterator.result} c.args.seats.items b.0 (b.1 ∙ c.args.seats.ok.0))
    c.loop-seat.yielded c.loop-seat.seat-iterator c.loop-seat.yielded_by c.next.result c.next.new.self c.in-Some.seat c.in-Some.is
    c.next.ensures.steps in
    let n = length c.loop-seat.yielded in
    let at = c.loop-seat.invariant.2 in
    (line_at (λ x. x.table.shared.table_id) (λ t. seat_of t.seat.table_id t.caller t.seat.me.0.seen) c.args.gates.now c.args.seats.items c.args.caller n c.requires.seated t.0
    c.in-Some.seat c.index-gates-at.result t.1 (subst (λ k. c.index-gates-at.result ≡ get_or c.args.gates.now k c.index-gates-at.result) at c.index-gates-at.is)).0

pub new-requires-clause-caller : goal.new-requires-clause-caller
new-requires-clause-caller g c =
    let b = c.into_iter-seat-iterator.ensures.into_iter_gives in
    let t = YieldsList-turn (YieldsList-from_vec {s = c.into_iter-seat-iterator.result} c.args.seats.items b.0 (b.1 ∙ c.args.seats.ok.0))
    c.loop-seat.yielded c.loop-seat.seat-iterator c.loop-seat.yielded_by c.next.result c.next.new.self c.in-Some.seat c.in-Some.is
    c.next.ensures.steps in
    let n = length c.loop-seat.yielded in
    let at = c.loop-seat.invariant.2 in
    (line_at (λ x. x.table.shared.table_id) (λ t. seat_of t.seat.table_id t.caller t.seat.me.0.seen) c.args.gates.now c.args.seats.items c.args.caller n c.requires.seated t.0
    c.in-Some.seat c.index-gates-at.result t.1 (subst (λ k. c.index-gates-at.result ≡ get_or c.args.gates.now k c.index-gates-at.result) at c.index-gates-at.is)).1

pub new-requires-clause-first : goal.new-requires-clause-first
new-requires-clause-first g c =
    let b = c.into_iter-seat-iterator.ensures.into_iter_gives in
    let t = YieldsList-turn (YieldsList-from_vec {s = c.into_iter-seat-iterator.result} c.args.seats.items b.0 (b.1 ∙ c.args.seats.ok.0))
    c.loop-seat.yielded c.loop-seat.seat-iterator c.loop-seat.yielded_by c.next.result c.next.new.self c.in-Some.seat c.in-Some.is
    c.next.ensures.steps in
    let n = length c.loop-seat.yielded in
    let at = c.loop-seat.invariant.2 in
    (line_at (λ x. x.table.shared.table_id) (λ t. seat_of t.seat.table_id t.caller t.seat.me.0.seen) c.args.gates.now c.args.seats.items c.args.caller n c.requires.seated t.0
    c.in-Some.seat c.index-gates-at.result t.1 (subst (λ k. c.index-gates-at.result ≡ get_or c.args.gates.now k c.index-gates-at.result) at c.index-gates-at.is)).2

pub loop-seat-preserved : goal.loop-seat-preserved
loop-seat-preserved g c =
    let inv = c.loop-seat.invariant in
    let at = inv.2 in
    let l = length-append c.loop-seat.yielded (c.in-Some.seat ∷ []) in (
      search rules,
      search rules,
      omega (arith, at, l),
      c.in_ok-push.ensures.items ∙ (λ i. inv.3 i ++ c.new.ensures i ∷ [])
          ∙ sym (map-append (λ t. seat_of t.seat.table_id t.caller t.seat.me.0.seen) c.loop-seat.yielded (c.in-Some.seat ∷ [])),
    )
