use Rattle.std.proofs.Common.{ℕ, ◌≤◌, ◌+◌, ◌-◌, List, ◌++◌, length, refl, ap, ◌∙◌, arith}
use Rattle.std.proofs.lemmas.Result.{err_from_is_err_and}
use Rattle.writer_calls.specs.Fetching.{read_cause}
use Rattle.writer_calls.proofs.Heard.{nothing_fetched, more_fetched, has_stopped, has_whole, calls_added, call_added, edits_begin, next_after}
use Rattle.writer_calls.proofs.fetching.fetch.Goals as goal

pub loop-from-init : goal.loop-from-init
loop-from-init g c = record {
  fetched = nothing_fetched c.args.node c.args.start (g.P.Peers.calls c.args.peers.now) c.new-bodies.result c.new-bodies.ensures;
  next = omega (arith, ap length c.new-bodies.ensures);
  small = λ some. absurd (omega (arith, some, ap length c.new-bodies.ensures));
  nodes = refl;
  called = g.met.P.Peers.called_none c.args.peers.now;
}

pub ask-requires-clause-last : goal.ask-requires-clause-last
ask-requires-clause-last g c = let i = c.loop-from.invariant in omega (arith, i.nodes, c.requires.last)

pub returns-in_err-ask-clause-fetched : goal.returns-in_err-ask-clause-fetched
returns-in_err-ask-clause-fetched g c =
    let p = err_from_is_err_and c.from_residual.result c.from_residual.ensures.1 in
    rw p.1 (calls_added c.args.node c.args.start (g.P.Peers.calls c.args.peers.now) (g.P.Peers.calls c.loop-from.peers) (g.P.Peers.calls c.ask.new.peers)
    c.loop-from.bodies c.loop-from.invariant.fetched c.in_err-ask.ensures.listed)

pub returns-in_err-ask-clause-nodes : goal.returns-in_err-ask-clause-nodes
returns-in_err-ask-clause-nodes g c = c.in_err-ask.ensures.nodes ∙ c.loop-from.invariant.nodes

pub loop-from-preserved : goal.loop-from-preserved
loop-from-preserved g c =
    let i = c.loop-from.invariant in
    let begins = edits_begin c.loop-from.from c.in_ok-ask.field-0 c.in-Ok.batch c.in-Ok.ensures c.in_ok-ask.ensures.fits in
    let spelled = c.in_ok-append-in-Ok.ensures.ok ∙ ap (λ (bs : List (List ℕ)). c.loop-from.bodies ++ bs) c.into_bodies.ensures.bodies in
    record {
      fetched = more_fetched c.args.node c.args.start c.loop-from.from (g.P.Peers.calls c.args.peers.now) (g.P.Peers.calls c.loop-from.peers) (g.P.Peers.calls c.ask.new.peers)
          c.loop-from.bodies c.append.new.self c.in_ok-ask.field-0 c.in-Ok.batch i.fetched i.next c.in_ok-ask.ensures.listed c.in-Ok.ensures begins.first spelled;
      next = next_after c.args.start c.loop-from.from c.last-from.result c.loop-from.bodies c.append.new.self c.in-Ok.batch i.next begins.first c.last-from.ensures
          (λ e. c.into_bodies.ensures.some (c.into_bodies.ensures.bodies ∙ e)) spelled;
      small = λ some. omega (arith, c.last-from.ensures, begins.last);
      nodes = c.in_ok-ask.ensures.nodes ∙ i.nodes;
      called = g.met.P.Peers.called_on c.args.peers.now c.loop-from.peers c.ask.new.peers i.called c.in_ok-ask.ensures.called;
    }

pub returns-in_err-append-in-Ok-clause-fetched : goal.returns-in_err-append-in-Ok-clause-fetched
returns-in_err-append-in-Ok-clause-fetched g c =
    let p = err_from_is_err_and c.from_residual-in_err-append-in-Ok.result c.from_residual-in_err-append-in-Ok.ensures.1 in
    rw p.1 (call_added c.args.node c.args.start c.loop-from.from (g.P.Peers.calls c.args.peers.now) (g.P.Peers.calls c.loop-from.peers) (g.P.Peers.calls c.ask.new.peers)
    c.loop-from.bodies c.in_ok-ask.field-0 c.loop-from.invariant.fetched c.in_ok-ask.ensures.listed)

pub returns-in_err-append-in-Ok-clause-nodes : goal.returns-in_err-append-in-Ok-clause-nodes
returns-in_err-append-in-Ok-clause-nodes g c = c.in_ok-ask.ensures.nodes ∙ c.loop-from.invariant.nodes

pub returns-in-Err-clause-fetched : goal.returns-in-Err-clause-fetched
returns-in-Err-clause-fetched g c =
    let i = c.loop-from.invariant in
    let other = c.in-Err.ensures in
    has_stopped c.args.node c.args.start c.args.end c.loop-from.from (g.P.Peers.calls c.args.peers.now) (g.P.Peers.calls c.loop-from.peers) (g.P.Peers.calls c.ask.new.peers)
    c.loop-from.bodies c.in_ok-ask.field-0 c.read_cause.result
    i.fetched (omega (arith, i.next)) c.loop-from-test.true c.in_ok-ask.ensures.listed other.1 (c.read_cause.ensures ∙ ap read_cause other.0)

pub returns-in-Err-clause-nodes : goal.returns-in-Err-clause-nodes
returns-in-Err-clause-nodes g c = c.in_ok-ask.ensures.nodes ∙ c.loop-from.invariant.nodes

pub returns-in-Err-clause-called : goal.returns-in-Err-clause-called
returns-in-Err-clause-called g c = g.met.P.Peers.called_on c.args.peers.now c.loop-from.peers c.ask.new.peers c.loop-from.invariant.called c.in_ok-ask.ensures.called

pub returns-clause-fetched : goal.returns-clause-fetched
returns-clause-fetched g c =
    let i = c.loop-from.invariant in
    let line : c.args.start ≤ c.args.end = c.requires.line in
    has_whole c.args.node c.args.start c.args.end (c.args.end - c.args.start + 1) c.loop-from.from (g.P.Peers.calls c.args.peers.now) (g.P.Peers.calls c.loop-from.peers)
    c.loop-from.bodies c.truncate.new.self c.truncate.ensures (omega (arith, line)) line i.fetched i.next c.loop-from-test.false i.small

pub returns-clause-nodes : goal.returns-clause-nodes
returns-clause-nodes g c = c.loop-from.invariant.nodes
