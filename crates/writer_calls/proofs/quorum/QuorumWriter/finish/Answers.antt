use Rattle.std.proofs.Common.{◌∙◌}
use Rattle.writer_calls.proofs.Going.{goes_told}
use Rattle.writer_calls.proofs.quorum.QuorumWriter.finish.Goals as goal

pub loop-turn-preserved : goal.loop-turn-preserved
loop-turn-preserved g c =
    let i = c.loop-turn.invariant in
    let p = g.met.P.Peers in
    let told = p.called_on c.args.peers.now c.loop-turn.peers c.tell_ahead.new.peers i.2 c.in_ok-tell_ahead.ensures.called in (
      goes_told c.args.self.now (g.P.Peers.calls c.args.peers.now) (g.P.Peers.calls c.loop-turn.peers) (g.P.Peers.calls c.tell_ahead.new.peers)
          (g.P.Peers.calls c.call_next.new.peers) c.loop-turn.turn c.loop-turn.self c.tell_ahead.new.self c.call_next.new.self c.in_ok-turn.turn
          i.0 c.tell_ahead.ensures.same c.tell_ahead.ensures.unlisted
          c.in_ok-turn.ensures.one c.in_ok-turn.ensures.turn c.in_ok-turn.ensures.aim c.call_next.ensures.nodes,
      c.call_next.ensures.peers ∙ c.tell_ahead.ensures.peers ∙ i.1,
      p.called_on c.args.peers.now c.tell_ahead.new.peers c.call_next.new.peers told c.in_ok-turn.ensures.called,
    )
