use Rattle.node_states.proofs.TellingLaws.{tell_more, tell_last}
use Rattle.node_states.proofs.telling.put_turns.Goals as goal

pub loop-index-preserved : goal.loop-index-preserved
loop-index-preserved c =
    tell_more c.args.lists.now.mesh c.args.lists.now.ends c.loop-index.telling.nodes.items c.put_turn.new.telling.nodes.items c.args.turns.now c.loop-index.index _
    c.loop-index.telling.text.items c.put_turn.new.telling.text.items _ c.loop-index.invariant c.loop-index-test.true c.in_ok-put_turn.ensures.text c.in_ok-put_turn.ensures.nodes

pub returns : goal.returns
returns c =
    tell_last c.args.lists.now.mesh c.args.lists.now.ends c.loop-index.telling.nodes.items c.args.turns.now c.loop-index.index c.loop-index.telling.text.items _
    c.loop-index.invariant c.loop-index-test.false
