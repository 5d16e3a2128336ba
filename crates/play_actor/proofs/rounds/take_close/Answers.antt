use Rattle.std.proofs.Common.{sym, refl}
use Rattle.caller.specs.LaterLaws.{later_on}
use Rattle.play_calls.specs.Logs.{calls_in}
use Rattle.play_calls.specs.Made.{MakesCalls}
use Rattle.play_actor.proofs.RoundLaws.{close_takes, close_rests}
use Rattle.play_actor.proofs.rounds.take_close.Goals as goal

pub leave-requires-clause-nodes : goal.leave-requires-clause-nodes
leave-requires-clause-nodes g c = sym c.requires.idle.ready.sized.left

pub closed_node-requires : goal.closed_node-requires
closed_node-requires g c =
    let left = c.in_ok-standby.field-0 in
    close_rests c.args.active (calls_in c.args.caller.now.log.past) (calls_in c.leave.new.peers.log.past) left.standby left.writer left.closed c.requires.serving c.in_ok-standby.ensures.left

pub returns-clause-takes : goal.returns-clause-takes
returns-clause-takes g c =
    let old = c.args.caller.now in
    let mid = c.leave.new.peers in
    let left = c.in_ok-standby.field-0 in
    let made : MakesCalls old.log mid.log = c.in_ok-standby.ensures.called.1 in
    close_takes old.log.nodes c.args.images c.args.active old.log mid.log c.say_all.new.caller.log (calls_in old.log.past) (calls_in mid.log.past)
    left.standby left.writer left.closed c.in_ok-node.node c.in_ok-texts.texts.items c.requires.idle c.requires.serving refl refl
    c.in_ok-standby.ensures.left c.in_ok-texts.ensures.memory made c.in_ok-node.ensures.writer c.in_ok-node.ensures.holding c.in_ok-texts.ensures.texts c.in_ok-say_all.ensures.leads

pub returns-clause-later : goal.returns-clause-later
returns-clause-later g c =
    later_on g.W.WireModel g.met.W.Wire.readies_on _ _ _ c.in_ok-standby.ensures.called.0 c.in_ok-say_all.ensures.later
