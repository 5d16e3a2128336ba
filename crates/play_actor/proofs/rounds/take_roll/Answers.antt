use Rattle.std.proofs.Common.{sym, refl}
use Rattle.std.proofs.lemmas.Result.{on_ok_weaker}
use Rattle.caller.specs.LaterLaws.{later_on}
use Rattle.play_calls.specs.Logs.{calls_in}
use Rattle.play_calls.specs.Made.{MakesCalls}
use Rattle.play_actor.proofs.NodeLaws.{if_ok_all}
use Rattle.play_actor.proofs.RoundLaws.{roll_takes}
use Rattle.play_actor.proofs.rounds.take_roll.Goals as goal

pub roll-rolled-requires-clause-nodes : goal.roll-rolled-requires-clause-nodes
roll-rolled-requires-clause-nodes g c = sym c.requires.idle.ready.sized.left

pub returns-clause-takes : goal.returns-clause-takes
returns-clause-takes g c =
    let old = c.args.caller.now in
    let mid = c.roll-rolled.new.peers in
    let made : MakesCalls old.log mid.log = (c.roll-rolled.ensures.called c.in_ok-texts.ensures.memory).1 in
    if_ok_all c.end_round.result
    (λ node writer holding said.
    roll_takes old.log.nodes c.args.images c.args.active c.roll-rolled.new.self old.log mid.log c.end_round.new.caller.log
    (calls_in old.log.past) (calls_in mid.log.past) c.roll-rolled.result node c.in_ok-texts.texts.items c.requires.idle c.requires.serving refl
    refl c.roll-rolled.ensures.rolled c.in_ok-texts.ensures.memory made writer holding c.in_ok-texts.ensures.texts said)
    c.end_round.ensures.writer c.end_round.ensures.holding c.end_round.ensures.said

pub returns-clause-later : goal.returns-clause-later
returns-clause-later g c =
    on_ok_weaker c.end_round.result
    (λ h. later_on g.W.WireModel g.met.W.Wire.readies_on _ _ _ (c.roll-rolled.ensures.called c.in_ok-texts.ensures.memory).0 h)
    c.end_round.ensures.later
