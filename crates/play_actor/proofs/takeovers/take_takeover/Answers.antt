use Rattle.std.proofs.Common.{sym, ap, ◌∙◌, subst, refl}
use Rattle.caller.specs.LaterLaws.{later_on}
use Rattle.play_calls.specs.Logs.{calls_in}
use Rattle.writer_core.specs.Views.{WriterView}
use Rattle.writer_calls.specs.Led.{nodes_of}
use Rattle.play_calls.specs.Made.{MakesCalls}
use Rattle.play_standby.specs.Standbys.{StandbyView}
use Rattle.play_standby.specs.EntryAnswers.{IsEntry}
use Rattle.play_actor.proofs.EntryLaws.{takeover_takes, stands_so}
use Rattle.play_actor.proofs.takeovers.take_takeover.Goals as goal

pub enter-entered-requires-clause-some : goal.enter-entered-requires-clause-some
enter-entered-requires-clause-some g c = c.requires.idle.some

pub enter-entered-requires-clause-nodes : goal.enter-entered-requires-clause-nodes
enter-entered-requires-clause-nodes g c = sym c.requires.idle.ready.sized.left ∙ sym (ap nodes_of c.into_parts-writer.ensures.writer)

pub entered_node-requires : goal.entered_node-requires
entered_node-requires g c =
    stands_so c.args.caller.now.log.nodes c.args.images c.into_parts-writer.result.0 c.into_parts-writer.result.1 (calls_in c.args.caller.now.log.past) (calls_in c.enter-entered.new.peers.log.past)
    c.enter-entered.result (c.enter-entered.ensures.entered c.args.images)

pub returns-clause-takes : goal.returns-clause-takes
returns-clause-takes g c =
    let old = c.args.caller.now in
    let mid = c.enter-entered.new.peers in
    let log = old.log in
    let made : MakesCalls log mid.log = (c.enter-entered.ensures.called c.in_ok-texts.ensures.memory).1 in
    let w = c.args.resting.writer in
    let to = c.into_parts-writer.result.1 in
    let entry : IsEntry log.nodes c.args.images w c.args.resting.standby (calls_in old.log.past) (calls_in mid.log.past) c.enter-entered.result =
    subst (λ (x : StandbyView). IsEntry log.nodes c.args.images w x (calls_in old.log.past) (calls_in mid.log.past) c.enter-entered.result) c.into_parts-writer.ensures.standby
    (subst (λ (x : WriterView). IsEntry log.nodes c.args.images x to (calls_in old.log.past) (calls_in mid.log.past) c.enter-entered.result) c.into_parts-writer.ensures.writer
    (c.enter-entered.ensures.entered c.args.images)) in
    takeover_takes log.nodes c.args.images w c.args.resting.standby log mid.log c.say_all.new.caller.log (calls_in old.log.past) (calls_in mid.log.past)
    c.in_ok-node.node c.in_ok-texts.texts.items c.requires.idle refl refl made c.enter-entered.result entry
    c.in_ok-texts.ensures.memory c.in_ok-node.ensures.writer c.in_ok-node.ensures.holding c.in_ok-texts.ensures.texts c.in_ok-say_all.ensures.leads

pub returns-clause-later : goal.returns-clause-later
returns-clause-later g c =
    later_on g.W.WireModel g.met.W.Wire.readies_on _ _ _ (c.enter-entered.ensures.called c.in_ok-texts.ensures.memory).0 c.in_ok-say_all.ensures.later
