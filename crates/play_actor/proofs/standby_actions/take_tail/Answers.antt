use Rattle.std.proofs.Common.{None, refl}
use Rattle.caller.specs.LaterLaws.{later_on}
use Rattle.play_calls.specs.Logs.{calls_in}
use Rattle.play_calls.specs.Made.{MakesCalls}
use Rattle.play_names.specs.Tails.{pass_begun}
use Rattle.play_standby.specs.Standbys.{held}
use Rattle.play_standby.specs.Tailing.{TailEnds}
use Rattle.play_model.specs.Lines.{DoTail}
use Rattle.play_actor.specs.Nodes.{kept_resting, is_bad_entry, broken_if}
use Rattle.play_actor.proofs.TailAlong.{TailGoes, tail_goes, tailed_ends}
use Rattle.play_actor.proofs.NodeLaws.{node_takes}
use Rattle.play_actor.proofs.RestingLaws.{tail_takes}
use Rattle.play_actor.proofs.standby_actions.take_tail.Goals as goal

pub tail-tailed-requires-clause-some : goal.tail-tailed-requires-clause-some
tail-tailed-requires-clause-some g c = c.requires.idle.some

pub returns-clause-takes : goal.returns-clause-takes
returns-clause-takes g c =
    let old = c.args.caller.now in
    let mid = c.tail-tailed.new.peers in
    let log = old.log in
    let w = c.args.resting.writer in
    let s = c.args.resting.standby in
    let s' = c.tail-tailed.new.self in
    let t = c.tail-tailed.result in
    let images = c.args.images in
    let some = c.in_ok-tailed_texts.ensures.memory in
    let made : MakesCalls log mid.log = (c.tail-tailed.ensures.called some).1 in
    let ends : TailEnds log.nodes (pass_begun None (held images s)) images (calls_in old.log.past) (calls_in mid.log.past) s' t =
    tailed_ends log.nodes (pass_begun None (held images s)) images (calls_in old.log.past) (calls_in mid.log.past) s' t some (c.tail-tailed.ensures.tailed images) in
    let goes : TailGoes log.nodes None (held images s) log images s' mid.log t =
    tail_goes log.nodes None (held images s) images log mid.log (calls_in old.log.past) (calls_in mid.log.past) s' t made refl refl ends in
    node_takes log.nodes DoTail (kept_resting w images s log) c.tailed_node.result w (broken_if (is_bad_entry t) (held images s')) c.say_all.new.caller.log
    c.tailed_node.ensures.writer c.tailed_node.ensures.holding
    (tail_takes log.nodes w images s s' log mid.log c.say_all.new.caller.log t c.in_ok-tailed_texts.field-0.items c.requires.idle c.requires.rests goes
    c.in_ok-tailed_texts.ensures.texts c.in_ok-say_all.ensures.leads)

pub returns-clause-later : goal.returns-clause-later
returns-clause-later g c =
    later_on g.W.WireModel g.met.W.Wire.readies_on _ _ _ (c.tail-tailed.ensures.called c.in_ok-tailed_texts.ensures.memory).0 c.in_ok-say_all.ensures.later
