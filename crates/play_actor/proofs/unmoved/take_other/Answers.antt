use Rattle.std.proofs.Common.{Some}
use Rattle.std.proofs.lemmas.Result.{on_ok_weaker}
use Rattle.caller.specs.LaterLaws.{later_same}
use Rattle.play_model.specs.Actions.{kept_of}
use Rattle.play_actor.proofs.NodeLaws.{free_whole}
use Rattle.play_actor.proofs.LineLaws.{takes_line, others_take}
use Rattle.play_actor.proofs.unmoved.take_other.Goals as goal

pub returns-in-Drop-clause-takes : goal.returns-in-Drop-clause-takes
returns-in-Drop-clause-takes g c =
    let old = c.args.caller.now.log in
    let new = c.take_mark.new.caller.log in
    on_ok_weaker c.take_mark.result
    (λ takes w h idle free. takes_line old.nodes c.args.line.now _ (kept_of w (Some h) old) (kept_of w (Some h) new) c.in-Drop.is (takes w (Some h) idle (free_whole h free)))
    c.take_mark.ensures.takes

pub returns-in-Mute-clause-takes : goal.returns-in-Mute-clause-takes
returns-in-Mute-clause-takes g c =
    let old = c.args.caller.now.log in
    let new = c.take_mark-in-Mute.new.caller.log in
    on_ok_weaker c.take_mark-in-Mute.result
    (λ takes w h idle free. takes_line old.nodes c.args.line.now _ (kept_of w (Some h) old) (kept_of w (Some h) new) c.in-Mute.is (takes w (Some h) idle (free_whole h free)))
    c.take_mark-in-Mute.ensures.takes

pub returns-in-Late-clause-takes : goal.returns-in-Late-clause-takes
returns-in-Late-clause-takes g c =
    let old = c.args.caller.now.log in
    let new = c.take_late.new.caller.log in
    on_ok_weaker c.take_late.result
    (λ takes w h idle free. takes_line old.nodes c.args.line.now _ (kept_of w (Some h) old) (kept_of w (Some h) new) c.in-Late.is (takes w (Some h) idle (free_whole h free)))
    c.take_late.ensures.takes

pub returns-in_default-clause-takes : goal.returns-in_default-clause-takes
returns-in_default-clause-takes g c =
    let log = c.args.caller.now.log in
    λ w h idle free. others_take log.nodes c.args.line.now (kept_of w (Some h) log) c.requires.kind c.in_default.not-Drop c.in_default.not-Mute c.in_default.not-Late

pub returns-in_default-clause-later : goal.returns-in_default-clause-later
returns-in_default-clause-later g c = later_same g.W.WireModel g.met.W.Wire.readies_none c.args.caller.now
