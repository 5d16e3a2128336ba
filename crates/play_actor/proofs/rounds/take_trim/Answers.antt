use Rattle.std.proofs.Common.{◌≡◌, List, sym, ◌∙◌, subst, refl}
use Rattle.std.proofs.lemmas.Result.{on_ok_weaker}
use Rattle.caller.specs.LaterLaws.{later_on}
use Rattle.play_calls.specs.Logs.{calls_in}
use Rattle.ns_edits.specs.Replay.{Image}
use Rattle.play_calls.specs.Made.{MakesCalls}
use Rattle.play_standby.specs.Standbys.{held}
use Rattle.play_standby.specs.Actives.{is_open}
use Rattle.play_actor.specs.Nodes.{held_after, standing}
use Rattle.play_actor.proofs.NodeLaws.{if_ok_all}
use Rattle.play_actor.proofs.RoundLaws.{trim_takes, trim_noimage}
use Rattle.play_actor.proofs.rounds.take_trim.Goals as goal

pub purge-purging-requires-clause-nodes : goal.purge-purging-requires-clause-nodes
purge-purging-requires-clause-nodes g c = sym c.requires.idle.ready.sized.left

pub returns-in_default-clause-takes : goal.returns-in_default-clause-takes
returns-in_default-clause-takes g c =
    let log = c.args.caller.now.log in
    let a = c.args.active in
    trim_noimage log.nodes c.args.extra c.args.images a log c.say_all.new.caller.log c.serving.result c.in_ok-one_word.field-0.items c.requires.idle c.requires.serving
    (sym c.in_default.is ∙ c.in_ok-min.ensures.least)
    (subst (λ (l : List Image). c.serving.result ≡ record { writer = a.writer; holding = held l (standing a) }) c.min_to_keep.ensures.same c.serving.ensures)
    c.in_ok-one_word.ensures c.in_ok-say_all.ensures.leads

pub returns-clause-takes : goal.returns-clause-takes
returns-clause-takes g c =
    let old = c.args.caller.now in
    let mid = c.purge-purging.new.peers in
    let b = c.purge-purging.new.self in
    let made : MakesCalls old.log mid.log = (c.purge-purging.ensures.called c.in_ok-texts.ensures.memory).1 in
    if_ok_all c.end_round.result
    (λ node writer holding said.
    trim_takes old.log.nodes c.args.extra c.in-Some.min c.args.images c.args.active b old.log mid.log c.end_round.new.caller.log
    (calls_in old.log.past) (calls_in mid.log.past) c.purge-purging.result node c.in_ok-texts.texts.items c.requires.idle c.requires.serving (sym c.in-Some.is ∙ c.in_ok-min.ensures.least)
    refl refl c.purge-purging.ensures.purging c.in_ok-texts.ensures.memory made writer
    (subst (λ (l : List Image). node.holding ≡ held_after (is_open b) l b) c.min_to_keep.ensures.same holding) c.in_ok-texts.ensures.texts said)
    c.end_round.ensures.writer c.end_round.ensures.holding c.end_round.ensures.said

pub returns-clause-later : goal.returns-clause-later
returns-clause-later g c =
    on_ok_weaker c.end_round.result
    (λ h. later_on g.W.WireModel g.met.W.Wire.readies_on _ _ _ (c.purge-purging.ensures.called c.in_ok-texts.ensures.memory).0 h)
    c.end_round.ensures.later
