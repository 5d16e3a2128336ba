use Rattle.std.proofs.Common.{List, sym, ap, ◌∙◌, subst, refl}
use Rattle.std.proofs.lemmas.Result.{on_ok_weaker}
use Rattle.caller.specs.LaterLaws.{later_on}
use Rattle.play_calls.specs.Logs.{calls_in}
use Rattle.edit_ops.specs.Records.{EditView}
use Rattle.writer_calls.specs.Led.{nodes_of}
use Rattle.play_calls.specs.Made.{MakesCalls}
use Rattle.play_names.specs.DueTexts.{dues_of}
use Rattle.play_names.specs.declared.edit_due.EditDue.{EditDue}
use Rattle.play_actor.specs.Rounds.{texts_synced}
use Rattle.play_actor.specs.Submitting.{AreSubmitted}
use Rattle.play_actor.proofs.NodeLaws.{if_ok_all}
use Rattle.play_actor.proofs.EditLaws.{edits_take, synced_fits}
use Rattle.play_actor.proofs.submissions.take_edits.Goals as goal

pub submit_all-requires : goal.submit_all-requires
submit_all-requires g c = c.requires.serving.opened

pub sync-synced-requires : goal.sync-synced-requires
sync-synced-requires g c =
    sym c.requires.idle.ready.sized.left ∙ sym (ap (λ a. nodes_of a.writer) c.in_ok-dues.ensures.rest)

pub synced_texts-requires : goal.synced_texts-requires
synced_texts-requires g c =
    let old = c.args.caller.now in
    let mid = c.sync-synced.new.peers in
    let are = subst (λ (es : List EditView). AreSubmitted c.args.active es c.submit_all.new.active (dues_of c.in_ok-dues.dues.items)) c.as_slice.ensures c.in_ok-dues.ensures in
    synced_fits old.log.nodes c.args.images c.args.active c.submit_all.new.active c.sync-synced.new.self c.args.edits.now (dues_of c.in_ok-dues.dues.items)
    old.log mid.log (calls_in old.log.past) (calls_in mid.log.past) c.sync-synced.result c.requires.idle are refl
    refl (λ some. (c.sync-synced.ensures.called some).1) c.sync-synced.ensures.synced

pub returns-clause-takes : goal.returns-clause-takes
returns-clause-takes g c =
    let old = c.args.caller.now in
    let mid = c.sync-synced.new.peers in
    let made : MakesCalls old.log mid.log = (c.sync-synced.ensures.called c.in_ok-texts.ensures.memory).1 in
    let are = subst (λ (es : List EditView). AreSubmitted c.args.active es c.submit_all.new.active (dues_of c.in_ok-dues.dues.items)) c.as_slice.ensures c.in_ok-dues.ensures in
    if_ok_all c.end_round.result
    (λ node writer holding said.
    edits_take old.log.nodes c.args.images c.args.active c.submit_all.new.active c.sync-synced.new.self c.args.edits.now (dues_of c.in_ok-dues.dues.items)
    old.log mid.log c.end_round.new.caller.log (calls_in old.log.past) (calls_in mid.log.past) c.sync-synced.result node c.in_ok-texts.texts.items
    c.requires.idle c.requires.serving are refl refl made c.sync-synced.ensures.synced c.in_ok-texts.ensures.memory
    writer holding (c.in_ok-texts.ensures.texts ∙ ap (λ (ds : List EditDue). texts_synced (dues_of ds) c.sync-synced.result) c.deref.ensures.value) said)
    c.end_round.ensures.writer c.end_round.ensures.holding c.end_round.ensures.said

pub returns-clause-later : goal.returns-clause-later
returns-clause-later g c =
    on_ok_weaker c.end_round.result
    (λ h. later_on g.W.WireModel g.met.W.Wire.readies_on _ _ _ (c.sync-synced.ensures.called c.in_ok-texts.ensures.memory).0 h)
    c.end_round.ensures.later
