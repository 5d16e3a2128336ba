use Rattle.std.proofs.Common.{ℕ, List, [], ◌∷◌, codes, ap, ◌∙◌}
use Rattle.ns_edits.specs.Replay.{Image}
use Rattle.play_names.specs.Results.{word}
use Rattle.play_standby.specs.Standbys.{held}
use Rattle.play_model.specs.Lines.{Reloads}
use Rattle.play_actor.specs.Nodes.{NameView, kept_resting}
use Rattle.play_actor.proofs.NodeLaws.{node_takes}
use Rattle.play_actor.proofs.RestingLaws.{reloads_takes}
use Rattle.play_actor.proofs.standby_actions.take_reload.Goals as goal

pub returns-clause-takes : goal.returns-clause-takes
returns-clause-takes g c =
    let log = c.args.caller.now.log in
    let new = c.say_all.new.caller.log in
    let w = c.args.resting.writer in
    let s = c.args.resting.standby in
    let s' = c.load.new.standby in
    node_takes log.nodes Reloads (kept_resting w c.args.images s log) c.resting.result w (held c.args.images s') new
    (ap (λ (x : NameView). x.writer) c.resting.ensures)
    (ap (λ (x : NameView). x.holding) c.resting.ensures ∙ ap (λ (l : List Image). held l s') c.load.ensures.same)
    (reloads_takes log.nodes w c.args.images s s' log new c.in_ok-one_number.field-0.items c.requires.idle c.requires.rests c.in_ok-load.ensures.loaded
    (c.in_ok-one_number.ensures ∙ ap (λ (p : ℕ). word (codes "reload") p ∷ []) c.position-position.ensures.position) c.in_ok-say_all.ensures.leads)
