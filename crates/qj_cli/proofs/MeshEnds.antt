-- What a mesh that follows a script is to the laws on safety: its actors hold nothing, or it is one
-- of a script with names.
use Rattle.std.proofs.Common.{ℕ, ◌<◌, List, [], ◌∷◌, false, refl, subst, ◌∙◌, ap}
use Rattle.std.proofs.lemmas.Option.{slice_get_within}
use Rattle.journal_history.specs.declared.record.Record.{Record}
use Rattle.mesh.specs.declared.whole.Mesh.{Mesh}
use Rattle.mesh.specs.Agree.{record_of}
use Rattle.ns_tree.specs.declared.end.End.{End}
use Rattle.play_model.specs.Lines.{Line, ArePlayable, actions_of}
use Rattle.play_model.specs.Actor.{Actor, fresh_actor, actor_after, last_of}
use Rattle.play_model.specs.Follows.{actor_with, FollowsLines}
use Rattle.play_model.specs.Safe.{HoldNothing}
use Rattle.play_model.proofs.Holds.{RawActor, raw_settled, raw_goes}
use Rattle.play_model.proofs.Sound.{actions_raw}
use Rattle.play_model.proofs.PlayableActions.{playable_actions}
use Rattle.play_laws.proofs.NamedPlays.{ends_many}

raw_after : (rs : List Record) (a : Actor) → RawActor a → RawActor (actor_after a rs)
unfolding actor_after
raw_after [] a r = r
raw_after (line ∷ rs) a r = raw_after rs _ (raw_goes a line r)

pub meshes_hold_nothing : (nodes : ℕ) (lines : List Line) (m : Mesh) (ends : List End) → ArePlayable false nodes 0 lines → FollowsLines false nodes lines m ends → HoldNothing ends
unfolding fresh_actor
meshes_hold_nothing nodes lines m ends can f c e at =
    let many = ends_many false nodes lines m ends f in
    let follows = f.actors c e (subst (λ n. c < n) many (slice_get_within ends c e at)) at in
    let begun : RawActor (actor_with false nodes (actions_of c lines)) =
    raw_settled (actions_of c lines) (fresh_actor false nodes) (actions_raw (actions_of c lines) (playable_actions false nodes 0 lines can c))
    refl in
    follows.end ∙ ap last_of (raw_after (record_of m c) (actor_with false nodes (actions_of c lines)) begun).holds
