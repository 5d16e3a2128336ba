use Rattle.std.proofs.Common.{List, sym, ap, subst, ◌∙◌}
use Rattle.std.proofs.lemmas.Result.{IfOk-weaker}
use Rattle.ns_edits.specs.Replay.{Image}
use Rattle.play_names.specs.ImageDisks.{HoldsOn}
use Rattle.play_model.specs.Actor.{last_of, images_of}
use Rattle.play_model.specs.Actions.{ActorView}
use Rattle.play_actor.specs.Kinds.{seen_kind}
use Rattle.play_actor.proofs.LineLaws.{no_last, no_images}
use Rattle.play_actor.proofs.script_actor.ScriptActorActor.into_left.Goals as goal

pub returns-in-Named-clause-last : goal.returns-in-Named-clause-last
returns-in-Named-clause-last c =
    IfOk-weaker c.into_left.result _ _ (λ left is. is ∙ ap (λ (a : ActorView). last_of a.holds) (ap seen_kind (sym c.in-Named.is) ∙ c.self.view_is)) c.into_left.ensures.last

pub returns-in-Named-clause-images : goal.returns-in-Named-clause-images
returns-in-Named-clause-images c =
    IfOk-weaker c.into_left.result _ _
    (λ left is. subst (λ (a : ActorView). HoldsOn left.images (images_of a.holds)) (ap seen_kind (sym c.in-Named.is) ∙ c.self.view_is) is) c.into_left.ensures.images

pub returns-clause-last : goal.returns-clause-last
returns-clause-last c = no_last c.self.inside.kind c.in-Raw.is ∙ ap (λ (a : ActorView). last_of a.holds) c.self.view_is

pub returns-clause-images : goal.returns-clause-images
returns-clause-images c =
    subst (λ (a : ActorView). HoldsOn c.into_disk.result (images_of a.holds)) c.self.view_is
    (subst (λ (images : List Image). HoldsOn c.into_disk.result images) (c.new.ensures ∙ no_images c.self.inside.kind c.in-Raw.is) c.into_disk.ensures)
