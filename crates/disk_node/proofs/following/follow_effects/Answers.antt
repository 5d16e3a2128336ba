use Rattle.std.proofs.Common.{◌≡◌, ◌+◌, List, ◌∷◌, get_or, drop, refl, subst, ◌∙◌}
use Rattle.std.proofs.lemmas.List.{drop_all, drop_more}
use Rattle.journal_core.specs.Effects.{after_effects}
use Rattle.journal_step.specs.declared.durable_effect.DurableEffect.{DurableEffect}
use Rattle.journal_step.specs.declared.durable_effect.DurableEffect.TheVariants.{Promise}
use Rattle.disk_node.specs.Done.{effects_by}
use Rattle.disk_node.proofs.Followed.{IsFollowed, cached_goes, follow_begins, follow_goes, follow_ends}
use Rattle.disk_node.proofs.following.follow_effects.Goals as goal

pub loop-effect-init : goal.loop-effect-init
loop-effect-init c = record { start = refl; held = λ s rows due held. follow_begins c.args.request.now c.args.recent.now c.args.effects.now s rows due held }

pub loop-effect-preserved : goal.loop-effect-preserved
loop-effect-preserved c =
    let r = c.args.request.now in
    let ds = c.args.effects.now in
    let i = c.loop-effect.effect-index in
    let next : drop i ds ≡ get_or ds i (Promise 0) ∷ drop (i + 1) ds = drop_more ds i (Promise 0) c.loop-effect-test.true in
    record {
      start = c.loop-effect.invariant.start ∙ cached_goes r c.loop-effect.recent.start c.follow.new.recent.start (get_or ds i (Promise 0)) (drop i ds) (drop (i + 1) ds) next c.follow.ensures.start;
      held = λ s rows due held.
          follow_goes r c.loop-effect.recent c.follow.new.recent (get_or ds i (Promise 0)) (drop (i + 1) ds) (after_effects s (effects_by r ds))
          (subst (λ (xs : List DurableEffect). IsFollowed r c.loop-effect.recent xs (after_effects s (effects_by r ds))) next (c.loop-effect.invariant.held s rows due held)) c.follow.ensures.held;
    }

pub returns-clause-held : goal.returns-clause-held
returns-clause-held c = λ s rows due held.
    follow_ends c.args.request.now c.loop-effect.recent (drop c.loop-effect.effect-index c.args.effects.now)
    (after_effects s (effects_by c.args.request.now c.args.effects.now))
    (drop_all c.loop-effect.effect-index c.args.effects.now c.loop-effect-test.false) (c.loop-effect.invariant.held s rows due held)
