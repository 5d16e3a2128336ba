use Rattle.std.proofs.Common.{◌∙◌, ◌++◌, [], append_assoc, refl}
use Rattle.journal_step.specs.Decisions.{listed}
use Rattle.disk_effects.specs.Told.{state_with}
use Rattle.disk_effects.proofs.DueLaws.{table_told, refused_has_none, few_effects, few_due, purge_effects, purge_due, refusal_planned, effects_planned, due_planned, known_planned, removed}
use Rattle.disk_effects.proofs.planning.plan_request.Goals as goal

pub returns-in_ok-effects-in-Refused-clause-refusal : goal.returns-in_ok-effects-in-Refused-clause-refusal
returns-in_ok-effects-in-Refused-clause-refusal c = λ gs t.
    refusal_planned c.args.memory.now c.step_after_front-front.result c.args.request.now gs c.step_after_front-front.ensures _ (c.in-Refused.ensures gs (table_told gs c.args.table.now t))

pub returns-in_ok-effects-in-Refused-clause-effects : goal.returns-in_ok-effects-in-Refused-clause-effects
returns-in_ok-effects-in-Refused-clause-effects c = λ gs t.
    let front = c.step_after_front-front.result in
    effects_planned c.args.memory.now front c.args.request.now gs c.step_after_front-front.ensures c.front_effect-promise.result [] _ c.requires.at_once c.front_effect-promise.ensures
    (refused_has_none (state_with front gs) c.args.request.now c.in-Refused.refusal (c.in-Refused.ensures gs (table_told gs c.args.table.now t)))
    (c.in_ok-effects-in-Refused.ensures.effects ∙ append_assoc (listed c.front_effect-promise.result) [] [])

pub returns-in_ok-effects-in-Refused-clause-due : goal.returns-in_ok-effects-in-Refused-clause-due
returns-in_ok-effects-in-Refused-clause-due c = λ gs t.
    due_planned c.args.memory.now c.step_after_front-front.result c.args.request.now gs c.step_after_front-front.ensures c.args.table.now
    c.front_effect-promise.result [] _ c.requires.limits c.front_effect-promise.ensures tt
    (c.in_ok-effects-in-Refused.ensures.effects ∙ append_assoc (listed c.front_effect-promise.result) [] [])

pub returns-in_ok-effects-in-Effects-clause-refusal : goal.returns-in_ok-effects-in-Effects-clause-refusal
returns-in_ok-effects-in-Effects-clause-refusal c = λ gs t.
    refusal_planned c.args.memory.now c.step_after_front-front.result c.args.request.now gs c.step_after_front-front.ensures _ (c.in-Effects.ensures gs (table_told gs c.args.table.now t)).passes

pub returns-in_ok-effects-in-Effects-clause-effects : goal.returns-in_ok-effects-in-Effects-clause-effects
returns-in_ok-effects-in-Effects-clause-effects c = λ gs t.
    let front = c.step_after_front-front.result in
    let rest = listed c.in-Effects.first ++ listed c.in-Effects.second in
    effects_planned c.args.memory.now front c.args.request.now gs c.step_after_front-front.ensures c.front_effect-promise.result rest _ c.requires.at_once c.front_effect-promise.ensures
    (few_effects (state_with front gs) _ c.args.request.now c.in-Effects.first c.in-Effects.second rest
    (c.in-Effects.ensures gs (table_told gs c.args.table.now t)) refl)
    (c.in_ok-effects-in-Effects.ensures.effects ∙ append_assoc (listed c.front_effect-promise.result) (listed c.in-Effects.first)
    (listed c.in-Effects.second))

pub returns-in_ok-effects-in-Effects-clause-due : goal.returns-in_ok-effects-in-Effects-clause-due
returns-in_ok-effects-in-Effects-clause-due c = λ gs t.
    let front = c.step_after_front-front.result in
    let rest = listed c.in-Effects.first ++ listed c.in-Effects.second in
    due_planned c.args.memory.now front c.args.request.now gs c.step_after_front-front.ensures c.args.table.now c.front_effect-promise.result rest _ c.requires.limits c.front_effect-promise.ensures
    (few_due front gs c.args.table.now c.args.request.now c.in-Effects.first c.in-Effects.second rest t
    (known_planned c.args.memory.now front c.args.request.now gs c.step_after_front-front.ensures c.requires.limits c.requires.known) (c.in-Effects.ensures gs (table_told gs c.args.table.now t)) refl
    c.in_ok-effects-in-Effects.ensures.first c.in_ok-effects-in-Effects.ensures.second)
    (c.in_ok-effects-in-Effects.ensures.effects ∙ append_assoc (listed c.front_effect-promise.result) (listed c.in-Effects.first) (listed c.in-Effects.second))

pub returns-in_ok-effects-in-Purge-clause-refusal : goal.returns-in_ok-effects-in-Purge-clause-refusal
returns-in_ok-effects-in-Purge-clause-refusal c = λ gs t.
    refusal_planned c.args.memory.now c.step_after_front-front.result c.args.request.now gs c.step_after_front-front.ensures _ (c.in-Purge.ensures gs (table_told gs c.args.table.now t)).passes

pub returns-in_ok-effects-in-Purge-clause-effects : goal.returns-in_ok-effects-in-Purge-clause-effects
returns-in_ok-effects-in-Purge-clause-effects c = λ gs t.
    let front = c.step_after_front-front.result in
    let rest = removed front c.in-Purge.committed c.in-Purge.min c.args.table.now in
    effects_planned c.args.memory.now front c.args.request.now gs c.step_after_front-front.ensures c.front_effect-promise.result rest _ c.requires.at_once c.front_effect-promise.ensures
    (purge_effects front gs c.args.table.now c.args.request.now c.in-Purge.committed c.in-Purge.min rest t
    (c.in-Purge.ensures gs (table_told gs c.args.table.now t)) refl) c.in_ok-effects-in-Purge.ensures.removals

pub returns-in_ok-effects-in-Purge-clause-due : goal.returns-in_ok-effects-in-Purge-clause-due
returns-in_ok-effects-in-Purge-clause-due c = λ gs t.
    let front = c.step_after_front-front.result in
    let rest = removed front c.in-Purge.committed c.in-Purge.min c.args.table.now in
    due_planned c.args.memory.now front c.args.request.now gs c.step_after_front-front.ensures c.args.table.now c.front_effect-promise.result rest _ c.requires.limits c.front_effect-promise.ensures
    (purge_due front gs c.args.table.now c.args.request.now c.in-Purge.committed c.in-Purge.min rest t c.in_ok-effects-in-Purge.ensures.rise refl) c.in_ok-effects-in-Purge.ensures.removals
