use Rattle.std.proofs.Common.{Some, refl, sym, subst}
use Rattle.std.proofs.lemmas.Result.{IfOk-weaker}
use Rattle.caller.specs.LaterLaws.{later_same}
use Rattle.play_names.specs.Holding.{Holding, Broken, with_work}
use Rattle.play_standby.specs.Standbys.{held}
use Rattle.play_model.specs.Lines.{line_of}
use Rattle.play_model.specs.KeptActor.{KeptActor}
use Rattle.play_model.specs.Actions.{kept_of, action_of, IsIdleActor, TakesIf}
use Rattle.play_actor.specs.declared.role.Role.{Role}
use Rattle.play_actor.specs.Nodes.{NameView, kept_node}
use Rattle.play_actor.specs.Roles.{StandsIn}
use Rattle.play_actor.proofs.LineLaws.{role_kept, broken_takes}
use Rattle.play_actor.proofs.named_lines.take_named.Goals as goal

pub take_resting-requires-clause-idle : goal.take_resting-requires-clause-idle
take_resting-requires-clause-idle g c =
    let log = c.args.caller.now.log in
    subst (λ (k : KeptActor). IsIdleActor log.nodes k)
    (sym (role_kept c.args.node c.into_role-role.result.1 c.into_role-role.result.0 _ log c.into_role-role.ensures.writer c.into_role-role.ensures.holding c.in-Standby.is)) c.requires.idle

pub take_resting-requires-clause-rests : goal.take_resting-requires-clause-rests
take_resting-requires-clause-rests g c = subst (λ (r : Role). StandsIn r) c.in-Standby.is c.into_role-role.ensures.stands

pub returns-in-Standby-clause-takes : goal.returns-in-Standby-clause-takes
returns-in-Standby-clause-takes g c =
    let log = c.args.caller.now.log in
    let new = c.take_resting.new.caller.log in
    IfOk-weaker c.take_resting.result _ _
    (λ node takes. subst (λ (k : KeptActor). TakesIf log.nodes (action_of (line_of c.args.line.now)) k (kept_node node new))
    (role_kept c.args.node c.into_role-role.result.1 c.into_role-role.result.0 _ log c.into_role-role.ensures.writer c.into_role-role.ensures.holding c.in-Standby.is) takes)
    c.take_resting.ensures.takes

pub take_active-requires-clause-idle : goal.take_active-requires-clause-idle
take_active-requires-clause-idle g c =
    let log = c.args.caller.now.log in
    subst (λ (k : KeptActor). IsIdleActor log.nodes k)
    (sym (role_kept c.args.node c.into_role-role.result.1 c.into_role-role.result.0 _ log c.into_role-role.ensures.writer c.into_role-role.ensures.holding c.in-Active.is)) c.requires.idle

pub take_active-requires-clause-serving : goal.take_active-requires-clause-serving
take_active-requires-clause-serving g c = subst (λ (r : Role). StandsIn r) c.in-Active.is c.into_role-role.ensures.stands

pub returns-in-Active-clause-takes : goal.returns-in-Active-clause-takes
returns-in-Active-clause-takes g c =
    let log = c.args.caller.now.log in
    let new = c.take_active.new.caller.log in
    IfOk-weaker c.take_active.result _ _
    (λ node takes. subst (λ (k : KeptActor). TakesIf log.nodes (action_of (line_of c.args.line.now)) k (kept_node node new))
    (role_kept c.args.node c.into_role-role.result.1 c.into_role-role.result.0 _ log c.into_role-role.ensures.writer c.into_role-role.ensures.holding c.in-Active.is) takes)
    c.take_active.ensures.takes

pub returns-in-Broken-clause-takes : goal.returns-in-Broken-clause-takes
returns-in-Broken-clause-takes g c =
    let log = c.args.caller.now.log in
    let rest = c.in-Broken.resting in
    let h : Holding = with_work Broken (held c.into_role-role.result.1 rest.standby) in
    let k : KeptActor = kept_of rest.writer (Some h) log in
    let o = action_of (line_of c.args.line.now) in
    let same = role_kept c.args.node c.into_role-role.result.1 c.into_role-role.result.0 _ log c.into_role-role.ensures.writer c.into_role-role.ensures.holding c.in-Broken.is in
    let takes : TakesIf log.nodes o k k = broken_takes log.nodes o rest.writer h log (subst (λ (x : KeptActor). IsIdleActor log.nodes x) (sym same) c.requires.idle) refl in
    subst (λ (x : KeptActor). TakesIf log.nodes o x (kept_node c.broken.result log)) same
    (subst (λ (x : NameView). TakesIf log.nodes o k (kept_node x log)) (sym c.broken.ensures) takes)

pub returns-in-Broken-clause-later : goal.returns-in-Broken-clause-later
returns-in-Broken-clause-later g c = later_same g.W.WireModel g.met.W.Wire.readies_none c.args.caller.now
