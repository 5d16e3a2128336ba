use Rattle.std.proofs.Common.{◌≡◌, sym, ap, ◌∙◌, subst}
use Rattle.play_model.specs.Lines.{line_of}
use Rattle.play_model.specs.Actions.{ActorView, has_names, kept_by, action_of, IsIdleActor, MayCome, TakesIf}
use Rattle.play_actor.specs.declared.script_actor.Kind.TheVariants as kind
use Rattle.play_actor.specs.Kinds.{seen_kind}
use Rattle.play_actor.proofs.script_actor.ScriptActorActor.take_line.Goals as goal

pub take_raw-requires-clause-idle : goal.take_raw-requires-clause-idle
take_raw-requires-clause-idle g c =
    let log = c.args.caller.now.log in
    let was : seen_kind (kind.Raw c.in-Raw.writer) ≡ c.args.self.now = ap seen_kind (sym c.in-Raw.is ∙ c.replace.ensures.value) ∙ c.self.view_is in
    subst (λ (a : ActorView). IsIdleActor log.nodes (kept_by a log)) (sym was) c.requires.idle

pub take_raw-requires-clause-may : goal.take_raw-requires-clause-may
take_raw-requires-clause-may g c =
    let was : seen_kind (kind.Raw c.in-Raw.writer) ≡ c.args.self.now = ap seen_kind (sym c.in-Raw.is ∙ c.replace.ensures.value) ∙ c.self.view_is in
    subst (λ (a : ActorView). MayCome (has_names a) c.args.caller.now.log.nodes c.args.line.now) (sym was) c.requires.may

pub returns-in_ok-take_raw-in-Raw-clause-takes : goal.returns-in_ok-take_raw-in-Raw-clause-takes
returns-in_ok-take_raw-in-Raw-clause-takes g c =
    let log = c.args.caller.now.log in
    let was : seen_kind (kind.Raw c.in-Raw.writer) ≡ c.args.self.now = ap seen_kind (sym c.in-Raw.is ∙ c.replace.ensures.value) ∙ c.self.view_is in
    subst (λ (a : ActorView). TakesIf log.nodes (action_of (line_of c.args.line.now)) (kept_by a log)
    (kept_by (seen_kind (kind.Raw c.take_raw.new.writer)) c.take_raw.new.caller.log)) was c.in_ok-take_raw-in-Raw.ensures.takes

pub returns-in_ok-take_raw-in-Raw-clause-named : goal.returns-in_ok-take_raw-in-Raw-clause-named
returns-in_ok-take_raw-in-Raw-clause-named g c = ap has_names (ap seen_kind (sym c.in-Raw.is ∙ c.replace.ensures.value) ∙ c.self.view_is)

pub take_named-requires-clause-idle : goal.take_named-requires-clause-idle
take_named-requires-clause-idle g c =
    let log = c.args.caller.now.log in
    let was : seen_kind (kind.Named c.in-Named.node) ≡ c.args.self.now = ap seen_kind (sym c.in-Named.is ∙ c.replace.ensures.value) ∙ c.self.view_is in
    subst (λ (a : ActorView). IsIdleActor log.nodes (kept_by a log)) (sym was) c.requires.idle

pub take_named-requires-clause-may : goal.take_named-requires-clause-may
take_named-requires-clause-may g c =
    let was : seen_kind (kind.Named c.in-Named.node) ≡ c.args.self.now = ap seen_kind (sym c.in-Named.is ∙ c.replace.ensures.value) ∙ c.self.view_is in
    subst (λ (a : ActorView). MayCome (has_names a) c.args.caller.now.log.nodes c.args.line.now) (sym was) c.requires.may

pub returns-in_ok-node-in-Named-clause-takes : goal.returns-in_ok-node-in-Named-clause-takes
returns-in_ok-node-in-Named-clause-takes g c =
    let log = c.args.caller.now.log in
    let was : seen_kind (kind.Named c.in-Named.node) ≡ c.args.self.now = ap seen_kind (sym c.in-Named.is ∙ c.replace.ensures.value) ∙ c.self.view_is in
    subst (λ (a : ActorView). TakesIf log.nodes (action_of (line_of c.args.line.now)) (kept_by a log)
    (kept_by (seen_kind (kind.Named c.in_ok-node-in-Named.node)) c.take_named.new.caller.log)) was c.in_ok-node-in-Named.ensures.takes

pub returns-in_ok-node-in-Named-clause-named : goal.returns-in_ok-node-in-Named-clause-named
returns-in_ok-node-in-Named-clause-named g c = ap has_names (ap seen_kind (sym c.in-Named.is ∙ c.replace.ensures.value) ∙ c.self.view_is)
