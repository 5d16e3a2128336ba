use Rattle.std.proofs.Common.{◌≡◌, true, [], sym, refl, ap, subst, ◌∙◌}
use Rattle.mesh.specs.Marks.{IsMarked}
use Rattle.play_calls.specs.Logs.{LogView}
use Rattle.play_actor.proofs.NodesGo.{back_so, count_so, made_later}
use Rattle.play_actor.proofs.ActsTaken.{idle_there, may_there, act_takes, log_seated, still_seated}
use Rattle.play_actor.proofs.cluster.Cluster.act.Goals as goal

pub take_line-requires-clause-idle : goal.take_line-requires-clause-idle
take_line-requires-clause-idle g c =
    let s = c.self.inside in
    idle_there g.A.Actor.seen s.named s.cells.items s.players.items s.operator s.operated c.args.self c.args.actor c.index_mut-player.result.now c.of-by.result.log c.self.view_is c.self.invariant
    c.index_mut-player.ensures.value c.requires.there (ap (λ x. x.log) c.of-by.ensures ∙ c.replace-log.ensures.value) c.requires.idle

pub take_line-requires-clause-may : goal.take_line-requires-clause-may
take_line-requires-clause-may g c =
    let s = c.self.inside in
    may_there g.A.Actor.seen s.named s.cells.items s.players.items s.operator s.operated c.args.self c.args.actor c.index_mut-player.result.now
    c.of-by.result.log c.args.line.now c.self.view_is c.self.invariant
    c.index_mut-player.ensures.value c.requires.there (ap (λ x. x.log) c.of-by.ensures ∙ c.replace-log.ensures.value) c.requires.idle c.requires.may

pub invariant_of-result : goal.invariant_of-result
invariant_of-result g c =
    let s = c.self.inside in
    let p = c.index_mut-player.result.now in
    let t = c.wire.inside in
    let own = ap (λ x. x.log) c.of-by.ensures ∙ c.replace-log.ensures.value in
    still_seated g.A.Actor.seen s.cells.items s.players.items c.args.actor (record { name = p.name; actor = c.take_line.new.self; log = c.into_parts-wire.result.1 })
    c.of-by.result.log c.into_parts-wire.result.1 t.caller t.cells.items c.take_line.new.caller
    (back_so c.into_parts-wire.result.0 t.caller t.cells.items c.into_parts-wire.result.1 c.take_line.new.caller c.wire.view_is c.into_parts-wire.ensures.wire c.into_parts-wire.ensures.log)
    (made_later c.of-by.result c.args.actor s.cells.items c.take_line.new.caller (ap (λ x. x.wire) c.of-by.ensures)
    c.in_ok-take_line.ensures.later)
    (count_so c.into_parts-wire.result.0 t.caller t.cells.items c.into_parts-wire.result.1.nodes c.wire.view_is c.into_parts-wire.ensures.nodes) c.self.invariant
    (log_seated g.A.Actor.seen s.named s.cells.items s.players.items s.operator s.operated c.args.self c.args.actor p c.of-by.result.log
    c.self.view_is c.self.invariant c.index_mut-player.ensures.value c.requires.there own) refl

pub returns : goal.returns
returns g c d is =
    let s = c.self.inside in
    let p = c.index_mut-player.result.now in
    let t = c.wire.inside in
    let own = ap (λ x. x.log) c.of-by.ensures ∙ c.replace-log.ensures.value in
    let whole : c.take_line.new.caller.log.whole ≡ true = sym c.is_whole.ensures.whole ∙ c.if-not-is_whole.false in
    let marked = subst (λ (l : LogView). IsMarked l.marks [] l.past) (sym c.into_parts-wire.ensures.log) (c.is_whole.ensures.marked whole) in
    act_takes g.A.Actor.seen s.named s.cells.items s.players.items s.operator s.operated c.args.self c.args.actor p
    (record { name = p.name; actor = c.take_line.new.self; log = c.into_parts-wire.result.1 }) c.of-by.result.log c.into_parts-wire.result.1 t.caller t.cells.items d _
    c.take_line.new.caller c.self.view_is c.self.invariant c.index_mut-player.ensures.value c.requires.there own
    c.requires.idle is
    (back_so c.into_parts-wire.result.0 t.caller t.cells.items c.into_parts-wire.result.1 c.take_line.new.caller c.wire.view_is c.into_parts-wire.ensures.wire c.into_parts-wire.ensures.log)
    c.in_ok-take_line.ensures.takes c.in_ok-take_line.ensures.named
    (made_later c.of-by.result c.args.actor s.cells.items c.take_line.new.caller (ap (λ x. x.wire) c.of-by.ensures)
    c.in_ok-take_line.ensures.later)
    marked refl refl
