use Rattle.std.proofs.Common.{◌≡◌, ◌∙◌, ap, sym, subst, true, [], None}
use Rattle.std.specs.Prelude.{◌≢◌}
use Rattle.ns_tree.specs.Space.{Space}
use Rattle.writer_core.specs.Writer.{log_limit}
use Rattle.play_standby.specs.Pendings.{PendingView, none_pending}
use Rattle.play_standby.specs.Actives.{ActiveView, IsActive, is_open}
use Rattle.play_standby.proofs.RoundLaws.{log_kept, log_began}
use Rattle.play_standby.proofs.active.Active.log_pending.Goals as goal

pub invariant_of-self : goal.invariant_of-self
invariant_of-self g c =
    let a : ActiveView = record {
      writer = c.self.inside.writer;
      position = c.self.inside.position;
      ahead = c.self.inside.pending.ahead;
      bodies = c.self.inside.pending.bodies;
      whole = c.self.inside.whole;
    } in
    let opens : is_open a ≡ true = ap is_open c.self.view_is ∙ c.requires.open in
    let p : PendingView = c.take_bodies-bodies.new.self in
    let none : p ≡ none_pending a.ahead = c.take_bodies-bodies.ensures.none in
    let kept = log_kept a c.log.new.self c.take_bodies-bodies.result p.bodies (g.P.Peers.calls c.args.peers.now) (g.P.Peers.calls c.log.new.peers)
    c.in-Acked.first c.in-Acked.last opens c.self.invariant.0
    c.take_bodies-bodies.ensures.bodies c.in-Acked.ensures.came (ap (λ (v : PendingView). v.bodies) none) in (
      subst (λ (s : Space). IsActive (record { writer = c.log.new.self; position = c.in-Acked.last; ahead = s; bodies = p.bodies; whole = a.whole }))
          (sym (ap (λ (v : PendingView). v.ahead) none)) kept.0,
      kept.1 ∙ (sym opens ∙ c.self.invariant.1),
    )

pub unreachable-requires : goal.unreachable-requires
unreachable-requires g c =
    let a : ActiveView = record {
      writer = c.self.inside.writer;
      position = c.self.inside.position;
      ahead = c.self.inside.pending.ahead;
      bodies = c.self.inside.pending.bodies;
      whole = c.self.inside.whole;
    } in
    let opens : is_open a ≡ true = ap is_open c.self.view_is ∙ c.requires.open in
    let some : a.bodies ≢ [] = subst (λ (v : ActiveView). v.bodies ≢ []) (sym c.self.view_is) c.requires.some in
    let fits : log_limit a.writer c.take_bodies-bodies.result ≡ None =
    ap (log_limit a.writer) c.take_bodies-bodies.ensures.bodies ∙ (c.self.invariant.0.opened opens).fits some in
    log_began a.writer c.log.new.self c.take_bodies-bodies.result (g.P.Peers.calls c.args.peers.now) (g.P.Peers.calls c.log.new.peers) c.log.result opens fits c.log.ensures.came c.in-NotActive.is
