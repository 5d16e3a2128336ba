use Rattle.std.proofs.Common.{◌≡◌, ◌∙◌, ap, sym, []}
use Rattle.play_standby.specs.Actives.{ActiveView, is_open}
use Rattle.play_standby.proofs.ActiveLaws.{close_inactive, idle_by}
use Rattle.play_standby.proofs.RoundLaws.{close_kept}
use Rattle.play_standby.proofs.active.Active.close.Goals as goal

pub invariant_of-self : goal.invariant_of-self
invariant_of-self g c =
    let a : ActiveView = record {
      writer = c.self.inside.writer;
      position = c.self.inside.position;
      ahead = c.self.inside.pending.ahead;
      bodies = c.self.inside.pending.bodies;
      whole = c.self.inside.whole;
    } in
    let none : a.bodies ≡ [] = ap (λ (v : ActiveView). v.bodies) c.self.view_is ∙ c.requires.none in
    let kept = close_kept a c.close.new.self (g.P.Peers.calls c.args.peers.now) (g.P.Peers.calls c.close.new.peers) c.in-Closed.last c.self.invariant.0 none c.in-Closed.ensures.came in
    kept

pub returns-in-NotActive-clause-closed : goal.returns-in-NotActive-clause-closed
returns-in-NotActive-clause-closed g c =
    let refused = c.in-NotActive.ensures.came in
    (ap is_open (sym c.self.view_is) ∙ close_inactive c.self.inside.writer refused.refused, idle_by _ _ _ _ _ c.self.view_is refused.same refused.none)
