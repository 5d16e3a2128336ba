use Rattle.std.proofs.Common.{◌≡◌, ◌∙◌, ap, sym, []}
use Rattle.play_standby.specs.Actives.{ActiveView, is_open}
use Rattle.play_standby.proofs.ActiveLaws.{purge_inactive, idle_by}
use Rattle.play_standby.proofs.RoundLaws.{purge_kept}
use Rattle.play_standby.proofs.active.Active.purge.Goals as goal

pub invariant_of-self : goal.invariant_of-self
invariant_of-self g c =
    let a : ActiveView = record {
      writer = c.self.inside.writer;
      position = c.self.inside.position;
      ahead = c.self.inside.pending.ahead;
      bodies = c.self.inside.pending.bodies;
      whole = c.self.inside.whole;
    } in
    let none : a.bodies ≡ [] = ap (λ (v : ActiveView). v.bodies) c.self.view_is ∙ c.requires.none in
    let kept = purge_kept a c.purge.new.self (g.P.Peers.calls c.args.peers.now) (g.P.Peers.calls c.purge.new.peers) c.args.min c.self.invariant.0 none c.in-Done.ensures.came in
    (kept.0, kept.1 ∙ c.self.invariant.1)

pub returns-in-NotActive-clause-purging : goal.returns-in-NotActive-clause-purging
returns-in-NotActive-clause-purging g c =
    let refused = c.in-NotActive.ensures.came in
    (ap is_open (sym c.self.view_is) ∙ purge_inactive c.self.inside.writer c.args.min refused.refused, idle_by _ _ _ _ _ c.self.view_is refused.same refused.none)
