use Rattle.std.proofs.Common.{◌≡◌, ◌+◌, sym, subst, ◌∙◌, arith}
use Rattle.disk_recent.specs.Edits.{Follows}
use Rattle.disk_recent.proofs.Kept.{follows_none}
use Rattle.disk_recent.specs.Recent.{Recent}
use Rattle.disk_recent.proofs.Pushing.{follows_next, next_is}
use Rattle.disk_recent.proofs.recent_edits.RecentEdits.make_next.Goals as goal

pub returns-then-saturating_add-next-clause-same : goal.returns-then-saturating_add-next-clause-same
returns-then-saturating_add-next-clause-same c = λ follows.
    let next : c.args.next ≡ c.in-Some.last + 1 = next_is c.self.inside.ring.edits c.in-Some.last c.args.next (sym c.last.ensures ∙ c.in-Some.is)
    (subst (λ (r : Recent). Follows r.edits c.args.next) (sym c.self.view_is) follows) in
    absurd (omega (arith, c.saturating_add.ensures))

pub returns-else-saturating_add-next-clause-follows : goal.returns-else-saturating_add-next-clause-follows
returns-else-saturating_add-next-clause-follows c =
    let next : c.in-Some.last + 1 ≡ c.args.next = omega (arith, c.saturating_add.ensures) in
    subst (λ (r : Recent). Follows r.edits c.args.next) c.self.view_is (follows_next c.self.inside.ring.edits c.in-Some.last c.args.next (sym c.last.ensures ∙ c.in-Some.is) next)

pub returns-in_default-clause-follows : goal.returns-in_default-clause-follows
returns-in_default-clause-follows c =
    subst (λ (r : Recent). Follows r.edits c.args.next) c.self.view_is (follows_none c.self.inside.ring.edits c.args.next (sym c.last.ensures ∙ c.in_default.is))
