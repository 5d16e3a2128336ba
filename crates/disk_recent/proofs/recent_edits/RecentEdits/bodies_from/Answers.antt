use Rattle.std.proofs.Common.{ℕ, ◌≡◌, ◌+◌, ◌-◌, ◌<◌, List, length, take, Option, refl, sym, ap, subst, ◌∙◌, arith}
use Rattle.std.specs.Prelude.{IsNone}
use Rattle.std.specs.Borrow.{Bor}
use Rattle.disk_recent.specs.Edits.{bodies_of, since, IsStored}
use Rattle.disk_recent.specs.Recent.{Recent}
use Rattle.disk_recent.proofs.Pieces.{IsNext, next_copied, all_copied, enough_copied}
use Rattle.disk_recent.proofs.recent_edits.RecentEdits.bodies_from.Goals.{else-loop-self-test, then-loop-self-test+in_default}
use Rattle.disk_recent.proofs.recent_edits.RecentEdits.bodies_from.Goals as goal

next : (c : goal.In_ok-push_bodies) → IsNext 256 (bodies_of (since c.args.from c.self.inside.ring.edits)) c.push_bodies.new.bodies (length c.loop-self.bodies)
next c =
    next_copied 256 c.args.from c.first-first.result c.self.inside.ring.edits c.loop-self.bodies c.push_bodies.new.bodies c.in-Some.stored.now
    c.first-first.ensures.first c.first-first.ensures.consecutive c.self.invariant.1 c.loop-self.invariant.held (omega arith)
    (subst (λ (n : ℕ). IsStored (bodies_of (since (c.args.from + n) c.self.inside.ring.edits)) c.in-Some.stored.now) c.len-in-loop-self.ensures c.in-Some.ensures.run) c.in_ok-push_bodies.ensures

pub loop-self-smaller : goal.loop-self-smaller
loop-self-smaller c = let n = next c in let few = n.within in let more = n.more in let smaller : 256 - length c.push_bodies.new.bodies < 256 - length c.loop-self.bodies = omega arith in smaller

pub loop-self-preserved : goal.loop-self-preserved
loop-self-preserved c = let n = next c in record { few = n.within; held = n.held }

pub returns : goal.returns
returns c =
    let here : c.loop-self.bodies ≡ take 256 (bodies_of (since c.args.from c.self.inside.ring.edits)) =
    elim c.loop-self-test.branch [
      | else-loop-self-test w ↦ enough_copied 256 (bodies_of (since c.args.from c.self.inside.ring.edits)) c.loop-self.bodies c.loop-self.invariant.few (omega arith) c.loop-self.invariant.held
      | then-loop-self-test+in_default w ↦ all_copied 256 c.args.from c.first-first.result c.self.inside.ring.edits c.loop-self.bodies
          c.first-first.ensures.first c.first-first.ensures.consecutive c.loop-self.invariant.few c.loop-self.invariant.held
          (ap (λ (n : ℕ). since (c.args.from + n) c.self.inside.ring.edits) (sym w.len-in-loop-self.ensures)
          ∙ w.slice_from.ensures.held.0 (subst (λ (o : Option (Bor (List ℕ))). IsNone o) (sym w.in_default.is) refl))
    ] in
    here ∙ ap (λ (r : Recent). take 256 (bodies_of (since c.args.from r.edits))) c.self.view_is
