use Rattle.std.proofs.Common.{ℕ, ◌-◌, ◌++◌, List, length, take, sym, subst, arith}
use Rattle.disk_recent.proofs.Pushing.{IsLeft, left_next}
use Rattle.disk_recent.proofs.recent_edits.push_bodies.Goals as goal

pub loop-rest-preserved : goal.loop-rest-preserved
loop-rest-preserved c = λ added is filled.
    let l = c.loop-rest.invariant added is filled in
    subst (λ (bodies : List (List ℕ)). IsLeft c.args.most c.in-Some.others.now bodies (c.args.bodies.now ++ take (c.args.most - length c.args.bodies.now) added)) (sym c.in_ok-push.ensures.ok)
    (left_next c.args.most c.loop-rest.rest.now c.loop-rest.bodies (c.args.bodies.now ++ take (c.args.most - length c.args.bodies.now) added)
    (c.in-Some.body, c.in-Some.others) c.in-Some-2.body l (c.in-Some.ensures l.left l.is) (omega arith)
    (rw c.in-Some-2.is at c.in_ok-body.ensures))
