use Rattle.std.proofs.Common.{◌∷◌, [], sym, ap, ◌∙◌, subst, subst₂}
use Rattle.std.proofs.lemmas.List.{map-append}
use Rattle.mesh_judge.specs.Leading.{stand_of, stands_of, EndAlike, MakeAlike}
use Rattle.mesh_judge.proofs.Deciding.{holds}
use Rattle.mesh_judge.proofs.Alike.{skip_alike, push_alike}
use Rattle.mesh_judge.proofs.making.distinct.Goals as goal

pub loop-candidate-preserved-then-end_alike : goal.loop-candidate-preserved-then-end_alike
loop-candidate-preserved-then-end_alike c =
    let last = holds (EndAlike (stands_of c.deref.result.now) (stand_of c.in-Some.candidate)) c.end_alike.result c.if-end_alike.true c.end_alike.ensures in
    subst (λ ss. MakeAlike ss (stands_of c.loop-candidate.kept.items)) (sym (map-append stand_of c.loop-candidate.yielded (c.in-Some.candidate ∷ [])))
    (skip_alike (stands_of c.loop-candidate.yielded) (stands_of c.loop-candidate.kept.items) (stand_of c.in-Some.candidate)
    (subst (λ kept. EndAlike (stands_of kept) (stand_of c.in-Some.candidate)) c.deref.ensures.value last) c.loop-candidate.invariant)

pub loop-candidate-preserved : goal.loop-candidate-preserved
loop-candidate-preserved c =
    subst₂ MakeAlike (sym (map-append stand_of c.loop-candidate.yielded (c.in-Some.candidate ∷ [])))
    (sym (ap stands_of c.in_ok-push.ensures.items ∙ map-append stand_of c.loop-candidate.kept.items (c.in-Some.candidate ∷ [])))
    (push_alike (stands_of c.loop-candidate.yielded) (stands_of c.loop-candidate.kept.items) (stand_of c.in-Some.candidate) c.loop-candidate.invariant)
