use Rattle.std.proofs.Common.{◌∷◌, ◌++◌, [], sym, ap, ◌∙◌}
use Rattle.std.proofs.lemmas.List.{map-append}
use Rattle.mesh_judge.specs.Leading.{stand_of, stands_of, goes_on, all_go_on}
use Rattle.mesh_judge.proofs.LeadingCode.{one_more}
use Rattle.mesh_judge.proofs.making.all_after.Goals as goal

pub loop-candidate-preserved : goal.loop-candidate-preserved
loop-candidate-preserved c =
    c.in_ok-push_next.ensures ∙ ap (λ ss. ss ++ goes_on (stand_of c.in-Some.candidate) c.args.node c.args.request.now c.args.told.now) c.loop-candidate.invariant
    ∙ sym (one_more c.args.node c.args.request.now c.args.told.now (stands_of c.loop-candidate.yielded) (stand_of c.in-Some.candidate))
    ∙ ap (λ ss. all_go_on ss c.args.node c.args.request.now c.args.told.now) (sym (map-append stand_of c.loop-candidate.yielded (c.in-Some.candidate ∷ [])))
