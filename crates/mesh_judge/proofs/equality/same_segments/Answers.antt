use Rattle.std.proofs.Common.{rules, ◌≡◌, Decides, subst₂}
use Rattle.std.proofs.lemmas.Slice.Eq.{slice_eq-Decides}
use Rattle.mesh_judge.proofs.equality.same_segments.Goals as goal

pub returns : goal.returns
returns c =
    subst₂ (λ x y. Decides c.eq.result (x ≡ y)) c.as_slice.ensures c.as_slice-2.ensures
    (slice_eq-Decides (λ a b. search rules) c.as_slice.result.now c.as_slice-2.result.now c.eq.result c.eq.ensures)
