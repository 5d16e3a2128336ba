use Rattle.std.proofs.Common.{◌≡◌, Decides, subst, sym}
use Rattle.mesh_judge.proofs.LineLaws.{requests_decided}
use Rattle.mesh_judge.proofs.equality.same_request.Goals as goal

pub returns : goal.returns
returns c = subst (λ z. Decides z (c.args.a.now ≡ c.args.b.now)) (sym c.same.ensures) (requests_decided c.args.a.now c.args.b.now)
