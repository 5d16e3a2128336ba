use Rattle.std.proofs.Common.{◌≡◌, Decides, subst, sym}
use Rattle.mesh_judge.proofs.LineLaws.{batches_decided}
use Rattle.mesh_judge.proofs.equality.same_edits.Goals as goal

pub returns : goal.returns
returns c = subst (λ z. Decides z (c.args.a.now ≡ c.args.b.now)) (sym c.same_batch.ensures) (batches_decided c.args.a.now c.args.b.now)
