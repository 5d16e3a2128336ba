use Rattle.std.proofs.Common.{List, ℕ, sym, subst}
use Rattle.ns_store.specs.Images.{ListsImages}
use Rattle.ns_store.proofs.ListLaws.{newest_told}
use Rattle.ns_store.proofs.keeping.newest.Goals as goal

pub returns-in-Ok-clause-newest : goal.returns-in-Ok-clause-newest
returns-in-Ok-clause-newest g c = λ t.
    newest_told c.deref.result.now (g.D.DiskModel.view c.args.disk.now).seen c.newest_in.result
    (subst (λ (l : List ℕ). ListsImages l (g.D.DiskModel.view c.args.disk.now).seen) (sym c.deref.ensures.value) (c.in-Ok.ensures.images t)) c.newest_in.ensures
