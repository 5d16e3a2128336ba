use Rattle.std.proofs.Common.{List, ℕ, sym, subst}
use Rattle.ns_store.specs.Images.{ListsImages}
use Rattle.ns_store.specs.Lists.{AllSmall}
use Rattle.ns_store.proofs.ListLaws.{kept_told}
use Rattle.ns_store.proofs.keeping.min_to_keep.Goals as goal

pub kept_in-requires : goal.kept_in-requires
kept_in-requires g c = subst (λ (l : List ℕ). AllSmall l) (sym c.deref.ensures.value) c.in-Ok.ensures.small

pub returns-in-Ok-clause-kept : goal.returns-in-Ok-clause-kept
returns-in-Ok-clause-kept g c = λ t.
    kept_told c.deref.result.now (g.D.DiskModel.view c.args.disk.now).seen c.args.extra c.kept_in.result
    (subst (λ (l : List ℕ). ListsImages l (g.D.DiskModel.view c.args.disk.now).seen) (sym c.deref.ensures.value) (c.in-Ok.ensures.images t)) c.kept_in.ensures
