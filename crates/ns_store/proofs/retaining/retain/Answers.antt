use Rattle.std.proofs.Common.{List, ℕ, ◌∙◌, ap, sym, subst}
use Rattle.ns_store.specs.Lists.{AllSmall, older_than}
use Rattle.ns_store.proofs.ThinLaws.{small_front, retained}
use Rattle.ns_store.proofs.retaining.retain.Goals as goal

pub remove_all-requires : goal.remove_all-requires
remove_all-requires g c = subst (λ (l : List ℕ). AllSmall l) (sym (c.older.ensures ∙ ap (older_than c.args.count) c.deref.ensures.value))
    (small_front _ c.in_ok-txids.txids.items c.in_ok-txids.ensures.small)

pub returns-clause-retains : goal.returns-clause-retains
returns-clause-retains g c = λ t.
    let t1 = c.find_images.ensures.call.tells.0 t in
    retained c.args.count (g.D.DiskModel.view c.args.disk.now) (g.D.DiskModel.view c.find_images.new.disk) (g.D.DiskModel.view c.remove_all.new.disk)
    (g.met.D.Disk.sound _ t) (c.find_images.ensures.disk t).keeps c.in_ok-txids.txids.items c.older.result.now
    (c.in_ok-txids.ensures.images t) (c.older.ensures ∙ ap (older_than c.args.count) c.deref.ensures.value) (c.remove_all.ensures.quiet t1) c.remove_all.result (c.remove_all.ensures.removed t1)
