use Rattle.std.proofs.Common.{List, ℕ, ap, subst}
use Rattle.std.specs.Prelude.{map, string_bytes}
use Rattle.ns_store.specs.Lists.{ListsNamed}
use Rattle.ns_store.proofs.ListLaws.{lists_images, all_small}
use Rattle.ns_store.proofs.counting.find_images.Goals as goal

pub returns-clause-images : goal.returns-clause-images
returns-clause-images g c = λ t.
    lists_images (map string_bytes c.in_ok-names.names.items) (g.D.DiskModel.view c.args.disk.now).seen (c.in_ok-names.ensures.names t) c.in_ok-txids_in.field-0.items
    (subst (λ (l : List (List ℕ)). ListsNamed l c.in_ok-txids_in.field-0.items) (ap (map string_bytes) c.deref.ensures.value) c.in_ok-txids_in.ensures)

pub returns-clause-small : goal.returns-clause-small
returns-clause-small g c = all_small (map string_bytes c.deref.result.now) c.in_ok-txids_in.field-0.items c.in_ok-txids_in.ensures
