use Rattle.std.proofs.Common.{◌∷◌, [], subst}
use Rattle.ns_tree.specs.declared.inode.Row.{Row}
use Rattle.ns_tree.specs.Space.{pair}
use Rattle.list_oiv.specs.Sizes.{AreSizes}
use Rattle.list_oiv.proofs.Taking.{first_counted}
use Rattle.list_oiv.proofs.tally.TallyRowSink.begin.Goals as goal

pub returns : goal.returns
returns c =
    first_counted c.count.new.self (pair (47 ∷ []) c.args.root)
    (subst (λ (r : Row). AreSizes c.count.new.self (r ∷ [])) c.in_ok-root.ensures (c.count.ensures [] c.new-tally.ensures)) c.requires.inode
