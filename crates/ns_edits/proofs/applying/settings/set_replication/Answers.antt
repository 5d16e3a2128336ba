use Rattle.std.proofs.Common.{ap, sym, ◌∙◌}
use Rattle.ns_edits.specs.Apply.{with_replication}
use Rattle.ns_edits.proofs.Changes.{changed_by}
use Rattle.ns_edits.proofs.applying.settings.set_replication.Goals as goal

pub returns : goal.returns
returns c =
    let set = c.change.ensures in
    set.4 ∙ changed_by c.args.path.now (with_replication c.args.replication) set.0 set.1 c.args.ns.now c.show_invariant.ensures set.2
    (sym set.3.leaves ∙ set.3.met ∙ ap (with_replication c.args.replication) set.3.shows)
