use Rattle.std.proofs.Common.{ap, sym, ◌∙◌}
use Rattle.ns_edits.specs.Apply.{with_quota}
use Rattle.ns_edits.proofs.Changes.{changed_by}
use Rattle.ns_edits.proofs.applying.settings.set_quota.Goals as goal

pub returns : goal.returns
returns c =
    let set = c.change.ensures in
    set.4 ∙ changed_by c.args.path.now (with_quota c.args.names c.args.space) set.0 set.1 c.args.ns.now c.show_invariant.ensures set.2
    (sym set.3.leaves ∙ set.3.met ∙ ap (with_quota c.args.names c.args.space) set.3.shows)
