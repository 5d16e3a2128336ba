use Rattle.disk_files.proofs.ClearLaws.{there_named, removed_clears, removed_counts}
use Rattle.disk_files.proofs.clearing.clear_record.Goals as goal

pub remove-requires-clause-there : goal.remove-requires-clause-there
remove-requires-clause-there g c = λ t. there_named c.args.start (g.D.DiskModel.view c.args.disk.now) (c.requires.there t c.if-not-accepted.false)

pub returns-clause-clears : goal.returns-clause-clears
returns-clause-clears g c = λ t. removed_clears c.args.start c.args.accepted c.if-not-accepted.false _ _ _ (c.remove.ensures.disk t)

pub returns-clause-counts : goal.returns-clause-counts
returns-clause-counts g c = removed_counts c.args.accepted c.if-not-accepted.false _ _ _ _ _ _ c.remove.ensures.cut
