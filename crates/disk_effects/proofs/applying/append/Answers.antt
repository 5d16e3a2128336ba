use Rattle.std.proofs.Common.{sym}
use Rattle.disk_effects.proofs.ApplyLaws.{appended_within, found_there}
use Rattle.disk_effects.proofs.applying.append.Goals as goal

pub put-requires : goal.put-requires
put-requires c = appended_within c.args.start c.args.end c.args.place c.in-Some.row.now c.args.table.now (sym c.in-Some.ensures.found) c.in-Some.ensures.within c.requires.range c.requires.small

pub returns-clause-fits : goal.returns-clause-fits
returns-clause-fits c = c.put.ensures.there (found_there c.args.start c.in-Some.row.now c.args.table.now (sym c.in-Some.ensures.found))

pub returns-clause-long : goal.returns-clause-long
returns-clause-long c = c.put.ensures.long (found_there c.args.start c.in-Some.row.now c.args.table.now (sym c.in-Some.ensures.found))
