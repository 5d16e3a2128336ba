use Rattle.std.proofs.Common.{sym}
use Rattle.disk_effects.proofs.ServingTold.{line_told, line_none}
use Rattle.disk_effects.proofs.serving.line_at.Goals as goal

pub returns-in-Some-clause-line : goal.returns-in-Some-clause-line
returns-in-Some-clause-line c = λ gs t. rw c.row_line.ensures (line_told gs c.args.table.now c.args.start c.in-Some.row.now t (sym c.in-Some.ensures.found))

pub returns-in-None-clause-line : goal.returns-in-None-clause-line
returns-in-None-clause-line c = λ gs t. line_none gs c.args.table.now c.args.start t (sym c.in-None.ensures.found)
