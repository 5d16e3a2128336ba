use Rattle.journal_history.specs.Cell.{fresh_cell, IsLocalRun}
use Rattle.report_judge.proofs.FrontLaws.{begins, no_lines}
use Rattle.report_judge.proofs.fronts.local_lines.Goals as goal

pub loop-broken-init : goal.loop-broken-init
loop-broken-init c = begins (IsLocalRun fresh_cell) c.args.lines.now no_lines c.requires
