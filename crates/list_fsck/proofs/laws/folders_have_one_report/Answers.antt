use Rattle.list_fsck.proofs.OneReport.{one_report}
use Rattle.list_fsck.proofs.laws.folders_have_one_report.Goals as goal

pub returns : goal.returns
returns c = one_report
