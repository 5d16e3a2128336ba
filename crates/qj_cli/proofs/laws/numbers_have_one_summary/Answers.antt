use Rattle.qj_cli.proofs.ReportLaws.{one_summary}
use Rattle.qj_cli.proofs.laws.numbers_have_one_summary.Goals as goal

pub returns : goal.returns
returns c = one_summary c.one_script_has_one_play.ensures
