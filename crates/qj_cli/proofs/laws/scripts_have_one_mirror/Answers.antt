use Rattle.qj_cli.proofs.ReportLaws.{one_mirror}
use Rattle.qj_cli.proofs.laws.scripts_have_one_mirror.Goals as goal

pub returns : goal.returns
returns c = one_mirror c.text_is_of_one_script.ensures c.one_script_has_one_play.ensures
