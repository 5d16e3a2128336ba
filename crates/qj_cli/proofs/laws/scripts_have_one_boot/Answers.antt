use Rattle.qj_cli.proofs.BootLaws.{one_boot}
use Rattle.qj_cli.proofs.laws.scripts_have_one_boot.Goals as goal

pub returns : goal.returns
returns c = one_boot c.text_is_of_one_script.ensures c.one_script_has_one_play.ensures c.tails_end_once.ensures
