use Rattle.play_script.proofs.ScriptLaws.{one_script}
use Rattle.play_script.proofs.laws.text_is_of_one_script.Goals as goal

pub returns : goal.returns
returns c = one_script
