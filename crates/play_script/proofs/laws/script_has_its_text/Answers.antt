use Rattle.play_script.proofs.PrintLaws.{has_its_text}
use Rattle.play_script.proofs.laws.script_has_its_text.Goals as goal

pub returns : goal.returns
returns c = has_its_text
