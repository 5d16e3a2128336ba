use Rattle.play_script.proofs.NamingLaws.{others_have_names}
use Rattle.play_script.proofs.naming.others_have_names.Goals as goal

pub returns : goal.returns
returns c = others_have_names
