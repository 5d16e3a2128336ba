use Rattle.play_laws.proofs.NamesKept.{edits_have_one_result}
use Rattle.play_laws.proofs.laws.edits_have_one_result.Goals as goal

pub returns : goal.returns
returns c = edits_have_one_result
