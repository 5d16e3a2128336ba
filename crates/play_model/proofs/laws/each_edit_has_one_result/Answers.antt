use Rattle.play_model.proofs.EachResult.{each_result}
use Rattle.play_model.proofs.NamedResults.{each_named_result}
use Rattle.play_model.proofs.laws.each_edit_has_one_result.Goals as goal

pub returns : goal.returns
returns c = record { raw = λ n ds rs plan e h raw f. each_result n ds rs h raw f.led f.ended; named = λ n ds rs plan e h d f whole. each_named_result n ds rs h d f.led whole f.ended }
