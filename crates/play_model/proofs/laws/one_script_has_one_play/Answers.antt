use Rattle.play_model.proofs.Unique.{one_play}
use Rattle.play_model.specs.Lines.{lines_of}
use Rattle.play_model.proofs.laws.one_script_has_one_play.Goals as goal

pub returns : goal.returns
returns c = λ s p q h g. one_play s.named s.nodes (lines_of s) p q h g
