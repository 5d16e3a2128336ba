use Rattle.play_model.proofs.Unique.{one_record}
use Rattle.play_model.proofs.laws.answers_fix_the_record.Goals as goal

pub returns : goal.returns
returns c = λ a rs xs h g e f t. one_record a rs xs h g e f t
