use Rattle.play_model.proofs.Led.{settled_more, handed_led, handed_after}
use Rattle.play_model.proofs.laws.lines_one_by_one.Goals as goal

pub returns : goal.returns
returns c = record { together = λ ds d a. settled_more ds a d; later = λ a rs d h. (handed_led a rs d h, handed_after a rs d h) }
