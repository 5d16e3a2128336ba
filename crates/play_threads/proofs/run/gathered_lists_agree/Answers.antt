use Rattle.play_threads.proofs.Assembly.{assembled}
use Rattle.play_threads.proofs.run.gathered_lists_agree.Goals as goal

pub returns : goal.returns
returns c = λ named nodes lines m ends playable g. assembled named nodes lines m ends playable g
