use Rattle.play_model.proofs.Makes.{lines_made}
use Rattle.play_model.proofs.ChoresMade.{chores_made}
use Rattle.play_model.proofs.laws.an_actor_does_its_tasks.Goals as goal

pub returns : goal.returns
returns c = record { chores = λ b n ds rs d h. chores_made b n ds rs d h; tasks = λ n ds rs d h. lines_made n ds rs d h }
