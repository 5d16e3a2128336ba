use Rattle.run_world.proofs.Completing.{complete}
use Rattle.run_world.proofs.laws.takeovers_complete.Goals as goal

pub returns : goal.returns
returns c = λ n actors actor nodes before events are majority begun served. complete n actors actor nodes before events are majority begun served
