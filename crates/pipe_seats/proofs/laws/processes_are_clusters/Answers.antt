use Rattle.pipe_seats.proofs.ProcessLaws.{are_clusters}
use Rattle.pipe_seats.proofs.laws.processes_are_clusters.Goals as goal

pub returns : goal.returns
returns c = are_clusters
