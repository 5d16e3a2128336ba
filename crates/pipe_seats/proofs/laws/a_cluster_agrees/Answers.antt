use Rattle.pipe_seats.proofs.ClusterLaws.{agrees}
use Rattle.pipe_seats.proofs.laws.a_cluster_agrees.Goals as goal

pub returns : goal.returns
returns c = agrees
