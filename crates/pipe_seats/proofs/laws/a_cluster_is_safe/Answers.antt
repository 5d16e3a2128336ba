use Rattle.mesh.proofs.OrderRuns.{order_safe}
use Rattle.pipe_seats.specs.Cluster.{mesh_of}
use Rattle.pipe_seats.proofs.ClusterLaws.{agrees}
use Rattle.pipe_seats.proofs.laws.a_cluster_is_safe.Goals as goal

pub returns : goal.returns
returns c = λ k h. order_safe (mesh_of k) (agrees k h)
