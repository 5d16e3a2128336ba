use Rattle.mesh.proofs.Traced.{trace_runs}
use Rattle.mesh.proofs.laws.an_order_of_all_lines_is_a_run.Goals as goal

pub returns : goal.returns
returns c = λ m t a h. trace_runs m t a h
