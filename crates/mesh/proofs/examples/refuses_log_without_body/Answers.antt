use Rattle.mesh.proofs.EmptyLogs.{its_order, no_run, no_agreement}
use Rattle.mesh.proofs.examples.refuses_log_without_body.Goals as goal

pub returns : goal.returns
returns c = record { order = its_order; run = no_run; agrees = no_agreement }
