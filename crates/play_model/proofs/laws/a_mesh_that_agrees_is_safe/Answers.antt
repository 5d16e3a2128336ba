use Rattle.std.proofs.Common.{sym, ◌∙◌}
use Rattle.run_safety.proofs.Slots.{none≢some}
use Rattle.mesh.proofs.OrderRuns.{order_safe}
use Rattle.play_model.proofs.laws.a_mesh_that_agrees_is_safe.Goals as goal

pub returns : goal.returns
returns c = λ m ends a nothing. record { run = order_safe m a; ends_replay = λ i e last at has. none≢some last (sym (nothing i e at) ∙ has) }
