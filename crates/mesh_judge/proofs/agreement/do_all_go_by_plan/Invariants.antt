use Rattle.std.proofs.Common.{ℕ, ◌<◌}
use Rattle.mesh_judge.specs.Parts.{GoesByPlan}
use Rattle.mesh_judge.proofs.agreement.do_all_go_by_plan.Given as goal

abbrev pub invariant-loop-actor : goal.invariant-loop-actor
invariant-loop-actor l = (c : ℕ) → c < l.actor → GoesByPlan l.mesh c
