use Rattle.std.proofs.Common.{ℕ, ◌<◌}
use Rattle.mesh.specs.Agree.{record_of}
use Rattle.mesh.specs.Makers.{IsOfChores}
use Rattle.mesh_judge.proofs.agreement.are_all_made.Given as goal

abbrev pub invariant-loop-actor : goal.invariant-loop-actor
invariant-loop-actor l = (c : ℕ) → c < l.actor → IsOfChores l.mesh.nodes (record_of l.mesh c)
