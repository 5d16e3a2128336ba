use Rattle.std.proofs.Common.{ℕ, ◌<◌}
use Rattle.mesh.specs.Agree.{record_of}
use Rattle.mesh.specs.Matches.{AreWithin}
use Rattle.mesh_judge.proofs.agreement.are_records_within.Given as goal

abbrev pub invariant-loop-record : goal.invariant-loop-record
invariant-loop-record l = (c : ℕ) → c < l.record-index → AreWithin l.mesh.nodes (record_of l.mesh c)
