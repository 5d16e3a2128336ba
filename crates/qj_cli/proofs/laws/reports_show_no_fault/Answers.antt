use Rattle.std.proofs.Common.{subst, sym}
use Rattle.play_model.specs.Faultless.{ShowsNoFault}
use Rattle.play_model.specs.Plays.{mesh_of}
use Rattle.qj_cli.proofs.laws.reports_show_no_fault.Goals as goal

pub returns-clause-in_order : goal.returns-clause-in_order
returns-clause-in_order c =
    λ bytes text r.
    subst ShowsNoFault (sym r.leaves.mesh) (c.a_mesh_that_agrees_shows_no_fault.ensures (mesh_of r.leaves.play) r.leaves.sound.lists.agrees)

pub returns-clause-by_threads : goal.returns-clause-by_threads
returns-clause-by_threads c = λ bytes text r. c.a_mesh_that_agrees_shows_no_fault.ensures r.mesh r.leaves.agrees
