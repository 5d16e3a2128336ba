use Rattle.mesh.specs.Matches.{AreWithin}
use Rattle.mesh_judge.proofs.Deciding.{holds}
use Rattle.report_judge.proofs.FrontLaws.{made_of}
use Rattle.report_judge.proofs.fronts.are_of.Goals as goal

pub returns-else-not-are_within : goal.returns-else-not-are_within
returns-else-not-are_within c =
    made_of c.args.caller c.args.nodes c.args.lines.now c.is_of_chores.result c.in-Actor.is
    (holds (AreWithin c.args.nodes c.args.lines.now) c.are_within.result c.if-not-are_within.false c.are_within.ensures) c.is_of_chores.ensures
