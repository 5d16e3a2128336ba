use Rattle.mesh_judge.specs.declared.part.Part.TheVariants as part
use Rattle.report_judge.proofs.PlaceLaws.{place_is, copy_place_is}
use Rattle.report_judge.proofs.place.place_of.Goals as goal

pub returns-in-Operator : goal.returns-in-Operator
returns-in-Operator c = place_is c.args.broken part.Operator c.args.mesh.now c.strange_line.result c.in-Operator.is c.requires.breaks c.strange_line.ensures

pub returns-in-Histories : goal.returns-in-Histories
returns-in-Histories c = place_is c.args.broken part.Histories c.args.mesh.now c.foreign_line.result c.in-Histories.is c.requires.breaks c.foreign_line.ensures

pub returns-in-Calls : goal.returns-in-Calls
returns-in-Calls c = place_is c.args.broken part.Calls c.args.mesh.now c.unlike_place.result c.in-Calls.is c.requires.breaks c.unlike_place.ensures

pub returns-in-Marks : goal.returns-in-Marks
returns-in-Marks c = copy_place_is c.args.broken c.args.mesh.now c.uncalled_copy.result c.in-Marks.is c.requires.breaks c.requires.marked c.uncalled_copy.ensures

pub returns-in-Rounds : goal.returns-in-Rounds
returns-in-Rounds c = place_is c.args.broken part.Rounds c.args.mesh.now c.unmade_line.result c.in-Rounds.is c.requires.breaks c.unmade_line.ensures
