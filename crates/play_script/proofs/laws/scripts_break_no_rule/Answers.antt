use Rattle.play_script.proofs.ScriptLaws.{breaks_no_rule}
use Rattle.play_script.proofs.FaultLaws.{else_broken}
use Rattle.play_script.proofs.laws.scripts_break_no_rule.Goals as goal

pub returns-clause-sound : goal.returns-clause-sound
returns-clause-sound c = breaks_no_rule

pub returns-clause-complete : goal.returns-clause-complete
returns-clause-complete c = else_broken
