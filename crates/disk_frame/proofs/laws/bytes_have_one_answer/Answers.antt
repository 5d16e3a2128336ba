use Rattle.disk_frame.proofs.FaultLaws.{some_answer, one_value, one_fault, no_value}
use Rattle.disk_frame.proofs.laws.bytes_have_one_answer.Goals as goal

pub returns-clause-some : goal.returns-clause-some
returns-clause-some c = some_answer

pub returns-clause-value : goal.returns-clause-value
returns-clause-value c = one_value

pub returns-clause-fault : goal.returns-clause-fault
returns-clause-fault c = one_fault

pub returns-clause-either : goal.returns-clause-either
returns-clause-either c = no_value
