use Rattle.std.proofs.Common.{rules}
use Rattle.base_files.proofs.RecordLaws.{found_other}
use Rattle.base_files.proofs.paxos_file.get_by.Goals as goal

pub returns-in-Ok-OtherLength-clause-record_ : goal.returns-in-Ok-OtherLength-clause-record_
returns-in-Ok-OtherLength-clause-record_ g c = λ t.
    let other = rw c.in-Ok-OtherLength.field-0-is at (c.in-Ok-OtherLength.ensures.whole t) in
    found_other c.args.name.now other.0 c.read_whole.new.into _ c.bad_record-in-Ok-OtherLength.result c.bad_record-in-Ok-OtherLength.ensures other.1 other.2 (search rules)
