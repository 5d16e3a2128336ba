use Rattle.std.proofs.Common.{rules}
use Rattle.base_files.proofs.RecordLaws.{got_other}
use Rattle.base_files.proofs.number_file.NumberFile.get.Goals as goal

pub returns-in-Ok-OtherLength-clause-value : goal.returns-in-Ok-OtherLength-clause-value
returns-in-Ok-OtherLength-clause-value g c = λ t.
    let other = rw c.in-Ok-OtherLength.field-0-is at (c.in-Ok-OtherLength.ensures.whole t) in
    got_other c.args.name.now other.0 c.read_whole.new.into _ c.bad_number-in-Ok-OtherLength.result c.bad_number-in-Ok-OtherLength.ensures other.1 other.2 (search rules)
