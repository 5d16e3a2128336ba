use Rattle.play_script.proofs.OnlyLaws.{reads_only}
use Rattle.play_script.proofs.reader.read_script.Goals as goal

pub returns-in-Ok-clause-only : goal.returns-in-Ok-clause-only
returns-in-Ok-clause-only c = λ s h. reads_only c.args.bytes.now _ s c.in-Ok.ensures.script c.in-Ok.ensures.fault h
