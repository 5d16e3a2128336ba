use Rattle.writer_calls.proofs.SyncLaws.{held_or_missing}
use Rattle.writer_calls.proofs.laws.lines_are_held_or_missing.Goals as goal

pub returns : goal.returns
returns c = held_or_missing
