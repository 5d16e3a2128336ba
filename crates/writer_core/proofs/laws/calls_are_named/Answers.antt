use Rattle.writer_core.proofs.NamedLaws.{named}
use Rattle.writer_core.proofs.laws.calls_are_named.Goals as goal

pub returns : goal.returns
returns c = named
