use Rattle.journal_core.proofs.KeptLaws.{events_are_parts}
use Rattle.journal_core.proofs.laws.events_are_parts.Goals as goal

pub returns : goal.returns
returns c = events_are_parts
