use Rattle.ns_edits.proofs.Calls.{calls_apart}
use Rattle.ns_edits.proofs.laws.calls_are_apart.Goals as goal

pub returns : goal.returns
returns c = calls_apart
