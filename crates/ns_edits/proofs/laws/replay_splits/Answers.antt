use Rattle.ns_edits.proofs.Splits.{log_splits}
use Rattle.ns_edits.proofs.laws.replay_splits.Goals as goal

pub returns : goal.returns
returns c = log_splits
