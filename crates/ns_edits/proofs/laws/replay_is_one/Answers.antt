use Rattle.ns_edits.proofs.Splits.{one_replay}
use Rattle.ns_edits.proofs.laws.replay_is_one.Goals as goal

pub returns : goal.returns
returns c = one_replay
