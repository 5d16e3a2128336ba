use Rattle.ns_tree.proofs.Components.{under_right_after}
use Rattle.ns_tree.proofs.laws.directories_come_right_before.Goals as goal

pub returns : goal.returns
returns c = under_right_after
