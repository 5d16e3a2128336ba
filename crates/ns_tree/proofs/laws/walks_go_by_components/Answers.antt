use Rattle.ns_tree.proofs.Components.{walk_by_components}
use Rattle.ns_tree.proofs.laws.walks_go_by_components.Goals as goal

pub returns : goal.returns
returns c = walk_by_components
