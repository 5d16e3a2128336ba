use Rattle.ns_tree.specs.Path.{parent_of}
use Rattle.ns_tree.proofs.Puts.{room_put}
use Rattle.ns_tree.proofs.tree.Tree.make_room.Goals as goal

pub returns-clause-new : goal.returns-clause-new
returns-clause-new c = room_put c.put.result c.args.path.now (parent_of c.args.path.now) _ c.args.self.now c.put.new.self c.put.ensures.ok
