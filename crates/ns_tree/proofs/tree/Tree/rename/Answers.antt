use Rattle.std.proofs.Common.{◌∙◌}
use Rattle.ns_tree.proofs.Treed.{path_rooted}
use Rattle.ns_tree.proofs.Puts.{room_source, room_made, room_alone, room_renamed}
use Rattle.ns_tree.proofs.tree.Tree.rename.Goals as goal

pub move_branch-requires-clause-there : goal.move_branch-requires-clause-there
move_branch-requires-clause-there c =
    room_source c.args.src.now c.args.dst.now c.args.self.now c.make_room.new.self c.in_ok-make_room.ensures.old c.in_ok-make_room.ensures.new
    c.requires.apart c.requires.there

pub move_branch-requires-clause-room : goal.move_branch-requires-clause-room
move_branch-requires-clause-room c =
    room_made c.args.src.now c.args.dst.now c.args.self.now c.make_room.new.self c.in_ok-make_room.ensures.old c.in_ok-make_room.ensures.new

pub move_branch-requires-clause-alone : goal.move_branch-requires-clause-alone
move_branch-requires-clause-alone c =
    room_alone c.args.src.now c.args.dst.now c.args.self.now c.make_room.new.self c.in_ok-make_room.ensures.old c.in_ok-make_room.ensures.new
    (path_rooted c.args.dst.now c.requires.dst_path).0 c.requires.alone

pub returns-clause-ok : goal.returns-clause-ok
returns-clause-ok c =
    c.move_branch.ensures ∙ room_renamed c.args.src.now c.args.dst.now c.args.self.now c.make_room.new.self c.in_ok-make_room.ensures.old c.in_ok-make_room.ensures.new
    c.requires.order c.requires.apart
