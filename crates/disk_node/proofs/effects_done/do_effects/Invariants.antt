use Rattle.std.proofs.Common.{◌≡◌, ◌≤◌, take, drop, length}
use Rattle.disk_node.specs.Doing.{HasFrame}
use Rattle.disk_node.specs.Done.{HasRoom}
use Rattle.disk_node.proofs.DoneLaws.{IsUnderWay}
use Rattle.disk_node.proofs.effects_done.do_effects.Given as goal

-- the effects up to the loop's place are done, nothing is read, and those after have their frame
-- and room
abbrev pub invariant-loop-effect : goal.invariant-loop-effect
invariant-loop-effect g l = record {
  way : IsUnderWay (g.D.DiskModel.tells l.fn.disk) (g.D.DiskModel.tells l.disk) (g.D.DiskModel.view l.fn.disk) (g.D.DiskModel.view l.disk) l.fn.memory
      l.memory l.fn.table l.table l.request l.effects (take l.effect-index l.effects) (drop l.effect-index l.effects)
      (g.D.DiskModel.faults l.fn.disk) (g.D.DiskModel.faults l.disk) (g.D.DiskModel.steady l.fn.disk) (g.D.DiskModel.steady l.disk) (g.D.DiskModel.left l.fn.disk) (g.D.DiskModel.left l.disk);
  frame : HasFrame l.request l.ready.frame;
  room : HasRoom (drop l.effect-index l.effects) (length l.table) l.ready.room;
  shortages : g.D.DiskModel.shortages l.fn.disk ≤ g.D.DiskModel.shortages l.disk;
  unread : g.D.DiskModel.reads l.disk ≡ g.D.DiskModel.reads l.fn.disk;
}
