use Rattle.std.proofs.Common.{◌≡◌, ◌≤◌, ◌++◌, length, take, drop}
use Rattle.disk_frame.proofs.scanning.push_piece.Given as goal

-- those so far, and those that are still to come, no more than are wanted
abbrev pub invariant-loop-room : goal.invariant-loop-room
invariant-loop-room l = (l.bodies ++ take l.room (drop l.before l.entries.bodies) ≡ l.fn.bodies ++ take l.fn.most (drop l.fn.skip l.fn.entries.bodies)) × (l.room ≤ l.fn.most)

abbrev pub decreases-loop-room : goal.decreases-loop-room
decreases-loop-room l = length l.entries.bodies
