use Rattle.std.proofs.Common.{◌-◌, length}
use Rattle.disk_frame.proofs.PieceLaws.{ScansOn}
use Rattle.disk_frame.proofs.scanning.scan_window.Given as goal

-- the scan has gone on up to this place of the window
abbrev pub invariant-loop-cause : goal.invariant-loop-cause
invariant-loop-cause l = ScansOn l.first l.skip l.most l.window l.fn.scan l.scan l.at

-- how many bytes are left
abbrev pub decreases-loop-cause : goal.decreases-loop-cause
decreases-loop-cause l = length l.window - l.at
