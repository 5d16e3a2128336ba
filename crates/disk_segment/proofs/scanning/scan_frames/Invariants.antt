use Rattle.std.proofs.Common.{◌-◌}
use Rattle.disk_segment.proofs.ScanLoop.{IsScanning, windows_left}
use Rattle.disk_segment.proofs.scanning.scan_frames.Given as goal

-- the scan has gone on, and the disk rests
abbrev pub invariant-loop-is_long : goal.invariant-loop-is_long
invariant-loop-is_long g l = IsScanning (g.D.DiskModel.tells l.fn.disk) (g.D.DiskModel.tells l.disk) (g.D.DiskModel.view l.fn.disk)
    (g.D.DiskModel.view l.disk) (g.D.DiskModel.faults l.fn.disk) (g.D.DiskModel.faults l.disk) (g.D.DiskModel.shortages l.fn.disk)
    (g.D.DiskModel.shortages l.disk) (g.D.DiskModel.steady l.fn.disk) (g.D.DiskModel.steady l.disk)
    l.asked.name.now l.asked.start l.asked.skip l.asked.most l.size l.scan

-- a window takes frames, or is followed by one of all that is left
abbrev pub decreases-loop-is_long : goal.decreases-loop-is_long
decreases-loop-is_long g l = windows_left (l.size - l.scan.whole_length) l.is_long
