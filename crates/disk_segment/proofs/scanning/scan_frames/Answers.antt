use Rattle.std.proofs.Common.{drop}
use Rattle.disk_frame.specs.declared.frame_cause.FrameCause.{FrameCause}
use Rattle.disk_frame.specs.Faults.{HaveBadFrame}
use Rattle.disk_segment.proofs.ScanLoop.{begun, told_at_first}
use Rattle.disk_segment.proofs.scanning.scan_frames.Goals as goal

pub loop-is_long-init : goal.loop-is_long-init
loop-is_long-init g c =
    begun (g.D.DiskModel.tells c.args.disk.now) (g.D.DiskModel.view c.args.disk.now) (g.D.DiskModel.faults c.args.disk.now)
    (g.D.DiskModel.shortages c.args.disk.now) (g.D.DiskModel.steady c.args.disk.now) c.args.asked.now.name.now c.args.asked.now.start
    c.args.asked.now.skip c.args.asked.now.most c.args.size
    c.new-scan.result c.new-scan.ensures c.requires.limit c.requires.header

pub returns-in-Bad-clause-told : goal.returns-in-Bad-clause-told
returns-in-Bad-clause-told g c = λ t bytes there long.
    let bad =
    told_at_first (g.D.DiskModel.tells c.args.disk.now) (g.D.DiskModel.view c.args.disk.now) (λ t. g.met.D.Disk.sound _ t)
    (g.D.DiskModel.faults c.args.disk.now) (g.D.DiskModel.shortages c.args.disk.now) (g.D.DiskModel.steady c.args.disk.now)
    c.args.asked.now.name.now c.args.asked.now.start c.args.asked.now.skip c.args.asked.now.most c.args.size
    (g.D.DiskModel.tells c.loop-is_long.disk) (g.D.DiskModel.view c.loop-is_long.disk) (g.D.DiskModel.faults c.loop-is_long.disk)
    (g.D.DiskModel.shortages c.loop-is_long.disk) (g.D.DiskModel.steady c.loop-is_long.disk) c.loop-is_long.scan c.loop-is_long.invariant
    (λ bytes. (x : FrameCause) × HaveBadFrame c.args.asked.now.start (drop 24 bytes) c.scan_next.new.scan.whole_length x)
    (λ t bytes there long scan. rw c.in-Bad.is at (c.in_ok-scan_next.ensures.told t bytes there long scan)) t bytes there long in
    (c.scan_next.new.scan.whole_length, bad.0, bad.1)
