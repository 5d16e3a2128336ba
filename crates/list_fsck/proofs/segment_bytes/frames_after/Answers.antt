use Rattle.std.proofs.Common.{refl}
use Rattle.disk_frame.proofs.PieceLaws.{scan_of_all, tail_of_all, bad_of_all}
use Rattle.list_fsck.proofs.SegmentLaws.{frames_told, frames_bad}
use Rattle.list_fsck.proofs.segment_bytes.frames_after.Goals as goal

pub returns-in-Ok-None : goal.returns-in-Ok-None
returns-in-Ok-None c =
    let frames = c.split_at.result.1.now in
    let ends = rw c.in-Ok-None.field-0-is at c.in-Ok-None.ensures.stop in
    let scans = scan_of_all c.args.header.start frames 0 0 c.new-scan.result c.scan_window.new.scan c.new-scan.ensures (λ bytes others. c.in-Ok-None.ensures.scans bytes others) in
    let tail = tail_of_all c.args.header.start frames 0 0 c.new-scan.result c.scan_window.new.scan c.new-scan.ensures (λ bytes others. c.in-Ok-None.ensures.scans bytes others) ends in
    frames_told c.args.bytes.now c.args.header.start c.args.header.epoch c.requires frames c.split_at.ensures.back c.scan_window.new.scan _ scans tail refl

pub returns-in-Ok-Some : goal.returns-in-Ok-Some
returns-in-Ok-Some c =
    let frames = c.split_at.result.1.now in
    let stop = rw c.in-Ok-Some.field-0-is at c.in-Ok-Some.ensures.stop in
    let bad = bad_of_all c.args.header.start frames 0 0 c.new-scan.result c.scan_window.new.scan c.new-scan.ensures
    (λ bytes others. c.in-Ok-Some.ensures.scans bytes others) c.in-Ok-Some.field-0-0 stop in
    frames_bad c.args.bytes.now c.args.header.start c.args.header.epoch c.requires frames c.split_at.ensures.back _ c.scan_window.new.scan.whole_length c.in-Ok-Some.field-0-0 bad refl
