use Rattle.disk_frame.proofs.PieceLaws.{scan_of_all, tail_of_all, bad_of_all}
use Rattle.disk_frame.proofs.scanning.scan.Goals as goal

pub returns-in-Ok-None : goal.returns-in-Ok-None
returns-in-Ok-None c =
    let ends = rw c.in-Ok-None.field-0-is at c.in-Ok-None.ensures.stop in (
      scan_of_all c.args.first c.args.bytes.now c.args.skip c.args.most c.new-scan.result c.scan_window.new.scan c.new-scan.ensures (λ bytes others. c.in-Ok-None.ensures.scans bytes others),
      tail_of_all c.args.first c.args.bytes.now c.args.skip c.args.most c.new-scan.result c.scan_window.new.scan c.new-scan.ensures (λ bytes others. c.in-Ok-None.ensures.scans bytes others) ends,
    )

pub returns-in-Ok-Some : goal.returns-in-Ok-Some
returns-in-Ok-Some c =
    bad_of_all c.args.first c.args.bytes.now c.args.skip c.args.most c.new-scan.result c.scan_window.new.scan c.new-scan.ensures (λ bytes others. c.in-Ok-Some.ensures.scans bytes others)
    c.in-Ok-Some.cause (rw c.in-Ok-Some.field-0-is at c.in-Ok-Some.ensures.stop)
