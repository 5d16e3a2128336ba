use Rattle.std.proofs.Common.{◌≡◌, List, ℕ, subst}
use Rattle.std.specs.Prelude.{Some, None}
use Rattle.disk_segment.specs.Scans.{ScansFile}
use Rattle.disk_opening.specs.OpenSteps.{kind_by}
use Rattle.disk_opening.proofs.OpenFiles.{row_found, not_good, no_scan}
use Rattle.disk_opening.proofs.OpenJudged.{bad_judged, judged_by}
use Rattle.disk_opening.proofs.opening.read_row.Goals as goal

pub returns-in-Some-clause-told : goal.returns-in-Some-clause-told
returns-in-Some-clause-told g c = λ t.
    let seen = (g.D.DiskModel.view c.args.disk.now).seen in
    let f = rw c.in-Ok-Some.field-0-is at (c.in-Ok-Some.ensures.told t) in
    let found = row_found c.args.start f.0 c.in-Ok-Some.file f.2 c.args.last (Some c.in-Some.row) c.in-Some.ensures in
    judged_by seen c.args.start c.args.last f.0 found.0 c.in-Some.row (subst (λ (name : List ℕ). seen name ≡ Some f.0) c.requires.named f.1) found.1
    (g.D.DiskModel.view c.scan_file.new.disk).seen c.with_record.result (c.in-Ok-Some.ensures.disk t).keeps.seen (c.with_record.ensures.told (c.in-Ok-Some.ensures.call.tells.0 t))

pub returns-in-Ok-Some-clause-told : goal.returns-in-Ok-Some-clause-told
returns-in-Ok-Some-clause-told g c = λ t.
    let seen = (g.D.DiskModel.view c.args.disk.now).seen in
    let f = rw c.in-Ok-Some.field-0-is at (c.in-Ok-Some.ensures.told t) in
    let found = row_found c.args.start f.0 c.in-Ok-Some.file f.2 c.args.last None c.in-None.ensures in
    bad_judged seen c.args.start (kind_by c.args.last) c.args.name.now c.bad_file.result c.requires.named
    (not_good seen c.args.start c.args.last f.0 (subst (λ (name : List ℕ). seen name ≡ Some f.0) c.requires.named f.1) found) c.bad_file.ensures

pub returns-in-Ok-None-clause-told : goal.returns-in-Ok-None-clause-told
returns-in-Ok-None-clause-told g c = λ t.
    let seen = (g.D.DiskModel.view c.args.disk.now).seen in
    bad_judged seen c.args.start (kind_by c.args.last) c.args.name.now c.bad_file-in-Ok-None.result c.requires.named
    (no_scan seen c.args.start (kind_by c.args.last) (subst (λ (name : List ℕ). ScansFile c.args.start (seen name) 0 0 None) c.requires.named
    (rw c.in-Ok-None.field-0-is at (c.in-Ok-None.ensures.told t)))) c.bad_file-in-Ok-None.ensures
