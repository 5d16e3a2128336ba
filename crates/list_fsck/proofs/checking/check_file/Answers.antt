use Rattle.std.proofs.Common.{sym, subst, List, ℕ}
use Rattle.std.specs.Prelude.{IsSome, Option}
use Rattle.disk_segment.specs.Names.{name_of, Record}
use Rattle.list_fsck.specs.declared.finding.Finding.{Finding}
use Rattle.list_fsck.specs.declared.file_role.FileRole.{FileRole}
use Rattle.list_fsck.specs.declared.file_role.FileRole.TheVariants as role
use Rattle.list_fsck.specs.Rules.{IsVerdict}
use Rattle.list_fsck.proofs.NameCases.{told_by_role, told_by_name, record_named, image_named}
use Rattle.list_fsck.proofs.SegmentLaws.{progress_judged, final_judged}
use Rattle.list_fsck.proofs.checking.check_file.Goals as goal

pub check_image-requires-clause-there : goal.check_image-requires-clause-there
check_image-requires-clause-there g c = λ t.
    subst (λ (n : List ℕ). IsSome ((g.D.DiskModel.view c.args.disk.now).seen n)) (image_named c.args.name.now c.args.role c.requires.named c.in-Image.txid c.in-Image.is) (c.requires.there t)

pub returns-in-Number-clause-found : goal.returns-in-Number-clause-found
returns-in-Number-clause-found g c = λ t. told_by_role (g.D.DiskModel.view c.args.disk.now).seen c.args.before c.args.name.now c.args.role _
    c.check_number.result c.in-Number.is (c.check_number.ensures.found t)

pub returns-in-Record-clause-found : goal.returns-in-Record-clause-found
returns-in-Record-clause-found g c = λ t.
    told_by_name (g.D.DiskModel.view c.args.disk.now).seen c.args.before c.args.name.now (name_of c.in-Record.start Record) c.args.role _ c.check_record.result c.in-Record.is
    (record_named c.args.name.now c.args.role c.requires.named c.in-Record.start c.in-Record.is) (c.check_record.ensures.found t)

pub returns-in_ok-read-in-InProgress-clause-found : goal.returns-in_ok-read-in-InProgress-clause-found
returns-in_ok-read-in-InProgress-clause-found g c = λ t.
    let seen = (g.D.DiskModel.view c.args.disk.now).seen in
    subst (λ (r : FileRole). IsVerdict seen c.args.before c.args.name.now r c.judge_progress.result) (sym c.in-InProgress.is)
    (subst (λ (f : Option Finding). IsVerdict seen c.args.before c.args.name.now (role.InProgress c.in-InProgress.start) f) (sym c.judge_progress.ensures)
    (progress_judged seen c.args.before c.args.name.now c.in_ok-read-in-InProgress.read c.in-InProgress.start (c.in_ok-read-in-InProgress.ensures.read t)))

pub returns-in_ok-read-in-Final-clause-found : goal.returns-in_ok-read-in-Final-clause-found
returns-in_ok-read-in-Final-clause-found g c = λ t.
    let seen = (g.D.DiskModel.view c.args.disk.now).seen in
    subst (λ (r : FileRole). IsVerdict seen c.args.before c.args.name.now r c.judge_final.result) (sym c.in-Final.is)
    (subst (λ (f : Option Finding). IsVerdict seen c.args.before c.args.name.now (role.Final c.in-Final.start c.in-Final.last) f) (sym c.judge_final.ensures)
    (final_judged seen c.args.before c.args.name.now c.in_ok-read-in-Final.read c.in-Final.start c.in-Final.last (c.in_ok-read-in-Final.ensures.read t)))

pub returns-in-Image-clause-found : goal.returns-in-Image-clause-found
returns-in-Image-clause-found g c = λ t. told_by_role (g.D.DiskModel.view c.args.disk.now).seen c.args.before c.args.name.now c.args.role _
    c.check_image.result c.in-Image.is (c.check_image.ensures.found t)

pub returns-in-Digest-clause-found : goal.returns-in-Digest-clause-found
returns-in-Digest-clause-found g c = λ t. told_by_role (g.D.DiskModel.view c.args.disk.now).seen c.args.before c.args.name.now c.args.role _
    c.check_digest.result c.in-Digest.is (c.check_digest.ensures.found t)
