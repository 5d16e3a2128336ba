use Rattle.std.proofs.Common.{List, ℕ, sym, subst}
use Rattle.base_files.specs.Answers.{FoundIn}
use Rattle.base_files.specs.declared.answers.GotRecord.TheVariants as got
use Rattle.disk_segment.specs.Names.{name_of, Record}
use Rattle.disk_segment.specs.declared.segment_row.SegmentRow.{SegmentRow}
use Rattle.disk_opening.specs.OpenSteps.{IsMarked}
use Rattle.disk_segment.proofs.AcceptLemmas.{record_name}
use Rattle.disk_opening.proofs.OpenFiles.{marked_found, marked_absent, bad_record}
use Rattle.disk_opening.proofs.opening.with_record.Goals as goal

pub returns-in-Found-clause-told : goal.returns-in-Found-clause-told
returns-in-Found-clause-told g c = λ t.
    let start = c.args.row.info.start in
    let seen = (g.D.DiskModel.view c.args.disk.now).seen in
    subst (λ (new : SegmentRow). IsMarked (seen (name_of start Record)) c.args.row new) (sym c.mark_row.ensures)
    (marked_found (seen (name_of start Record)) c.args.row c.if-row.false (name_of start Record) c.in-Found.epoch c.in-Found.end
    (subst (λ (name : List ℕ). FoundIn name (seen name) (got.Found c.in-Found.epoch c.in-Found.end)) (sym (record_name start)) (c.in-Found.ensures.record_ t)))

pub returns-in-Absent-clause-told : goal.returns-in-Absent-clause-told
returns-in-Absent-clause-told g c = λ t.
    let start = c.args.row.info.start in
    let seen = (g.D.DiskModel.view c.args.disk.now).seen in
    marked_absent (seen (name_of start Record)) c.args.row c.if-row.false c.requires.accepted
    (subst (λ (name : List ℕ). FoundIn name (seen name) got.Absent) (sym (record_name start)) (c.in-Absent.ensures.record_ t))

pub returns-in-BadFile-clause-told : goal.returns-in-BadFile-clause-told
returns-in-BadFile-clause-told g c = λ t.
    let start = c.args.row.info.start in
    let seen = (g.D.DiskModel.view c.args.disk.now).seen in
    let found = subst (λ (name : List ℕ). FoundIn name (seen name) (got.BadFile c.in-BadFile.name)) (sym (record_name start)) (c.in-BadFile.ensures.record_ t) in
    (found.0, bad_record (name_of start Record) c.in-BadFile.name (seen (name_of start Record)) found)
