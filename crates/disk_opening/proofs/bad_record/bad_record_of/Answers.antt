use Rattle.std.proofs.Common.{inl, inr, ◌∙◌, sym}
use Rattle.disk_segment.proofs.AcceptLemmas.{record_name}
use Rattle.disk_opening.proofs.RecordLemmas.{found_epoch, absent_record, bad_record}
use Rattle.disk_opening.proofs.bad_record.bad_record_of.Goals as goal

pub returns-in-Found-clause-bad : goal.returns-in-Found-clause-bad
returns-in-Found-clause-bad g c = λ t. inr (c.in-Found.epoch, found_epoch c.args.start (g.D.DiskModel.view c.args.disk.now).seen c.in-Found.epoch c.in-Found.end (c.in-Found.ensures.record_ t))

pub returns-in-Absent-clause-bad : goal.returns-in-Absent-clause-bad
returns-in-Absent-clause-bad g c = λ t. inl (absent_record c.args.start (g.D.DiskModel.view c.args.disk.now).seen (c.in-Absent.ensures.record_ t))

pub returns-in-BadFile-clause-bad : goal.returns-in-BadFile-clause-bad
returns-in-BadFile-clause-bad g c = λ t. let bad = c.in-BadFile.ensures.record_ t
    in (bad.0 ∙ sym (record_name c.args.start), bad_record c.args.start (g.D.DiskModel.view c.args.disk.now).seen (bad.1, bad.2, bad.3))
