use Rattle.std.proofs.Common.{sym, subst, Bool, rules}
use Rattle.std.specs.Prelude.{Result, IfOk, MatchBool}
use Rattle.base_disk.specs.Calls.{HasCause}
use Rattle.base_disk.specs.declared.disk.DiskFail.{DiskFail}
use Rattle.disk_segment.specs.Names.{name_of, Record}
use Rattle.disk_segment.specs.Stands.{IsRecordFile}
use Rattle.list_fsck.proofs.NumberLaws.{fine_right, fine_cause}
use Rattle.list_fsck.proofs.numbers.is_good_record.Goals as goal

pub returns-clause-good : goal.returns-clause-good
returns-clause-good g c = λ t.
    let seen = (g.D.DiskModel.view c.args.disk.now).seen in
    let file = seen (name_of c.args.start Record) in
    subst (λ (r : Result Bool DiskFail). IfOk r (λ good. MatchBool good (IsRecordFile file) (IsRecordFile file → ⊥))) (sym c.is_fine.ensures)
    (fine_right seen c.args.start c.get.result (c.get.ensures.record_ t))

pub returns-clause-call : goal.returns-clause-call
returns-clause-call g c = record {
  tells = search rules;
  cause =
      subst (λ (r : Result Bool DiskFail). HasCause (g.D.DiskModel.faults c.args.disk.now) (g.D.DiskModel.faults c.get.new.disk)
      (g.D.DiskModel.steady c.args.disk.now) (g.D.DiskModel.steady c.get.new.disk) r) (sym c.is_fine.ensures)
      (fine_cause _ _ _ _ c.get.result c.get.ensures.call.cause);
}
