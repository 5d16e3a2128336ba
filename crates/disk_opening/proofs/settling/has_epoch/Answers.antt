use Rattle.std.proofs.Common.{refl}
use Rattle.disk_opening.proofs.RecordLemmas.{found_epoch, epoch_found, epoch_absent, epoch_bad, ok_told, err_told}
use Rattle.disk_opening.proofs.settling.has_epoch.Goals as goal
use Rattle.disk_opening.proofs.settling.has_epoch.Goals.{in-Found, in-Absent, in-BadFile, in-DiskFault, in-OutOfMemory}

pub returns-clause-value : goal.returns-clause-value
returns-clause-value g c = λ t.
    let files = (g.D.DiskModel.view c.args.disk.now).seen in
    elim c.match-get.branch [
      | in-Found w ↦ ok_told c.match-get.result _ _ _ w.result-is
          (epoch_found c.args.start files w.in-Found.accepted c.args.epoch _ refl (found_epoch c.args.start files w.in-Found.accepted w.in-Found.end (w.in-Found.ensures.record_ t)))
      | in-Absent w ↦ ok_told c.match-get.result _ _ _ w.result-is (epoch_absent c.args.start files c.args.epoch (w.in-Absent.ensures.record_ t))
      | in-BadFile w ↦ ok_told c.match-get.result _ _ _ w.result-is
          (let bad = w.in-BadFile.ensures.record_ t in epoch_bad c.args.start files c.args.epoch (bad.1, bad.2, bad.3))
      | in-DiskFault w ↦ err_told c.match-get.result _ _ _ w.result-is
      | in-OutOfMemory w ↦ err_told c.match-get.result _ _ _ w.result-is
    ]
