use Rattle.std.proofs.Common.{List, ℕ, subst}
use Rattle.std.specs.Prelude.{OnOk}
use Rattle.base_disk.specs.Files.{Files}
use Rattle.disk_opening.specs.Opening.{IsBadRecordFile}
use Rattle.disk_opening.specs.Completing.{Completes}
use Rattle.disk_opening.proofs.MendLemmas.{mends_keeps}
use Rattle.disk_opening.proofs.CompleteLemmas.{read_then, completed_told, mended_quiet, mended_spares}
use Rattle.disk_opening.proofs.completing.complete_half_done.Goals as goal

pub returns-in-Ok-Some-clause-quiet : goal.returns-in-Ok-Some-clause-quiet
returns-in-Ok-Some-clause-quiet g c = λ t all. mended_quiet (g.D.DiskModel.view c.args.disk.now) (g.D.DiskModel.view c.first_bad_record.new.disk)
    (mends_keeps (g.D.DiskModel.view c.args.disk.now) (g.D.DiskModel.view c.first_bad_record.new.disk) (g.met.D.Disk.sound _ t)
    (c.first_bad_record.ensures.disk t).keeps all)

pub returns-in-Ok-Some-clause-spares : goal.returns-in-Ok-Some-clause-spares
returns-in-Ok-Some-clause-spares g c = λ t all. mended_spares (g.D.DiskModel.view c.args.disk.now) (g.D.DiskModel.view c.first_bad_record.new.disk)
    (mends_keeps (g.D.DiskModel.view c.args.disk.now) (g.D.DiskModel.view c.first_bad_record.new.disk) (g.met.D.Disk.sound _ t)
    (c.first_bad_record.ensures.disk t).keeps all)

pub returns-in-Ok-Some-clause-stable : goal.returns-in-Ok-Some-clause-stable
returns-in-Ok-Some-clause-stable g c = λ t all. (mends_keeps (g.D.DiskModel.view c.args.disk.now) (g.D.DiskModel.view c.first_bad_record.new.disk)
    (g.met.D.Disk.sound _ t) (c.first_bad_record.ensures.disk t).keeps all).stable

pub returns-in-Err-clause-quiet : goal.returns-in-Err-clause-quiet
returns-in-Err-clause-quiet g c = λ t all. mended_quiet (g.D.DiskModel.view c.args.disk.now) (g.D.DiskModel.view c.first_bad_record.new.disk)
    (mends_keeps (g.D.DiskModel.view c.args.disk.now) (g.D.DiskModel.view c.first_bad_record.new.disk) (g.met.D.Disk.sound _ t)
    (c.first_bad_record.ensures.disk t).keeps all)

pub returns-in-Err-clause-spares : goal.returns-in-Err-clause-spares
returns-in-Err-clause-spares g c = λ t all. mended_spares (g.D.DiskModel.view c.args.disk.now) (g.D.DiskModel.view c.first_bad_record.new.disk)
    (mends_keeps (g.D.DiskModel.view c.args.disk.now) (g.D.DiskModel.view c.first_bad_record.new.disk) (g.met.D.Disk.sound _ t)
    (c.first_bad_record.ensures.disk t).keeps all)

pub returns-in-Err-clause-stable : goal.returns-in-Err-clause-stable
returns-in-Err-clause-stable g c = λ t all. (mends_keeps (g.D.DiskModel.view c.args.disk.now) (g.D.DiskModel.view c.first_bad_record.new.disk)
    (g.met.D.Disk.sound _ t) (c.first_bad_record.ensures.disk t).keeps all).stable

pub returns-in-Ok-None-clause-quiet : goal.returns-in-Ok-None-clause-quiet
returns-in-Ok-None-clause-quiet g c = λ t all.
    mended_quiet (g.D.DiskModel.view c.args.disk.now) (g.D.DiskModel.view c.repair.new.disk)
    (read_then (g.D.DiskModel.view c.args.disk.now) (g.D.DiskModel.view c.first_bad_record.new.disk) (g.D.DiskModel.view c.repair.new.disk)
    (c.first_bad_record.ensures.disk t) (g.met.D.Disk.sound _ t) all
    (λ all1. c.repair.ensures.mends (c.first_bad_record.ensures.call.tells.0 t) all1))

pub returns-in-Ok-None-clause-spares : goal.returns-in-Ok-None-clause-spares
returns-in-Ok-None-clause-spares g c = λ t all.
    mended_spares (g.D.DiskModel.view c.args.disk.now) (g.D.DiskModel.view c.repair.new.disk)
    (read_then (g.D.DiskModel.view c.args.disk.now) (g.D.DiskModel.view c.first_bad_record.new.disk) (g.D.DiskModel.view c.repair.new.disk)
    (c.first_bad_record.ensures.disk t) (g.met.D.Disk.sound _ t) all
    (λ all1. c.repair.ensures.mends (c.first_bad_record.ensures.call.tells.0 t) all1))

pub returns-in-Ok-None-clause-stable : goal.returns-in-Ok-None-clause-stable
returns-in-Ok-None-clause-stable g c = λ t all.
    (read_then (g.D.DiskModel.view c.args.disk.now) (g.D.DiskModel.view c.first_bad_record.new.disk) (g.D.DiskModel.view c.repair.new.disk)
    (c.first_bad_record.ensures.disk t) (g.met.D.Disk.sound _ t) all
    (λ all1. c.repair.ensures.mends (c.first_bad_record.ensures.call.tells.0 t) all1)).stable

pub returns-in-Ok-None-clause-told : goal.returns-in-Ok-None-clause-told
returns-in-Ok-None-clause-told g c = λ t all.
    let t1 = c.first_bad_record.ensures.call.tells.0 t in
    let good : (name : List ℕ) → IsBadRecordFile (g.D.DiskModel.view c.args.disk.now).seen name → ⊥ = rw c.in-Ok-None.field-0-is at (c.in-Ok-None.ensures.bad t) in
    completed_told (g.D.DiskModel.view c.args.disk.now).seen (g.D.DiskModel.view c.repair.new.disk).seen c.completion_of.result c.repair.result
    c.completion_of.ensures.result c.completion_of.ensures.done
    (subst (λ (files : Files). OnOk c.repair.result (Completes files (g.D.DiskModel.view c.repair.new.disk).seen)) (c.first_bad_record.ensures.disk t).keeps.seen (c.repair.ensures.completes t1)) good
