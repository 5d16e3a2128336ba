use Rattle.std.proofs.Common.{ap, take, rules}
use Rattle.std.specs.Prelude.{map, string_bytes, IsOk}
use Rattle.base_disk.proofs.Causes.{cause_since, cause_fine}
use Rattle.disk_segment.proofs.SealLemmas.{carried, handed_on}
use Rattle.disk_opening.proofs.SyncLemmas.{begun, one_more, given_up_quiet, next_done, all_done, listed_there, listed_as, settled_as, settled_name, all_stable}
use Rattle.disk_opening.proofs.syncing.sync_segments.Goals as goal

pub loop-name-init : goal.loop-name-init
loop-name-init g c =
    let ok : IsOk c.list.result = search rules in
    begun (g.D.DiskModel.tells c.args.disk.now) (g.D.DiskModel.view c.args.disk.now) (λ t. g.met.D.Disk.sound _ t)
    (map string_bytes c.deref-name-items.result.now) (g.D.DiskModel.faults c.args.disk.now) (g.D.DiskModel.steady c.args.disk.now)
    (g.D.DiskModel.tells c.list.new.self) (g.D.DiskModel.view c.list.new.self) (g.D.DiskModel.faults c.list.new.self)
    (g.D.DiskModel.steady c.list.new.self) c.list.result c.list.ensures.call.tells (λ t. c.list.ensures.disk t)
    (λ t. listed_as _ _ _ (ap (map string_bytes) c.deref-name-items.ensures.value) (c.in_ok-names.ensures.names t)) c.list.ensures.call.cause ok

pub loop-name-preserved : goal.loop-name-preserved
loop-name-preserved g c =
    let ok : IsOk c.sync_one.result = search rules in
    one_more (g.D.DiskModel.tells c.args.disk.now) (g.D.DiskModel.view c.args.disk.now) (λ t. g.met.D.Disk.sound _ t)
    (map string_bytes c.deref-name-items.result.now) (g.D.DiskModel.faults c.args.disk.now) (g.D.DiskModel.steady c.args.disk.now)
    (g.D.DiskModel.tells c.loop-name.disk) (g.D.DiskModel.view c.loop-name.disk)
    (map string_bytes (take c.loop-name.name-index c.deref-name-items.result.now)) (g.D.DiskModel.faults c.loop-name.disk)
    (g.D.DiskModel.steady c.loop-name.disk) c.loop-name.invariant
    (g.D.DiskModel.tells c.sync_one.new.disk) (g.D.DiskModel.view c.sync_one.new.disk) (g.D.DiskModel.faults c.sync_one.new.disk)
    (g.D.DiskModel.steady c.sync_one.new.disk) c.sync_one.result c.sync_one.ensures.call.tells (λ t. c.sync_one.ensures.keeps t)
    c.sync_one.ensures.call.cause ok
    (string_bytes c.name-item.result) _ (next_done string_bytes c.deref-name-items.result.now c.loop-name.name-index c.name-item.result c.loop-name-test.true c.name-item.is)
    (λ t. settled_name (g.D.DiskModel.view c.sync_one.new.disk) _ _ c.as_str.ensures.value (c.in_ok-sync_one.ensures.settled t)) (λ t. c.in_ok-sync_one.ensures.spared t)

pub sync_one-requires : goal.sync_one-requires
sync_one-requires g c = λ tells.
    listed_there string_bytes c.deref-name-items.result.now c.loop-name.name-index c.name-item.result _ _ c.loop-name-test.true c.name-item.is
    (c.loop-name.invariant.listed (c.loop-name.invariant.tells_on.1 tells)) c.as_str.ensures.value

pub returns-in_err-sync_one-clause-call : goal.returns-in_err-sync_one-clause-call
returns-in_err-sync_one-clause-call g c = record {
  tells = search rules;
  cause =
      cause_since (g.D.DiskModel.faults c.args.disk.now) (g.D.DiskModel.faults c.loop-name.disk) (g.D.DiskModel.faults c.sync_one.new.disk)
      (g.D.DiskModel.steady c.args.disk.now) (g.D.DiskModel.steady c.loop-name.disk) (g.D.DiskModel.steady c.sync_one.new.disk)
      c.sync_one.result c.from_residual-in_err-sync_one.result c.loop-name.invariant.same c.loop-name.invariant.steady c.sync_one.ensures.call.cause
      (carried c.sync_one.result c.from_residual-in_err-sync_one.result c.in_err-sync_one.field-0.0 c.in_err-sync_one.was c.from_residual-in_err-sync_one.ensures.1)
      (handed_on c.sync_one.result c.from_residual-in_err-sync_one.result c.in_err-sync_one.field-0.0 c.in_err-sync_one.was c.from_residual-in_err-sync_one.ensures.1);
}

pub returns-in_err-sync_one-clause-quiet : goal.returns-in_err-sync_one-clause-quiet
returns-in_err-sync_one-clause-quiet g c =
    given_up_quiet (g.D.DiskModel.tells c.args.disk.now) (g.D.DiskModel.view c.args.disk.now) (λ t. g.met.D.Disk.sound _ t)
    (map string_bytes c.deref-name-items.result.now) (g.D.DiskModel.faults c.args.disk.now) (g.D.DiskModel.steady c.args.disk.now)
    (g.D.DiskModel.tells c.loop-name.disk) (g.D.DiskModel.view c.loop-name.disk)
    (map string_bytes (take c.loop-name.name-index c.deref-name-items.result.now)) (g.D.DiskModel.faults c.loop-name.disk)
    (g.D.DiskModel.steady c.loop-name.disk) c.loop-name.invariant
    (g.D.DiskModel.tells c.sync_one.new.disk) (g.D.DiskModel.view c.sync_one.new.disk) (g.D.DiskModel.faults c.sync_one.new.disk)
    (g.D.DiskModel.steady c.sync_one.new.disk) c.sync_one.result c.sync_one.ensures.call.tells (λ t. c.sync_one.ensures.keeps t)
    c.sync_one.ensures.call.cause

pub returns-clause-stable : goal.returns-clause-stable
returns-clause-stable g c = λ t.
    all_stable (g.D.DiskModel.view c.loop-name.disk) (g.met.D.Disk.sound _ (c.loop-name.invariant.tells_on.0 t)) (map string_bytes c.deref-name-items.result.now) (c.loop-name.invariant.listed t)
    (settled_as (g.D.DiskModel.view c.loop-name.disk) _ _ (all_done string_bytes c.deref-name-items.result.now c.loop-name.name-index c.loop-name-test.false) (c.loop-name.invariant.settled t))

pub returns-clause-call : goal.returns-clause-call
returns-clause-call g c = record {
  tells = search rules;
  cause =
      cause_fine (g.D.DiskModel.faults c.args.disk.now) (g.D.DiskModel.faults c.loop-name.disk) (g.D.DiskModel.steady c.args.disk.now)
      (g.D.DiskModel.steady c.loop-name.disk) _ c.loop-name.invariant.same c.loop-name.invariant.steady (λ failed. absurd (cc));
}
