use Rattle.std.proofs.Common.{sym, ap, subst, take, List, ℕ, rules}
use Rattle.std.specs.Prelude.{map, string_bytes, IsSome, IsOk}
use Rattle.disk_opening.specs.Completing.{IsWay, IsProgress, Clears}
use Rattle.base_disk.proofs.Causes.{cause_since, cause_fine}
use Rattle.disk_segment.proofs.SealLemmas.{carried, handed_on}
use Rattle.disk_opening.proofs.SyncLemmas.{next_done, all_done, listed_as}
use Rattle.disk_opening.proofs.TurnLemmas.{turn}
use Rattle.disk_opening.proofs.ClearLemmas.{begun, one_more, next_there, finals_so_far, given_up_mends, all_cleared, ways_apart, final_no_way, final_no_progress}
use Rattle.disk_opening.proofs.settling.settle_all.Goals as goal

pub loop-name-init : goal.loop-name-init
loop-name-init g c =
    let ok : IsOk c.list.result = search rules in
    begun IsWay IsProgress ways_apart (g.D.DiskModel.tells c.args.disk.now) (g.D.DiskModel.view c.args.disk.now) (λ t. g.met.D.Disk.sound _ t)
    (map string_bytes c.deref-name-items.result.now) (g.D.DiskModel.faults c.args.disk.now) (g.D.DiskModel.steady c.args.disk.now)
    (g.D.DiskModel.tells c.list.new.self) (g.D.DiskModel.view c.list.new.self) (g.D.DiskModel.faults c.list.new.self)
    (g.D.DiskModel.steady c.list.new.self) c.list.result c.list.ensures.call.tells (λ t. c.list.ensures.disk t)
    (λ t. listed_as _ _ _ (ap (map string_bytes) c.deref-name-items.ensures.value) (c.in_ok-names.ensures.names t)) c.list.ensures.call.cause ok

pub loop-name-preserved : goal.loop-name-preserved
loop-name-preserved g c =
    let ok : IsOk c.settle_one.result = search rules in
    one_more IsWay IsProgress ways_apart (g.D.DiskModel.tells c.args.disk.now) (g.D.DiskModel.view c.args.disk.now) (λ t. g.met.D.Disk.sound _ t)
    (map string_bytes c.deref-name-items.result.now) (g.D.DiskModel.faults c.args.disk.now) (g.D.DiskModel.steady c.args.disk.now)
    (g.D.DiskModel.tells c.loop-name.disk) (g.D.DiskModel.view c.loop-name.disk)
    (map string_bytes (take c.loop-name.name-index c.deref-name-items.result.now)) (g.D.DiskModel.faults c.loop-name.disk)
    (g.D.DiskModel.steady c.loop-name.disk) c.loop-name.invariant
    (g.D.DiskModel.tells c.settle_one.new.disk) (g.D.DiskModel.view c.settle_one.new.disk) (g.D.DiskModel.faults c.settle_one.new.disk)
    (g.D.DiskModel.steady c.settle_one.new.disk) c.settle_one.result c.settle_one.ensures.call.tells (λ t. c.settle_one.ensures.mends t)
    c.settle_one.ensures.call.cause ok
    (string_bytes c.name-item.result) _ (next_done string_bytes c.deref-name-items.result.now c.loop-name.name-index c.name-item.result c.loop-name-test.true c.name-item.is)
    (λ t. subst (λ (n : List ℕ). Clears IsWay IsProgress n (g.D.DiskModel.view c.loop-name.disk).seen (g.D.DiskModel.view c.settle_one.new.disk).seen)
    c.as_str.ensures.value (c.in_ok-settle_one.ensures.clears t))

pub settle_one-requires-clause-finals : goal.settle_one-requires-clause-finals
settle_one-requires-clause-finals g c = λ t.
    finals_so_far IsWay IsProgress ways_apart (g.D.DiskModel.tells c.args.disk.now) (g.D.DiskModel.view c.args.disk.now) (λ t. g.met.D.Disk.sound _ t)
    (map string_bytes c.deref-name-items.result.now) (g.D.DiskModel.faults c.args.disk.now) (g.D.DiskModel.steady c.args.disk.now)
    (g.D.DiskModel.tells c.loop-name.disk) (g.D.DiskModel.view c.loop-name.disk)
    (map string_bytes (take c.loop-name.name-index c.deref-name-items.result.now)) (g.D.DiskModel.faults c.loop-name.disk)
    (g.D.DiskModel.steady c.loop-name.disk) c.loop-name.invariant
    c.args.finals.now t final_no_way final_no_progress c.requires

pub settle_one-requires-clause-there : goal.settle_one-requires-clause-there
settle_one-requires-clause-there g c = λ t way.
    subst (λ (n : List ℕ). IsSome ((g.D.DiskModel.view c.loop-name.disk).seen n)) (sym c.as_str.ensures.value)
    (next_there IsWay IsProgress ways_apart (g.D.DiskModel.tells c.args.disk.now) (g.D.DiskModel.view c.args.disk.now) (λ t. g.met.D.Disk.sound _ t)
    (map string_bytes c.deref-name-items.result.now) (g.D.DiskModel.faults c.args.disk.now) (g.D.DiskModel.steady c.args.disk.now)
    (g.D.DiskModel.tells c.loop-name.disk) (g.D.DiskModel.view c.loop-name.disk)
    (map string_bytes (take c.loop-name.name-index c.deref-name-items.result.now)) (g.D.DiskModel.faults c.loop-name.disk)
    (g.D.DiskModel.steady c.loop-name.disk) c.loop-name.invariant
    (string_bytes c.name-item.result) t (turn string_bytes c.deref-name-items.result.now c.loop-name.name-index c.name-item.result c.loop-name-test.true c.name-item.is)
    (ways_apart (string_bytes c.name-item.result) (subst (λ (n : List ℕ). IsWay n) c.as_str.ensures.value way)))

pub returns-in_err-settle_one-clause-call : goal.returns-in_err-settle_one-clause-call
returns-in_err-settle_one-clause-call g c = record {
  tells = search rules;
  cause =
      cause_since (g.D.DiskModel.faults c.args.disk.now) (g.D.DiskModel.faults c.loop-name.disk) (g.D.DiskModel.faults c.settle_one.new.disk)
      (g.D.DiskModel.steady c.args.disk.now) (g.D.DiskModel.steady c.loop-name.disk) (g.D.DiskModel.steady c.settle_one.new.disk)
      c.settle_one.result c.from_residual-in_err-settle_one.result c.loop-name.invariant.same c.loop-name.invariant.steady c.settle_one.ensures.call.cause
      (carried c.settle_one.result c.from_residual-in_err-settle_one.result c.in_err-settle_one.field-0.0 c.in_err-settle_one.was c.from_residual-in_err-settle_one.ensures.1)
      (handed_on c.settle_one.result c.from_residual-in_err-settle_one.result c.in_err-settle_one.field-0.0 c.in_err-settle_one.was c.from_residual-in_err-settle_one.ensures.1);
}

pub returns-in_err-settle_one-clause-mends : goal.returns-in_err-settle_one-clause-mends
returns-in_err-settle_one-clause-mends g c =
    given_up_mends IsWay IsProgress ways_apart (g.D.DiskModel.tells c.args.disk.now) (g.D.DiskModel.view c.args.disk.now)
    (λ t. g.met.D.Disk.sound _ t) (map string_bytes c.deref-name-items.result.now) (g.D.DiskModel.faults c.args.disk.now)
    (g.D.DiskModel.steady c.args.disk.now)
    (g.D.DiskModel.tells c.loop-name.disk) (g.D.DiskModel.view c.loop-name.disk)
    (map string_bytes (take c.loop-name.name-index c.deref-name-items.result.now)) (g.D.DiskModel.faults c.loop-name.disk)
    (g.D.DiskModel.steady c.loop-name.disk) c.loop-name.invariant
    (g.D.DiskModel.tells c.settle_one.new.disk) (g.D.DiskModel.view c.settle_one.new.disk) (g.D.DiskModel.faults c.settle_one.new.disk)
    (g.D.DiskModel.steady c.settle_one.new.disk) c.settle_one.result c.settle_one.ensures.call.tells (λ t. c.settle_one.ensures.mends t)
    c.settle_one.ensures.call.cause

pub returns-clause-clears : goal.returns-clause-clears
returns-clause-clears g c = λ t.
    all_cleared IsWay IsProgress ways_apart (g.D.DiskModel.tells c.args.disk.now) (g.D.DiskModel.view c.args.disk.now) (λ t. g.met.D.Disk.sound _ t)
    (map string_bytes c.deref-name-items.result.now) (g.D.DiskModel.faults c.args.disk.now) (g.D.DiskModel.steady c.args.disk.now)
    (g.D.DiskModel.tells c.loop-name.disk) (g.D.DiskModel.view c.loop-name.disk)
    (map string_bytes (take c.loop-name.name-index c.deref-name-items.result.now)) (g.D.DiskModel.faults c.loop-name.disk)
    (g.D.DiskModel.steady c.loop-name.disk) c.loop-name.invariant
    (all_done string_bytes c.deref-name-items.result.now c.loop-name.name-index c.loop-name-test.false) t

pub returns-clause-call : goal.returns-clause-call
returns-clause-call g c = record {
  tells = search rules;
  cause =
      cause_fine (g.D.DiskModel.faults c.args.disk.now) (g.D.DiskModel.faults c.loop-name.disk) (g.D.DiskModel.steady c.args.disk.now)
      (g.D.DiskModel.steady c.loop-name.disk) _ c.loop-name.invariant.same c.loop-name.invariant.steady (λ failed. absurd (cc));
}
