use Rattle.std.proofs.Common.{sym, subst, arith, List, ℕ, rules}
use Rattle.std.specs.Prelude.{string_bytes, IsSome, IsOk}
use Rattle.list_fsck.proofs.Loop.{one_more, still_rests, is_there, next_done}
use Rattle.list_fsck.proofs.checking.check_names.Goals as goal

pub check_one-requires-clause-there : goal.check_one-requires-clause-there
check_one-requires-clause-there g c = λ t.
    let told = c.loop-name.invariant.tells_on.1 t in
    let v = g.D.DiskModel.view c.loop-name.disk in
    let first = is_there string_bytes c.args.names.now c.loop-name.name-index c.name-item.result (g.D.DiskModel.view c.args.disk.now).seen c.loop-name-test.true c.name-item.is (c.requires told) in
    subst (λ (n : List ℕ). IsSome (v.seen n)) (sym c.as_str.ensures.value) (rw (c.loop-name.invariant.rests told).keeps.seen first)

pub check_one-requires-clause-room : goal.check_one-requires-clause-room
check_one-requires-clause-room g c = omega (arith, c.loop-name.invariant.room, c.loop-name-test.true)

pub returns-in_err-check_one-clause-disk : goal.returns-in_err-check_one-clause-disk
returns-in_err-check_one-clause-disk g c =
    still_rests (g.D.DiskModel.tells c.args.disk.now) (g.D.DiskModel.view c.args.disk.now) (λ t. g.met.D.Disk.sound _ t) (g.D.DiskModel.faults c.args.disk.now) (g.D.DiskModel.steady c.args.disk.now)
    (g.D.DiskModel.tells c.loop-name.disk) (g.D.DiskModel.view c.loop-name.disk) _ c.loop-name.name-index c.loop-name.so_far
    (g.D.DiskModel.faults c.loop-name.disk) (g.D.DiskModel.steady c.loop-name.disk) c.loop-name.invariant
    (g.D.DiskModel.tells c.check_one.new.disk) (g.D.DiskModel.view c.check_one.new.disk) (g.D.DiskModel.faults c.check_one.new.disk)
    (g.D.DiskModel.steady c.check_one.new.disk) c.check_one.result c.check_one.ensures.call.tells (λ t. c.check_one.ensures.disk t)
    c.check_one.ensures.call.cause

pub loop-name-preserved : goal.loop-name-preserved
loop-name-preserved g c =
    let ok : IsOk c.check_one.result = search rules in
    one_more (g.D.DiskModel.tells c.args.disk.now) (g.D.DiskModel.view c.args.disk.now) (λ t. g.met.D.Disk.sound _ t) (g.D.DiskModel.faults c.args.disk.now) (g.D.DiskModel.steady c.args.disk.now)
    (g.D.DiskModel.tells c.loop-name.disk) (g.D.DiskModel.view c.loop-name.disk) _ c.loop-name.name-index c.loop-name.so_far
    (g.D.DiskModel.faults c.loop-name.disk) (g.D.DiskModel.steady c.loop-name.disk) c.loop-name.invariant
    (g.D.DiskModel.tells c.check_one.new.disk) (g.D.DiskModel.view c.check_one.new.disk) (g.D.DiskModel.faults c.check_one.new.disk)
    (g.D.DiskModel.steady c.check_one.new.disk) c.check_one.result c.check_one.ensures.call.tells (λ t. c.check_one.ensures.disk t)
    c.check_one.ensures.call.cause
    ok (string_bytes c.name-item.result) c.as_str.result.now _ c.check_one.new.so_far c.as_str.ensures.value
    (next_done string_bytes c.args.names.now c.loop-name.name-index c.name-item.result c.loop-name-test.true c.name-item.is)
    c.in_ok-check_one.ensures.adds
