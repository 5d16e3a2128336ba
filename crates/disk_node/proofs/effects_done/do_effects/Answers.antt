use Rattle.std.proofs.Common.{◌≡◌, ◌+◌, get_or, take, drop, length, arith, refl, ◌∙◌, rules}
use Rattle.std.proofs.lemmas.List.{drop_all}
use Rattle.std.specs.Prelude.{IsErr}
use Rattle.base_disk.proofs.Causes.{cause_since, cause_fine}
use Rattle.disk_segment.proofs.SealLemmas.{carried, handed_on}
use Rattle.disk_segment.proofs.Counts.{counted_as}
use Rattle.journal_step.specs.declared.durable_effect.DurableEffect.TheVariants.{Promise}
use Rattle.disk_node.proofs.DoneLaws.{begun, way_here, way_next, next_way}
use Rattle.base_disk.proofs.Rises.{rose_since}
use Rattle.disk_node.proofs.DoneRooms.{room_here, room_next}
use Rattle.disk_node.proofs.DoneStops.{failed_rows, failed_rest, can_here, run_moments, failed_leaves, failed_counts, failed_cut, ended_rest}
use Rattle.disk_node.proofs.DoneStops.{ended_moments, ended_held, ended_opened, on_err_always, among_carried, ended_counts}
use Rattle.disk_node.proofs.effects_done.do_effects.Goals as goal

pub loop-effect-init : goal.loop-effect-init
loop-effect-init g c = record {
  way = begun (λ t. g.met.D.Disk.sound _ t) c.requires.due;
  frame = c.requires.frame;
  room = c.requires.room;
  shortages = omega arith;
  unread = refl;
}

pub do_effect-requires-clause-held : goal.do_effect-requires-clause-held
do_effect-requires-clause-held g c = λ tells.
    let t = c.loop-effect.invariant.way.tells_on.1 tells in
    let able = c.requires.held t in
    let way = way_here (Promise 0) c.loop-effect-test.true c.loop-effect.invariant.way in
    ((way.so_far t able.0 able.1).state, can_here way t able.0 able.1)

pub returns-in_err-do_effect-clause-rows : goal.returns-in_err-do_effect-clause-rows
returns-in_err-do_effect-clause-rows g c = failed_rows (way_here (Promise 0) c.loop-effect-test.true c.loop-effect.invariant.way) c.do_effect.new.table c.do_effect.ensures.told

pub returns-in_err-do_effect-clause-rest : goal.returns-in_err-do_effect-clause-rest
returns-in_err-do_effect-clause-rest g c = failed_rest (way_here (Promise 0) c.loop-effect-test.true c.loop-effect.invariant.way) c.do_effect.new.memory c.in_err-do_effect.ensures.same

pub returns-in_err-do_effect-clause-moments : goal.returns-in_err-do_effect-clause-moments
returns-in_err-do_effect-clause-moments g c =
    run_moments (way_here (Promise 0) c.loop-effect-test.true c.loop-effect.invariant.way)
    (g.D.DiskModel.view c.do_effect.new.disk) c.do_effect.new.table (g.D.DiskModel.left c.do_effect.new.disk) c.do_effect.result c.do_effect.ensures.effect

pub returns-in_err-do_effect-clause-left : goal.returns-in_err-do_effect-clause-left
returns-in_err-do_effect-clause-left g c = λ t s can.
    on_err_always c.from_residual.result _
    (failed_leaves (way_here (Promise 0) c.loop-effect-test.true c.loop-effect.invariant.way)
    (g.D.DiskModel.view c.do_effect.new.disk) c.do_effect.new.table (g.D.DiskModel.left c.do_effect.new.disk) c.do_effect.result c.do_effect.ensures.left t s can
    (g.D.DiskModel.view c.do_effect.new.disk).seen (g.met.D.Disk.sound _
    (c.do_effect.ensures.call.tells.0 (c.loop-effect.invariant.way.tells_on.0 t))).seen_now)

pub returns-in_err-do_effect-clause-leaves : goal.returns-in_err-do_effect-clause-leaves
returns-in_err-do_effect-clause-leaves g c = λ t s can.
    on_err_always c.from_residual.result _
    (failed_leaves (way_here (Promise 0) c.loop-effect-test.true c.loop-effect.invariant.way)
    (g.D.DiskModel.view c.do_effect.new.disk) c.do_effect.new.table (g.D.DiskModel.left c.do_effect.new.disk) c.do_effect.result c.do_effect.ensures.left t s can)

pub returns-in_err-do_effect-clause-counts : goal.returns-in_err-do_effect-clause-counts
returns-in_err-do_effect-clause-counts g c = λ t s can keep cut.
    let same : c.from_residual.result ≡ c.do_effect.result = search rules in
    let err : IsErr c.do_effect.result = search rules in
    counted_as _ (g.D.DiskModel.left c.args.disk.now) (g.D.DiskModel.left c.do_effect.new.disk) c.do_effect.result c.from_residual.result same
    (failed_counts (way_here (Promise 0) c.loop-effect-test.true c.loop-effect.invariant.way)
    (g.D.DiskModel.view c.do_effect.new.disk) c.do_effect.new.table (g.D.DiskModel.left c.do_effect.new.disk) c.do_effect.result c.do_effect.ensures.effect c.do_effect.ensures.counts t s can keep
    cut err)

pub returns-in_err-do_effect-clause-cut : goal.returns-in_err-do_effect-clause-cut
returns-in_err-do_effect-clause-cut g c = λ t s can keep.
    among_carried s _ (g.D.DiskModel.left c.args.disk.now) c.do_effect.result c.from_residual.result (g.D.DiskModel.view c.do_effect.new.disk) c.do_effect.new.table
    (carried c.do_effect.result c.from_residual.result c.in_err-do_effect.field-0.0 c.in_err-do_effect.was c.from_residual.ensures.1)
    (failed_cut (way_here (Promise 0) c.loop-effect-test.true c.loop-effect.invariant.way)
    (g.D.DiskModel.view c.do_effect.new.disk) c.do_effect.new.table (g.D.DiskModel.left c.do_effect.new.disk) c.do_effect.result c.do_effect.ensures.effect c.do_effect.ensures.counts
    c.do_effect.ensures.cut c.do_effect.ensures.covers t s can keep)

pub loop-effect-preserved : goal.loop-effect-preserved
loop-effect-preserved g c = record {
  way =
      way_next (Promise 0) c.loop-effect-test.true
      (next_way (way_here (Promise 0) c.loop-effect-test.true c.loop-effect.invariant.way)
      c.do_effect.ensures.call.tells c.do_effect.ensures.effect c.do_effect.ensures.counts c.do_effect.ensures.call.cause
      (search rules) c.in_ok-do_effect.ensures.noted.done c.in_ok-do_effect.ensures.rows c.in_ok-do_effect.ensures.memory c.in_ok-do_effect.ensures.held c.in_ok-do_effect.ensures.opened);
  frame = c.do_effect.ensures.frame;
  room =
      room_next (get_or c.args.effects.now c.loop-effect.effect-index (Promise 0)) (drop (c.loop-effect.effect-index + 1) c.args.effects.now)
      (length c.loop-effect.table) (length c.do_effect.new.table) c.loop-effect.ready.room c.do_effect.new.ready.room
      (room_here c.args.effects.now c.loop-effect.effect-index (length c.loop-effect.table) c.loop-effect.ready.room (Promise 0)
      c.loop-effect-test.true c.loop-effect.invariant.room) c.do_effect.ensures.fewer c.do_effect.ensures.room;
  shortages = omega (arith, c.loop-effect.invariant.shortages, c.do_effect.ensures.call.shortage.later);
  unread = c.do_effect.ensures.call.reads ∙ c.loop-effect.invariant.unread;
}

pub do_effect-requires-clause-room : goal.do_effect-requires-clause-room
do_effect-requires-clause-room g c = λ puts.
    ((room_here c.args.effects.now c.loop-effect.effect-index (length c.loop-effect.table) c.loop-effect.ready.room (Promise 0) c.loop-effect-test.true c.loop-effect.invariant.room).0 puts).0

pub returns-in_err-do_effect-clause-call : goal.returns-in_err-do_effect-clause-call
returns-in_err-do_effect-clause-call g c = record {
  tells = search rules;
  reads = c.do_effect.ensures.call.reads ∙ c.loop-effect.invariant.unread;
  cause =
      cause_since (g.D.DiskModel.faults c.args.disk.now) (g.D.DiskModel.faults c.loop-effect.disk) (g.D.DiskModel.faults c.do_effect.new.disk)
      (g.D.DiskModel.steady c.args.disk.now) (g.D.DiskModel.steady c.loop-effect.disk) (g.D.DiskModel.steady c.do_effect.new.disk)
      c.do_effect.result c.from_residual.result c.loop-effect.invariant.way.same c.loop-effect.invariant.way.steady c.do_effect.ensures.call.cause
      (carried c.do_effect.result c.from_residual.result c.in_err-do_effect.field-0.0 c.in_err-do_effect.was c.from_residual.ensures.1)
      (handed_on c.do_effect.result c.from_residual.result c.in_err-do_effect.field-0.0 c.in_err-do_effect.was c.from_residual.ensures.1);
  shortage = record {
    later = omega (arith, c.loop-effect.invariant.shortages, c.do_effect.ensures.call.shortage.later);
    short = λ failed.
        rose_since (g.D.DiskModel.shortages c.args.disk.now) (g.D.DiskModel.shortages c.loop-effect.disk) (g.D.DiskModel.shortages c.do_effect.new.disk) c.loop-effect.invariant.shortages
        (c.do_effect.ensures.call.shortage.short (carried c.do_effect.result c.from_residual.result c.in_err-do_effect.field-0.0 c.in_err-do_effect.was c.from_residual.ensures.1 failed));
  };
}

pub returns-clause-call : goal.returns-clause-call
returns-clause-call g c = record {
  tells = search rules;
  reads = c.loop-effect.invariant.unread;
  cause =
      cause_fine (g.D.DiskModel.faults c.args.disk.now) (g.D.DiskModel.faults c.loop-effect.disk) (g.D.DiskModel.steady c.args.disk.now)
      (g.D.DiskModel.steady c.loop-effect.disk) _ c.loop-effect.invariant.way.same c.loop-effect.invariant.way.steady (λ failed. absurd (cc));
  shortage = record { later = c.loop-effect.invariant.shortages; short = λ failed. absurd (cc) };
}

pub returns-clause-rest : goal.returns-clause-rest
returns-clause-rest g c = ended_rest c.loop-effect.invariant.way (drop_all c.loop-effect.effect-index c.args.effects.now c.loop-effect-test.false)

pub returns-clause-moments : goal.returns-clause-moments
returns-clause-moments g c = ended_moments c.loop-effect.invariant.way (drop_all c.loop-effect.effect-index c.args.effects.now c.loop-effect-test.false)

pub returns-clause-held : goal.returns-clause-held
returns-clause-held g c = ended_held c.loop-effect.invariant.way (drop_all c.loop-effect.effect-index c.args.effects.now c.loop-effect-test.false)

pub returns-clause-opened : goal.returns-clause-opened
returns-clause-opened g c = λ t s o can ends. ended_opened c.loop-effect.invariant.way (drop_all c.loop-effect.effect-index c.args.effects.now c.loop-effect-test.false) t s can o ends

pub returns-clause-counts : goal.returns-clause-counts
returns-clause-counts g c = λ t s can keep cut. ended_counts c.loop-effect.invariant.way (drop_all c.loop-effect.effect-index c.args.effects.now c.loop-effect-test.false) t s can keep cut _ refl
