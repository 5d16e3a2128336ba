use Rattle.disk_segment.proofs.SealLemmas.{carried}
use Rattle.journal_core.specs.Cuts.{cost_of}
use Rattle.journal_core.specs.Effects.{after_effect}
use Rattle.disk_effects.specs.Due.{effect_of}
use Rattle.disk_node.proofs.DoingCalls.{does_failed, ok_counts}
use Rattle.disk_node.proofs.DoingEffect.{rows_then, told_either, covers_fault, cut_carried, numbers_noted, held_then, can_apart, opened_then}
use Rattle.disk_node.proofs.doing.do_effect.Goals as goal

pub returns-in_err-do_calls-clause-told : goal.returns-in_err-do_calls-clause-told
returns-in_err-do_calls-clause-told g c = λ gs t due. told_either c.args.request.now c.args.effect gs c.args.table.now c.do_calls.new.table c.do_calls.ensures.noted.failed t due

pub returns-in_err-do_calls-clause-covers : goal.returns-in_err-do_calls-clause-covers
returns-in_err-do_calls-clause-covers g c = λ gs t due failed.
    covers_fault c.args.request.now c.args.effect gs c.args.table.now c.do_calls.new.table
    (c.do_calls.ensures.fault (carried c.do_calls.result c.from_residual.result c.in_err-do_calls.field-0.0 c.in_err-do_calls.was c.from_residual.ensures.1 failed)) t due

pub returns-in_err-do_calls-clause-counts : goal.returns-in_err-do_calls-clause-counts
returns-in_err-do_calls-clause-counts g c = λ t s can.
    (does_failed c.do_calls.result c.from_residual.result
    (c.do_calls.ensures.does t s (can_apart (g.D.DiskModel.view c.args.disk.now) c.args.memory.now c.args.table.now s c.args.request.now c.args.effect can))
    c.from_residual.ensures.0
    (carried c.do_calls.result c.from_residual.result c.in_err-do_calls.field-0.0 c.in_err-do_calls.was c.from_residual.ensures.1)).counts

pub returns-in_err-do_calls-clause-cut : goal.returns-in_err-do_calls-clause-cut
returns-in_err-do_calls-clause-cut g c = λ t s can.
    cut_carried (λ cut. cost_of cut s.segments (effect_of c.args.request.now c.args.effect)) s
    (after_effect s (effect_of c.args.request.now c.args.effect)) (g.D.DiskModel.left c.args.disk.now) c.do_calls.result c.from_residual.result
    (g.D.DiskModel.view c.do_calls.new.disk)
    (carried c.do_calls.result c.from_residual.result c.in_err-do_calls.field-0.0 c.in_err-do_calls.was c.from_residual.ensures.1)
    (c.do_calls.ensures.does t s (can_apart (g.D.DiskModel.view c.args.disk.now) c.args.memory.now c.args.table.now s c.args.request.now c.args.effect can)).cut

pub returns-clause-rows : goal.returns-clause-rows
returns-clause-rows g c = λ gs t due. rows_then c.args.request.now c.args.effect gs c.args.table.now c.do_calls.new.table t due c.in_ok-do_calls.ensures.noted.done

pub returns-clause-told : goal.returns-clause-told
returns-clause-told g c = λ gs t due. told_either c.args.request.now c.args.effect gs c.args.table.now c.do_calls.new.table c.do_calls.ensures.noted.failed t due

pub returns-clause-memory : goal.returns-clause-memory
returns-clause-memory g c = numbers_noted c.args.request.now c.args.effect c.args.memory.now c.note.new.memory (c.note.ensures.effect c.args.request.now) c.note.ensures.segments

pub returns-clause-held : goal.returns-clause-held
returns-clause-held g c = λ t s can.
    held_then (g.D.DiskModel.view c.args.disk.now) (g.D.DiskModel.view c.do_calls.new.disk) c.args.memory.now c.note.new.memory c.args.table.now
    c.do_calls.new.table s c.args.request.now c.args.effect can c.in_ok-do_calls.ensures.noted.done (returns-clause-memory g c)
    (c.in_ok-do_calls.ensures.does t s (can_apart (g.D.DiskModel.view c.args.disk.now) c.args.memory.now c.args.table.now s c.args.request.now
    c.args.effect can)).effect.done

pub returns-clause-opened : goal.returns-clause-opened
returns-clause-opened g c = λ t s o can.
    let does = c.in_ok-do_calls.ensures.does t s (can_apart (g.D.DiskModel.view c.args.disk.now) c.args.memory.now c.args.table.now s c.args.request.now c.args.effect can) in
    opened_then c.args.request.now c.args.effect (g.D.DiskModel.view c.args.disk.now) (g.D.DiskModel.view c.do_calls.new.disk) s.segments
    c.args.table.now c.do_calls.new.table can.held.told can.due c.in_ok-do_calls.ensures.noted.done does.others does.appends o

pub returns-clause-counts : goal.returns-clause-counts
returns-clause-counts g c = λ t s can cut.
    ok_counts ((c.in_ok-do_calls.ensures.does t s (can_apart (g.D.DiskModel.view c.args.disk.now) c.args.memory.now c.args.table.now s c.args.request.now c.args.effect can)).counts cut)
