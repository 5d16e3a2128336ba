use Rattle.std.proofs.Common.{inr, sym, refl, rules, ◌∙◌}
use Rattle.disk_segment.proofs.SealLemmas.{carried}
use Rattle.disk_files.proofs.OneCall.{on_ok_always}
use Rattle.disk_effects.proofs.ApplyLaws.{due_in_range}
use Rattle.disk_node.proofs.DoingCalls.{does_failed}
use Rattle.disk_node.proofs.DoingRows.{no_place}
use Rattle.disk_node.proofs.DoingEffect.{done_before, done_after, failed_after, fault_before, fault_after}
use Rattle.disk_node.proofs.doing.do_calls.Goals as goal

-- ## Noted before the calls
pub note_row-requires-clause-range : goal.note_row-requires-clause-range
note_row-requires-clause-range g c = due_in_range c.args.request.now c.args.effect c.requires.due.0 c.args.table.now c.requires.due.2

pub note_row-requires-clause-place : goal.note_row-requires-clause-place
note_row-requires-clause-place g c = no_place c.args.request.now c.args.effect (sym c.puts_row.ensures ∙ c.if-puts_row.true)

pub call_disk-requires-clause-due : goal.call_disk-requires-clause-due
call_disk-requires-clause-due g c = record { rows = c.args.table.now; segments = c.requires.due.0; sound = c.as_slice-rows.ensures.sound; told = c.requires.due.1; due = c.requires.due.2 }

pub call_disk-requires-clause-can : goal.call_disk-requires-clause-can
call_disk-requires-clause-can g c = λ t. let can = c.requires.can t in (c.args.table.now, can.0, can.1)

pub returns-then-puts_row-clause-noted : goal.returns-then-puts_row-clause-noted
returns-then-puts_row-clause-noted g c = record { done = on_ok_always c.call_disk.result _ c.note_row.ensures.rows; failed = inr c.note_row.ensures.rows }

pub returns-then-puts_row-clause-fault : goal.returns-then-puts_row-clause-fault
returns-then-puts_row-clause-fault g c = λ failed.
    fault_before c.args.request.now c.args.effect c.args.table.now c.note_row.new.table (sym c.puts_row.ensures ∙ c.if-puts_row.true) c.note_row.ensures.rows

pub returns-then-puts_row-clause-does : goal.returns-then-puts_row-clause-does
returns-then-puts_row-clause-does g c = c.call_disk.ensures.does c.args.table.now

pub returns-then-puts_row-clause-left : goal.returns-then-puts_row-clause-left
returns-then-puts_row-clause-left g c = λ t s can.
    done_before can (g.met.D.Disk.sound _ (c.call_disk.ensures.call.tells.0 t)) (c.call_disk.ensures.does c.args.table.now t s can)
    (sym c.puts_row.ensures ∙ c.if-puts_row.true) c.note_row.ensures.rows

-- ## Noted after the calls
pub call_disk-requires-else-puts_row-clause-due : goal.call_disk-requires-else-puts_row-clause-due
call_disk-requires-else-puts_row-clause-due g c =
    record { rows = c.args.table.now; segments = c.requires.due.0; sound = c.as_slice-rows.ensures.sound; told = c.requires.due.1; due = c.requires.due.2 }

pub call_disk-requires-else-puts_row-clause-can : goal.call_disk-requires-else-puts_row-clause-can
call_disk-requires-else-puts_row-clause-can g c = λ t. let can = c.requires.can t in (c.args.table.now, can.0, can.1)

pub returns-in_err-place-clause-fault : goal.returns-in_err-place-clause-fault
returns-in_err-place-clause-fault g c = λ failed. fault_after c.args.request.now c.args.effect c.args.table.now (sym c.puts_row.ensures ∙ c.if-puts_row.false)

pub returns-in_err-place-clause-does : goal.returns-in_err-place-clause-does
returns-in_err-place-clause-does g c = λ t s can.
    does_failed c.call_disk-else-puts_row.result c.from_residual.result (c.call_disk-else-puts_row.ensures.does c.args.table.now t s can) c.from_residual.ensures.0
    (carried c.call_disk-else-puts_row.result c.from_residual.result c.in_err-place.field-0.0 c.in_err-place.was c.from_residual.ensures.1)

pub returns-in_err-place-clause-left : goal.returns-in_err-place-clause-left
returns-in_err-place-clause-left g c = λ t s can.
    failed_after can (g.met.D.Disk.sound _ (c.call_disk-else-puts_row.ensures.call.tells.0 t)) (c.call_disk-else-puts_row.ensures.does c.args.table.now t s can)
    (sym c.puts_row.ensures ∙ c.if-puts_row.false) refl

pub note_row-requires-else-puts_row-clause-range : goal.note_row-requires-else-puts_row-clause-range
note_row-requires-else-puts_row-clause-range g c = due_in_range c.args.request.now c.args.effect c.requires.due.0 c.args.table.now c.requires.due.2

pub returns-in_ok-place-clause-left : goal.returns-in_ok-place-clause-left
returns-in_ok-place-clause-left g c = λ t s can.
    done_after can (g.met.D.Disk.sound _ (c.call_disk-else-puts_row.ensures.call.tells.0 t)) (c.call_disk-else-puts_row.ensures.does c.args.table.now t s can)
    (search rules) c.note_row-else-puts_row.ensures.rows
