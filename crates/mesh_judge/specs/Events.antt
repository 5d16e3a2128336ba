-- Entries of a run as events of the journal world, which tell what was done and not what was
-- replied.
use Rattle.std.specs.Prelude.{ℕ, zero, suc, Bool, true, false, Option, Some, None}
use Rattle.journal_core.specs.declared.request.Request.{Request}
use Rattle.run_safety.specs.declared.event.Fate.TheVariants as fate
use Rattle.run_safety.specs.declared.event.Event.{Event}
use Rattle.run_safety.specs.declared.event.Event.TheVariants as event
use Rattle.journal_history.specs.Entries.{Way, Heard, Muted, Late, Move, Answer, Stop, Kill, Restart, Entry}
use Rattle.journal_history.specs.Moving.{epoch_of}
use Rattle.mesh_judge.specs.declared.moved.Moved.{Moved}

abbrev pub call_event : ℕ → ℕ → Way → Request → Event
call_event node caller Heard r = event.Call caller node r fate.Heard
call_event node caller Muted r = event.Call caller node r fate.Muted
call_event node caller Late r = event.Late caller node r None

abbrev pub stop_event : ℕ → ℕ → Bool → Request → ℕ → Event
stop_event node caller false r keep = event.Call caller node r (fate.Stopped keep)
stop_event node caller true r keep = event.Late caller node r (Some keep)

abbrev pub event_at : ℕ → Move → Event
event_at node (Answer caller way r reply) = call_event node caller way r
event_at node (Stop caller late r keep) = stop_event node caller late r keep
event_at node Kill = event.Kill node
event_at node Restart = event.Restart node

abbrev pub event_of : Entry → Event
event_of e = event_at e.node e.move

-- the epoch under which the node moved; kills, restarts and stops after no effect are under none
abbrev pub epoch_moved : Move → Option ℕ
epoch_moved (Answer caller way r reply) = epoch_of r
epoch_moved (Stop caller late r zero) = None
epoch_moved (Stop caller late r (suc kept)) = epoch_of r
epoch_moved Kill = None
epoch_moved Restart = None

abbrev pub moved_by : Option Entry → Option Moved
moved_by None = None
moved_by (Some e) = Some (record { event = event_of e; epoch = epoch_moved e.move })
