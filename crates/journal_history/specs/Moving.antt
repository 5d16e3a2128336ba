-- The lines of histories that move their node, as entries of a run.
use Rattle.std.specs.Prelude.{ℕ, zero, suc, ◌&&◌, not, is_some, Bool, true, false, List, Option, Some, None, filter_map, if◌then◌else◌}
use Rattle.journal_core.specs.Views.{HeadView}
use Rattle.journal_core.specs.Limits.{head_of}
use Rattle.journal_core.specs.declared.request.Request.{Request}
use Rattle.journal_core.specs.declared.request.Request.TheVariants as request
use Rattle.journal_core.specs.declared.refusal.Refusal.{Refusal}
use Rattle.journal_core.specs.declared.refusal.Refusal.TheVariants as refusal
use Rattle.journal_core.specs.declared.reply.Reply.{Reply}
use Rattle.journal_core.specs.declared.reply.Reply.TheVariants as reply
use Rattle.journal_history.specs.declared.node_ask.NodeAsk.{NodeAsk}
use Rattle.journal_history.specs.declared.node_ask.NodeAsk.TheVariants as ask
use Rattle.journal_history.specs.declared.node_ask.NodeAnswer.{NodeAnswer}
use Rattle.journal_history.specs.declared.node_ask.NodeAnswer.TheVariants as answer
use Rattle.journal_history.specs.declared.history_line.HistoryLine.{HistoryLine}
use Rattle.journal_history.specs.Entries.{Way, Heard, Muted, Late, Move, Answer, Stop, Kill, Restart, Entry}

-- a line of a node's history, with its node, and whether the reply was lost
pub record Placed : Type 0 where
  pub node : ℕ
  pub line : HistoryLine
  pub muted : Bool

-- the epoch of a request: the one that it proposes, or that of its head
abbrev pub head_epoch : Option HeadView → Option ℕ
head_epoch None = None
head_epoch (Some h) = Some h.epoch

unfoldable pub epoch_of : Request → Option ℕ
epoch_of (request.NewEpoch epoch) = Some epoch
epoch_of r = head_epoch (head_of r)

abbrev pub is_proposal : Request → Bool
is_proposal (request.NewEpoch epoch) = true
is_proposal _ = false

-- refused before anything has changed
abbrev pub is_at_once : Refusal → Bool
is_at_once refusal.Down = true
is_at_once (refusal.Limit number) = true
is_at_once (refusal.EpochRefused promised) = true
is_at_once (refusal.OldSerial seen) = true
is_at_once _ = false

abbrev pub is_refused_at_once : Reply → Bool
is_refused_at_once (reply.Refused f) = is_at_once f
is_refused_at_once _ = false

-- a request without an epoch reads; one with an epoch moves its node, unless it is refused at once
unfoldable pub moves : Request → Reply → Bool
moves r reply = is_some (epoch_of r) && not (is_refused_at_once reply)

abbrev pub way_of : Bool → Bool → Way
way_of true muted = Late
way_of false true = Muted
way_of false false = Heard

-- what a line did to its node, if anything
unfoldable pub move_of : ℕ → Bool → NodeAsk → NodeAnswer → Option Move
move_of caller muted (ask.Act late r) (answer.Replied reply) = if moves r reply then Some (Answer caller (way_of late muted) r reply) else None
move_of caller muted (ask.Act late r) (answer.Stopped keep) = Some (Stop caller late r keep)
move_of caller muted ask.Kill answer.Done = Some Kill
move_of caller muted ask.Restart answer.Done = Some Restart
move_of caller muted _ _ = None

-- a kill, a restart, or a stop after no effect
abbrev pub falls : Move → Bool
falls (Answer caller way request reply) = false
falls (Stop caller late request zero) = true
falls (Stop caller late request (suc kept)) = false
falls Kill = true
falls Restart = true

abbrev pub entry_at : ℕ → Option Move → Option Entry
entry_at node None = None
entry_at node (Some move) = Some (record { node = node; move = move })

unfoldable pub entry_of : Placed → Option Entry
entry_of x = entry_at x.node (move_of x.line.caller x.muted x.line.ask x.line.answer)

-- the moving lines, in order
unfoldable pub moving_of : List Placed → List Entry
moving_of xs = filter_map entry_of xs
