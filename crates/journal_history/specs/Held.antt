-- The lines that lists hold in a few words.
use Rattle.std.specs.Prelude.{ℕ, Bool}
use Rattle.journal_core.specs.declared.request.Request.{Request}
use Rattle.journal_core.specs.declared.reply.Reply.TheVariants as reply
use Rattle.journal_history.specs.declared.node_ask.NodeAsk.TheVariants.{Act}
use Rattle.journal_history.specs.declared.node_ask.NodeAnswer.{NodeAnswer}
use Rattle.journal_history.specs.declared.node_ask.NodeAnswer.TheVariants.{Replied}
use Rattle.journal_history.specs.declared.history_line.HistoryLine.{HistoryLine}
use Rattle.journal_history.specs.declared.listed_line.HeldLine.{HeldLine}
use Rattle.journal_history.specs.declared.listed_line.HeldLine.TheVariants as held
use Rattle.journal_history.specs.declared.record.Record.{Record}
use Rattle.journal_history.specs.declared.record.Record.TheVariants as record_
use Rattle.journal_history.specs.declared.record.Told.TheVariants as told
use Rattle.journal_history.specs.declared.listed_record.HeldRecord.{HeldRecord}
use Rattle.journal_history.specs.declared.listed_record.HeldRecord.TheVariants as kept

-- a request that is answered by ok
abbrev pub plain_line : ℕ → Bool → Request → HistoryLine
plain_line caller late request = record { caller = caller; ask = Act late request; answer = Replied reply.Ok }

-- a request with this answer
abbrev pub answered_line : ℕ → Bool → Request → NodeAnswer → HistoryLine
answered_line caller late request answer = record { caller = caller; ask = Act late request; answer = answer }

abbrev pub held_line : HeldLine → HistoryLine
held_line (held.Plain caller late request) = plain_line caller late request
held_line (held.Answered caller late call) = answered_line caller late call.value.request call.value.answer
held_line (held.Other line) = line.value

-- a call that is answered by ok
abbrev pub plain_call : ℕ → Request → Record
plain_call node request = record_.Call node request (told.Reply reply.Ok)

abbrev pub held_record : HeldRecord → Record
held_record (kept.Plain node request) = plain_call node request
held_record (kept.Told node call) = record_.Call node call.value.request call.value.told
held_record (kept.Late node request) = record_.Late node request
held_record (kept.Outcome text) = record_.Outcome text
held_record (kept.Other line) = line.value
