-- The lines of histories and records as the code lends them.
use Rattle.journal_core.specs.declared.reply.Reply.TheVariants as reply
use Rattle.journal_history.specs.declared.node_ask.NodeAnswer.{NodeAnswer}
use Rattle.journal_history.specs.declared.node_ask.NodeAnswer.TheVariants.{Replied}
use Rattle.journal_history.specs.declared.record.Told.{Told}
use Rattle.journal_history.specs.declared.record.Told.TheVariants as told
use Rattle.journal_history.specs.declared.node_ask.NodeAsk.{NodeAsk}
use Rattle.journal_history.specs.declared.node_ask.NodeAsk.TheVariants as ask
use Rattle.journal_history.specs.declared.node_ask.LentAsk.{LentAsk}
use Rattle.journal_history.specs.declared.node_ask.LentAsk.TheVariants as lent
use Rattle.journal_history.specs.declared.history_line.HistoryLine.{HistoryLine}
use Rattle.journal_history.specs.declared.listed_line.LentLine.{LentLine}
use Rattle.journal_history.specs.declared.record.Record.{Record}
use Rattle.journal_history.specs.declared.record.Record.TheVariants as record_
use Rattle.journal_history.specs.declared.listed_record.LentRecord.{LentRecord}
use Rattle.journal_history.specs.declared.listed_record.LentRecord.TheVariants as line

-- what most requests are answered, and what most callers are told
abbrev pub ok_answer : NodeAnswer
ok_answer = Replied reply.Ok

abbrev pub ok_told : Told
ok_told = told.Reply reply.Ok

abbrev pub shown_ask : LentAsk → NodeAsk
shown_ask (lent.Act late request) = ask.Act late request.now
shown_ask lent.Kill = ask.Kill
shown_ask lent.Restart = ask.Restart
shown_ask (lent.Arm calls stop) = ask.Arm calls stop.now

abbrev pub shown_line : LentLine → HistoryLine
shown_line l = record { caller = l.caller; ask = shown_ask l.ask; answer = l.answer.now }

abbrev pub shown_record : LentRecord → Record
shown_record (line.Call node request told) = record_.Call node request.now told.now
shown_record (line.Late node request) = record_.Late node request.now
shown_record (line.Operator node a done) = record_.Operator node (shown_ask a) done
shown_record (line.Outcome text) = record_.Outcome text.now
