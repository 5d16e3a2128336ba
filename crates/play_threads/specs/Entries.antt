-- The lines of a node's history as its gate lists them, those of one caller, and what a node may
-- answer.
use Rattle.std.specs.Prelude.{ℕ, List, map}
use Rattle.journal_history.specs.declared.node_ask.NodeAsk.{NodeAsk}
use Rattle.journal_history.specs.declared.node_ask.NodeAsk.TheVariants.{Act, Kill, Restart, Arm}
use Rattle.journal_history.specs.declared.node_ask.NodeAnswer.{NodeAnswer}
use Rattle.journal_history.specs.declared.node_ask.NodeAnswer.TheVariants.{Replied, Stopped, Done, Idle, NotOpened}
use Rattle.journal_history.specs.declared.history_line.HistoryLine.{HistoryLine}
use Rattle.journal_history.specs.NodeCells.{AnswerFits}
use Rattle.mesh.specs.Matches.{lines_of}

abbrev pub Entry : Type 0
Entry = ℕ × (NodeAsk × NodeAnswer)

abbrev pub entry_of : HistoryLine → Entry
entry_of h = (h.caller, (h.ask, h.answer))

abbrev pub line_of : Entry → HistoryLine
line_of e = record { caller = e.0; ask = e.1.0; answer = e.1.1 }

abbrev pub entries_of : List HistoryLine → List Entry
entries_of hs = map entry_of hs

-- what the caller finds of its own in what it has seen of the node
abbrev pub own_lines : ℕ → List Entry → List HistoryLine
own_lines caller seen = lines_of caller (map line_of seen)

-- ## What may be answered
-- a request is replied to, or the node is stopped in it
abbrev pub IsReplyOrStop : NodeAnswer → Type 0
IsReplyOrStop (Replied reply) = Unit {0}
IsReplyOrStop (Stopped keep) = Unit {0}
IsReplyOrStop Done = ⊥
IsReplyOrStop Idle = ⊥
IsReplyOrStop (NotOpened fail) = ⊥

-- what the operator asked took place, or the node already was so
abbrev pub IsDoneOrIdle : NodeAnswer → Type 0
IsDoneOrIdle (Replied reply) = ⊥
IsDoneOrIdle (Stopped keep) = ⊥
IsDoneOrIdle Done = Unit {0}
IsDoneOrIdle Idle = Unit {0}
IsDoneOrIdle (NotOpened fail) = ⊥

-- of the kind that was asked for; a reply fits its request
abbrev pub FitsAsk : NodeAsk → NodeAnswer → Type 0
FitsAsk (Act late r) answer = IsReplyOrStop answer × AnswerFits (Act late r) answer
FitsAsk Kill answer = IsDoneOrIdle answer
FitsAsk Restart answer = IsDoneOrIdle answer
FitsAsk (Arm calls stop) answer = IsDoneOrIdle answer
