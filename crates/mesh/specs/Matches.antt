-- What a caller lists of a node, and what the node lists of the caller.
use Rattle.std.specs.Prelude.{◌≡◌, ℕ, ◌≤◌, ◌==◌, Bool, true, false, List, [], ◌∷◌, filter}
use Rattle.journal_history.specs.declared.node_ask.NodeAsk.TheVariants.{Act}
use Rattle.journal_history.specs.declared.node_ask.NodeAnswer.{NodeAnswer}
use Rattle.journal_history.specs.declared.node_ask.NodeAnswer.TheVariants.{Replied, Stopped, Done, Idle, NotOpened}
use Rattle.journal_history.specs.declared.history_line.HistoryLine.{HistoryLine}
use Rattle.journal_history.specs.declared.record.Record.{Record}
use Rattle.journal_history.specs.declared.record.Record.TheVariants.{Call, Late, Operator, Outcome}
use Rattle.journal_history.specs.declared.record.Told.{Told}
use Rattle.journal_history.specs.declared.record.Told.TheVariants as told

-- it reached this node: a dropped call reached none
unfoldable pub reaches : ℕ → Record → Bool
reaches node (Call k r told.Dropped) = false
reaches node (Call k r t) = k == node
reaches node (Late k r) = k == node
reaches node (Operator k ask done) = k == node
reaches node (Outcome text) = false

unfoldable pub reached : ℕ → List Record → List Record
reached node rs = filter (reaches node) rs

unfoldable pub lines_of : ℕ → List HistoryLine → List HistoryLine
lines_of caller hs = filter (λ h. h.caller == caller) hs

abbrev pub IsStop : NodeAnswer → Type 0
IsStop (Replied reply) = ⊥
IsStop (Stopped keep) = Unit {0}
IsStop Done = ⊥
IsStop Idle = ⊥
IsStop (NotOpened fail) = ⊥

-- What was heard is the answer. Nothing is heard of a call inside which the node was stopped; a
-- muted call had any answer.
abbrev pub StandsFor : Told → NodeAnswer → Type 0
StandsFor (told.Reply reply) answer = answer ≡ Replied reply
StandsFor told.Dropped answer = ⊥
StandsFor told.Muted answer = Unit {0}
StandsFor told.Silent answer = IsStop answer

abbrev pub done_or_idle : Bool → NodeAnswer
done_or_idle true = Done
done_or_idle false = Idle

-- the caller's line and the node's are of one event
unfoldable pub IsSame : Record → HistoryLine → Type 0
IsSame (Call node r t) h = (h.ask ≡ Act false r) × StandsFor t h.answer
IsSame (Late node r) h = h.ask ≡ Act true r
IsSame (Operator node ask done) h = (h.ask ≡ ask) × (h.answer ≡ done_or_idle done)
IsSame (Outcome text) h = ⊥

unfoldable pub AreSame : List Record → List HistoryLine → Type 0
AreSame [] [] = Unit {0}
AreSame [] (h ∷ hs) = ⊥
AreSame (r ∷ rs) [] = ⊥
AreSame (r ∷ rs) (h ∷ hs) = IsSame r h × AreSame rs hs

-- each line is of a node from 1 on, up to this one
abbrev pub IsWithin : ℕ → Record → Type 0
IsWithin nodes (Call node r t) = (1 ≤ node) × (node ≤ nodes)
IsWithin nodes (Late node r) = (1 ≤ node) × (node ≤ nodes)
IsWithin nodes (Operator node ask done) = (1 ≤ node) × (node ≤ nodes)
IsWithin nodes (Outcome text) = Unit {0}

unfoldable pub AreWithin : ℕ → List Record → Type 0
AreWithin nodes [] = Unit {0}
AreWithin nodes (r ∷ rs) = IsWithin nodes r × AreWithin nodes rs

-- each line is of a caller up to this one
unfoldable pub CallersWithin : ℕ → List HistoryLine → Type 0
CallersWithin callers [] = Unit {0}
CallersWithin callers (h ∷ hs) = (h.caller ≤ callers) × CallersWithin callers hs
