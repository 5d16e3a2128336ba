-- What a gate lists of a caller who only calls, as calls; and a caller's record beside what the
-- lines of its pipes list.
use Rattle.std.specs.Prelude.{◌≡◌, ℕ, ◌+◌, ◌<◌, length, map, slice_index_or, List, [], ◌∷◌, ◌++◌, false}
use Rattle.atomic_table.specs.Seated.{TableId}
use Rattle.journal_core.specs.declared.request.Request.{Request}
use Rattle.journal_core.specs.declared.heard.Heard.{Heard}
use Rattle.journal_core.specs.declared.heard.Heard.TheVariants.{Answer, Silent}
use Rattle.journal_history.specs.declared.node_ask.NodeAsk.{NodeAsk}
use Rattle.journal_history.specs.declared.node_ask.NodeAsk.TheVariants.{Act, Kill, Restart, Arm}
use Rattle.journal_history.specs.declared.node_ask.NodeAnswer.{NodeAnswer}
use Rattle.journal_history.specs.declared.history_line.HistoryLine.{HistoryLine}
use Rattle.journal_history.specs.Cell.{heard_of}
use Rattle.journal_history.specs.declared.record.Record.{Record}
use Rattle.journal_history.specs.declared.record.Record.TheVariants.{Call, Late, Operator, Outcome}
use Rattle.journal_history.specs.declared.record.Told.{Told}
use Rattle.journal_history.specs.declared.record.Told.TheVariants as told
use Rattle.mesh.specs.Matches.{reached}
use Rattle.play_pipes.specs.Calls.{Calls}
use Rattle.play_threads.specs.Entries.{IsReplyOrStop}
use Rattle.play_threads.specs.Seated.{Seat}

-- a call of a gate's history, as a line of a pipe lists it
abbrev pub call_at : NodeAsk → NodeAnswer → Calls
call_at (Act late r) answer = (r, heard_of answer) ∷ []
call_at Kill answer = []
call_at Restart answer = []
call_at (Arm calls stop) answer = []

abbrev pub calls_at : List HistoryLine → Calls
calls_at [] = []
calls_at (h ∷ hs) = call_at h.ask h.answer ++ calls_at hs

-- each is a call, and no copy of one
abbrev pub OnlyCalls : List HistoryLine → Type 0
OnlyCalls [] = Unit {0}
OnlyCalls (h ∷ hs) = ((r : Request) × (h.ask ≡ Act false r)) × IsReplyOrStop h.answer × OnlyCalls hs

-- the seat is this caller's at this gate, and the caller only called
pub record IsLine (table : TableId) (caller : ℕ) (s : Seat) : Type 0 where
  pub gate : s.table ≡ table
  pub mine : s.caller ≡ caller
  pub calls : OnlyCalls s.own

-- ## A caller's record beside what its lines list
-- what is told of a call whose line heard this
abbrev pub Stands : Told → Heard → Type 0
Stands (told.Reply reply) heard = heard ≡ Answer reply
Stands told.Dropped heard = ⊥
Stands told.Muted heard = Unit {0}
Stands told.Silent heard = heard ≡ Silent

abbrev pub TellsOne : Record → Request × Heard → Type 0
TellsOne (Call node r t) c = (c.0 ≡ r) × Stands t c.1
TellsOne (Late node r) c = ⊥
TellsOne (Operator node ask done) c = ⊥
TellsOne (Outcome text) c = ⊥

-- line by line
abbrev pub Tells : List Record → Calls → Type 0
Tells [] [] = Unit {0}
Tells [] (c ∷ cs) = ⊥
Tells (r ∷ rs) [] = ⊥
Tells (r ∷ rs) (c ∷ cs) = TellsOne r c × Tells rs cs

-- the record of a caller, and what it heard of each node, by rising nodes
abbrev pub AreTold : List Record → List Calls → Type 0
AreTold past lists = (i : ℕ) → i < length lists → Tells (reached (i + 1) past) (slice_index_or lists i [])

-- ## A line before and after
-- a line as it is seen: its seat
abbrev pub place_of : Seat → TableId × ℕ
place_of s = (s.table, s.caller)

abbrev pub calls_of_seat : Seat → Calls
calls_of_seat s = calls_at s.own

-- a caller's seats at these gates, before its first call
pub record AreFresh (caller : ℕ) (tables : List TableId) (seats : List Seat) : Type 0 where
  pub gates : map (λ s. s.table) seats ≡ tables
  pub callers : (i : ℕ) (d : Seat) → i < length seats → (slice_index_or seats i d).caller ≡ caller
  pub none : (i : ℕ) (d : Seat) → i < length seats → (slice_index_or seats i d).own ≡ []
