-- A session at a node: request lines in, a reply line for each out.
use Rattle.std.specs.Prelude.{ℕ, ◌≡◌, ◌≢◌, ◌+◌, ◌-◌, ◌<◌, ◌≤◌, ◌⊎◌, List, [], ◌∷◌, ◌++◌, length, take, Option, Some, None}
use Rattle.std.specs.Io.KnownBytes.{Appends}
use Rattle.journal_core.specs.declared.node_state.NodeState.{NodeState}
use Rattle.journal_core.specs.declared.request.Request.{Request}
use Rattle.journal_core.specs.Step.{node_step}
use Rattle.journal_core.specs.Answers.{IsStopOf}
use Rattle.journal_text.specs.Reading.{reading_of}
use Rattle.journal_text.specs.Texts.{reply_text}
use Rattle.journal_text.specs.declared.request_line.ReadRequest.TheVariants.{Read, Bad}
use Rattle.journal_session.specs.Lines.{longest_line, longest_input, IsLine, AreLines, lines_text}
use Rattle.journal_session.specs.declared.served.Served.{Served}
use Rattle.journal_session.specs.declared.served.Served.TheVariants as served

-- ## Replies
-- These are requests, and the text has the node's replies to them in order, a line each. The node
-- went from the one state to the other.
abbrev pub AreAnswered : NodeState → List (List ℕ) → List ℕ → NodeState → Type 0
AreAnswered s [] text t = (text ≡ []) × (t ≡ s)
AreAnswered s (line ∷ lines) text t =
    (r : Request) × (reading_of line ≡ Read r) × (rest : List ℕ) × (text ≡ reply_text (node_step s r).reply ++ 10 ∷ rest) × AreAnswered (node_step s r).state lines rest t

-- the line is a request, of which this holds
pub record Asks (line : List ℕ) (P : Request → Type 0) : Type 0 where
  pub request : Request
  pub reads : reading_of line ≡ Read request
  pub so : P request

-- the node answered it, and is in that state, or stopped inside it
abbrev pub Moves : NodeState → Request → NodeState → Type 0
Moves s request t = IsStopOf s request t ⊎ (t ≡ (node_step s request).state)

-- ## How a session ends
-- All that was read, and no more than an input may have: these lines, of which the last may lack
-- its LF.
abbrev pub AreAll : List ℕ → List (List ℕ) → Type 0
AreAll told lines = ((told ≡ lines_text lines) ⊎ ((told ++ 10 ∷ []) ≡ lines_text lines)) × (length told ≤ longest_input)

-- the input's front is these lines, and no more than an input may have
abbrev pub AreFront : List ℕ → List (List ℕ) → List ℕ → Type 0
AreFront told lines rest = (told ≡ lines_text lines ++ rest) × (length (lines_text lines) ≤ longest_input)

-- how many bytes may follow these lines
abbrev pub room_behind : List (List ℕ) → ℕ
room_behind lines = longest_input - length (lines_text lines)

-- the next line, which ends in an LF or is the last, within so many bytes
pub record IsNext (line rest : List ℕ) (room : ℕ) : Type 0 where
  pub one : IsLine line
  pub short : length line ≤ longest_line
  pub place : ((behind : List ℕ) × (rest ≡ line ++ 10 ∷ behind) × (length line < room)) ⊎ ((rest ≡ line) × (line ≢ []) × (length line ≤ room))

-- the next line isn't a request, and this is the first rule that it breaks
pub record IsBadNext (rest : List ℕ) (room rule : ℕ) : Type 0 where
  pub line : List ℕ
  pub next : IsNext line rest room
  pub bad : reading_of line ≡ Bad rule

-- the next line is a request, of which this holds
pub record NextAsks (rest : List ℕ) (room : ℕ) (P : Request → Type 0) : Type 0 where
  pub line : List ℕ
  pub next : IsNext line rest room
  pub asks : Asks line P

-- the rest begins with so many bytes without an LF, or more
pub record IsLong (rest : List ℕ) (count : ℕ) : Type 0 where
  pub front : List ℕ
  pub behind : List ℕ
  pub one : IsLine front
  pub spelled : rest ≡ front ++ behind
  pub long : count ≤ length front

-- of the rest the front of a line was read, and the others are left
pub record IsReadInto (rest : List ℕ) (room : ℕ) (left : Option (List ℕ)) : Type 0 where
  pub front : List ℕ
  pub behind : List ℕ
  pub one : IsLine front
  pub short : length front ≤ longest_line
  pub within : length front ≤ room
  pub spelled : rest ≡ front ++ behind
  pub others : left ≡ Some behind

-- the node answered it, and some of the reply's front was written
abbrev pub IsPartWritten : NodeState → List ℕ → NodeState → Request → Type 0
IsPartWritten s part t request = (t ≡ (node_step s request).state) × ((n : ℕ) × (part ≡ take n (reply_text (node_step s request).reply ++ 10 ∷ [])))

-- Why it ended, of the input's bytes, the lines that were answered, what stands after them, what
-- the source has left, the node's state after those lines and now, and what was written of a reply
-- whose write failed.
abbrev pub EndsBy : Served → List ℕ → List (List ℕ) → List ℕ → Option (List ℕ) → NodeState → NodeState → List ℕ → Type 0
EndsBy served.Done told lines rest left s t part = AreAll told lines × (left ≡ Some []) × (t ≡ s)
EndsBy (served.BadLine number rule) told lines rest left s t part =
    AreFront told lines rest × (number ≡ length lines + 1) × IsBadNext rest (room_behind lines) rule × (t ≡ s)
EndsBy served.LongLine told lines rest left s t part =
    AreFront told lines rest × (longest_line < room_behind lines) × IsLong rest (longest_line + 1) × (t ≡ s)
EndsBy served.LongInput told lines rest left s t part =
    AreFront told lines rest × (longest_input < length told) × (room_behind lines ≤ longest_line) × IsLong rest (room_behind lines) × (t ≡ s)
EndsBy served.ReadFault told lines rest left s t part = AreFront told lines rest × IsReadInto rest (room_behind lines) left × (t ≡ s)
EndsBy served.WriteFault told lines rest left s t part = AreFront told lines rest × NextAsks rest (room_behind lines) (IsPartWritten s part t)
EndsBy served.DiskFault told lines rest left s t part = AreFront told lines rest × NextAsks rest (room_behind lines) (λ r. IsStopOf s r t)
EndsBy served.OutOfMemory told lines rest left s t part =
    AreFront told lines rest × ((t ≡ s) ⊎ NextAsks rest (room_behind lines) (λ r. Moves s r t))

-- what was written: the replies, and a part of the one whose write failed
abbrev pub AreWritten : Served → Option (List ℕ) → Option (List ℕ) → List ℕ → List ℕ → Type 0
AreWritten served.WriteFault before now text part = Appends before now (text ++ part)
AreWritten _ before now text part = Appends before now text

-- what was asked after them is the next line, where it is known what it was
abbrev pub IsAskedNext : Option (List ℕ) → List ℕ → ℕ → Type 0
IsAskedNext None rest room = Unit {0}
IsAskedNext (Some line) rest room = IsNext line rest room

-- A session, where the source told its bytes and the node its state: the lines that were answered,
-- and whose replies were written, are lines of the input from its front on; and so is the one, if
-- any, that was asked after them, and whose reply wasn't written.
pub record IsSession (lines : List (List ℕ)) (next : Option (List ℕ)) (outcome : Served) (told : List ℕ) (left : Option (List ℕ)) (old new : NodeState)
    (before now : Option (List ℕ)) : Type 0 where
  pub whole : AreLines lines
  pub rest : List ℕ
  pub text : List ℕ
  pub state : NodeState
  pub answered : AreAnswered old lines text state
  pub part : List ℕ
  pub written : AreWritten outcome before now text part
  pub ends : EndsBy outcome told lines rest left state new part
  pub asked_next : IsAskedNext next rest (room_behind lines)

-- a session, of which nothing is said where the source doesn't tell its bytes or the node its
-- state; a node that told its state goes on telling it
abbrev pub IsSessionOf : List (List ℕ) → Option (List ℕ) → Served → Option (List ℕ) → Option (List ℕ) → Option NodeState → Option NodeState → Option (List ℕ) → Option (List ℕ) → Type 0
IsSessionOf lines next outcome (Some told) left (Some old) (Some new) before now = IsSession lines next outcome told left old new before now
IsSessionOf lines next outcome (Some told) left (Some old) None before now = ⊥
IsSessionOf lines next outcome (Some told) left None new before now = Unit {0}
IsSessionOf lines next outcome None left old new before now = Unit {0}
