-- From the bytes of the two pipes between a caller and a node, of requests and of replies, to the
-- calls that the node got: what pipes do with bytes, and what their ends write and read.
use Rattle.std.specs.Prelude.{ℕ, ◌≡◌, ◌≢◌, ◌<◌, ◌-◌, ◌^◌, ◌==◌, ◌⊎◌, Bool, true, false, List, [], ◌∷◌, ◌++◌, length, map, take, drop, Option, Some, None, codes}
use Rattle.std.specs.Io.KnownBytes.{Appends, Consumes}
use Rattle.std.specs.List.{AllByRecursion, concat, flat_map}
use Rattle.journal_core.specs.declared.request.Request.{Request}
use Rattle.journal_core.specs.declared.reply.Reply.{Reply}
use Rattle.journal_core.specs.declared.heard.Heard.TheVariants.{Answer}
use Rattle.journal_core.specs.Peers.{FitsHeard}
use Rattle.journal_history.specs.declared.record.Record.{Record}
use Rattle.journal_history.specs.declared.record.Told.{Told}
use Rattle.journal_history.specs.declared.record.Told.TheVariants as told
use Rattle.journal_history.specs.declared.node_ask.NodeAnswer.{NodeAnswer}
use Rattle.journal_history.specs.declared.node_ask.NodeAnswer.TheVariants as answer
use Rattle.journal_text.specs.Exact.{IsReadable}
use Rattle.journal_text.specs.Lines.{IsRequest}
use Rattle.journal_text.specs.Reading.{reading_of}
use Rattle.journal_text.specs.Texts.{request_text, reply_text}
use Rattle.journal_text.specs.declared.request_line.ReadRequest.TheVariants.{Read}
use Rattle.journal_session.specs.Lines.{lines_text}
use Rattle.pipe_seats.specs.Calls.{EndsView}
use Rattle.pipe_seats.specs.Tagged.{tagged}
use Rattle.pipe_seats.specs.Tags.{Asked, GotAs, KeepOrder}
use Rattle.pipe_serve.specs.declared.session_end.SessionEnd.{SessionEnd}
use Rattle.pipe_serve.specs.declared.session_end.SessionEnd.TheVariants as session_end
use Rattle.pipe_serve.specs.Sessions.{IsFront, SourceUse, SinkUse, IsSession}
use Rattle.pipe_serve.specs.Numbers.{AreNumbered, CallUse, asked_at, IsUse, GoOver}

-- ## A pipe
-- these stand in the bytes, one behind the other; what stands between two of them was lost
abbrev pub StandIn : List (List ℕ) → List ℕ → Type 0
StandIn [] bytes = Unit {0}
StandIn (piece ∷ pieces) bytes = (lost : List ℕ) × (rest : List ℕ) × (bytes ≡ lost ++ (piece ++ rest)) × StandIn pieces rest

-- A pipe keeps the order of its bytes and invents none: what its readers took, one after the other,
-- stands in what its writers wrote, one after the other.
abbrev pub KeepsBytes : List (List ℕ) → List (List ℕ) → Type 0
KeepsBytes written taken = StandIn taken (concat written)

-- ## Bytes of lines
-- the bytes are fronts of these lines with their line feeds, one front of each: a line that was
-- written whole, that was cut, or of which nothing was written
abbrev pub AreFronts : List (List ℕ) → List ℕ → Type 0
AreFronts [] bytes = bytes ≡ []
AreFronts (line ∷ lines) bytes = (front : List ℕ) × (rest : List ℕ) × IsFront front (line ++ 10 ∷ []) × (bytes ≡ front ++ rest) × AreFronts lines rest

-- the line stands in one of these, with its line feed
abbrev pub IsReadIn : List ℕ → List (List ℕ) → Type 0
IsReadIn line [] = ⊥
IsReadIn line (bytes ∷ more) = ((before : List ℕ) × (after : List ℕ) × (bytes ≡ before ++ (line ++ 10 ∷ after))) ⊎ IsReadIn line more

-- the reply has a text, which is read back as the reply to this request
abbrev pub HasText : Request → Reply → Type 0
HasText r reply = IsReadable reply × FitsHeard r (Answer reply)

-- ## A caller
-- One life of a caller over its pipes to a node: its number, its calls whose lines were begun, the
-- bytes that it wrote, and what it read, opening by opening.
pub record CallerLife : Type 0 where
  pub life : ℕ
  pub asked : List Asked
  pub wrote : List ℕ
  pub read : List (List ℕ)

abbrev pub asked_line : ℕ → Asked → List ℕ
asked_line life a = tagged life a.number (request_text a.request)

abbrev pub asked_lines : CallerLife → List (List ℕ)
asked_lines c = map (asked_line c.life) c.asked

-- the line of what was heard of a call stands in what was read
abbrev pub IsHeardOn : ℕ → List (List ℕ) → ℕ → Request → Told → Type 0
IsHeardOn life read n r (told.Reply reply) = HasText r reply × IsReadIn (tagged life n (reply_text reply)) read
IsHeardOn life read n r told.Dropped = Unit {0}
IsHeardOn life read n r told.Muted = Unit {0}
IsHeardOn life read n r told.Silent = Unit {0}

-- a call whose line was begun: its request has a text
pub record IsAskedOn (life : ℕ) (read : List (List ℕ)) (a : Asked) : Type 0 where
  pub wide : a.number < 2 ^ 64
  pub request : IsRequest a.request
  pub heard : IsHeardOn life read a.number a.request a.told

-- Of each line that was begun a front was written, one behind the other, and each reply that was
-- heard was read.
pub record IsCallerLife (c : CallerLife) : Type 0 where
  pub wide : c.life < 2 ^ 64
  pub wrote : AreFronts (asked_lines c) c.wrote
  pub asked : AllByRecursion (IsAskedOn c.life c.read) c.asked

-- ## From a caller's contract
-- what was written at a call, and what was read, where the ends told their bytes
abbrev pub written_between : Option (List ℕ) → Option (List ℕ) → List ℕ
written_between (Some before) (Some after) = drop (length before) after
written_between (Some before) None = []
written_between None after = []

abbrev pub read_between : Option (List ℕ) → Option (List ℕ) → List ℕ
read_between (Some before) (Some after) = take (length before - length after) before
read_between (Some before) None = []
read_between None after = []

abbrev pub written_at : CallUse → List ℕ
written_at u = written_between u.taken_then u.taken_now

abbrev pub read_at : CallUse → List ℕ
read_at u = read_between u.left_then u.left_now

-- the life of these calls, where what was read is parted by calls
abbrev pub life_by : ℕ → List CallUse → CallerLife
life_by life uses = record { life = life; asked = map asked_at uses; wrote = flat_map written_at uses; read = map read_at uses }

abbrev pub IsKnown : Option (List ℕ) → Type 0
IsKnown o = (bytes : List ℕ) × (o ≡ Some bytes)

-- what was to be read before a call that was answered, and after it
abbrev pub AreKnownIf : Told → Option (List ℕ) → Option (List ℕ) → Type 0
AreKnownIf (told.Reply reply) before after = IsKnown before × IsKnown after
AreKnownIf told.Dropped before after = Unit {0}
AreKnownIf told.Muted before after = Unit {0}
AreKnownIf told.Silent before after = Unit {0}

-- the ends told their bytes
pub record TellsBytes (u : CallUse) : Type 0 where
  pub taken_then : IsKnown u.taken_then
  pub taken_now : IsKnown u.taken_now
  pub left : AreKnownIf u.asked.told u.left_then u.left_now

-- so do ends as they were opened
pub record TellsEnds (ends : EndsView) : Type 0 where
  pub taken : IsKnown ends.taken
  pub left : IsKnown ends.left

-- it was answered, or nothing was heard
abbrev pub IsUnmarked : Told → Type 0
IsUnmarked (told.Reply reply) = Unit {0}
IsUnmarked told.Dropped = ⊥
IsUnmarked told.Muted = ⊥
IsUnmarked told.Silent = Unit {0}

abbrev pub GoesUnmarked : CallUse → Type 0
GoesUnmarked u = IsUnmarked u.asked.told

-- where those do that came at openings, the ends told their bytes at each call
abbrev pub EndsTellBytes : Type 0
EndsTellBytes =
    (life : ℕ) (opened : List EndsView) (uses : List CallUse) → AllByRecursion (IsUse life) uses → AllByRecursion GoesUnmarked uses → GoOver None opened uses
    → AllByRecursion TellsEnds opened → AllByRecursion TellsBytes uses

abbrev pub HasTextIf : Request → Told → Type 0
HasTextIf r (told.Reply reply) = HasText r reply
HasTextIf r told.Dropped = Unit {0}
HasTextIf r told.Muted = Unit {0}
HasTextIf r told.Silent = Unit {0}

-- its request and what was heard have texts, and its number is one of 64 bits
pub record HasTexts (u : CallUse) : Type 0 where
  pub wide : u.asked.number < 2 ^ 64
  pub request : IsRequest u.asked.request
  pub heard : HasTextIf u.asked.request u.asked.told

-- so the calls of `WroteLines` are such a life
abbrev pub UsesAreLives : Type 0
UsesAreLives = (life : ℕ) (uses : List CallUse) → life < 2 ^ 64 → AllByRecursion (IsUse life) uses → AllByRecursion TellsBytes uses → AllByRecursion HasTexts uses → IsCallerLife (life_by life uses)

-- ## A node's sessions
-- a call whose line a session took: its life, its text, and the call as the node got it
pub record Taken : Type 0 where
  pub life : ℕ
  pub text : List ℕ
  pub got : GotAs

abbrev pub taken_line : Taken → List ℕ
taken_line t = tagged t.life t.got.number t.text

-- the line of its reply, if the node answered
abbrev pub reply_lines_by : ℕ → ℕ → NodeAnswer → List (List ℕ)
reply_lines_by life n (answer.Replied reply) = tagged life n (reply_text reply) ∷ []
reply_lines_by life n (answer.Stopped effects) = []
reply_lines_by life n answer.Done = []
reply_lines_by life n answer.Idle = []
reply_lines_by life n (answer.NotOpened cause) = []

abbrev pub reply_lines : Taken → List (List ℕ)
reply_lines t = reply_lines_by t.life t.got.number t.got.got.answer

abbrev pub IsAnsweredWith : Request → NodeAnswer → Type 0
IsAnsweredWith r (answer.Replied reply) = HasText r reply
IsAnsweredWith r (answer.Stopped effects) = Unit {0}
IsAnsweredWith r answer.Done = Unit {0}
IsAnsweredWith r answer.Idle = Unit {0}
IsAnsweredWith r (answer.NotOpened cause) = Unit {0}

-- its text is the request's that the node got
pub record IsTaken (t : Taken) : Type 0 where
  pub wide_life : t.life < 2 ^ 64
  pub wide_number : t.got.number < 2 ^ 64
  pub reads : reading_of t.text ≡ Read t.got.got.request
  pub answered : IsAnsweredWith t.got.got.request t.got.got.answer

-- A session over the pipes: the calls whose lines it took, what it read behind them, and the bytes
-- that it wrote.
pub record SessionBytes : Type 0 where
  pub taken : List Taken
  pub rest : List ℕ
  pub wrote : List ℕ

abbrev pub read_by : SessionBytes → List ℕ
read_by s = lines_text (map taken_line s.taken) ++ s.rest

-- what it may write: the replies of those calls, and what tells that a line is none
abbrev pub written_lines : SessionBytes → List (List ℕ)
written_lines s = flat_map reply_lines s.taken ++ codes "bad" ∷ []

pub record IsSessionBytes (s : SessionBytes) : Type 0 where
  pub taken : AllByRecursion IsTaken s.taken
  pub wrote : AreFronts (written_lines s) s.wrote

abbrev pub keep_got : Bool → GotAs → List GotAs → List GotAs
keep_got true g gots = g ∷ gots
keep_got false g gots = gots

-- what the node got of a life by these
abbrev pub gots_of : ℕ → List Taken → List GotAs
gots_of life [] = []
gots_of life (t ∷ taken) = keep_got (t.life == life) t.got (gots_of life taken)

abbrev pub all_taken : List SessionBytes → List Taken
all_taken sessions = flat_map (λ s. s.taken) sessions

-- ## From a session's contract
-- the text was a request's, which was asked, and this was the answer
pub record IsTakenFrom {N : Type 0} (Asked : N → Request → Reply → N → Type 0) (t : Taken) (old new : N) : Type 0 where
  pub reply : Reply
  pub reads : reading_of t.text ≡ Read t.got.got.request
  pub answer : t.got.got.answer ≡ answer.Replied reply
  pub asked : Asked old t.got.got.request reply new

-- these were asked one after the other
abbrev pub AreTakenFrom : {N : Type 0} → (N → Request → Reply → N → Type 0) → List Taken → N → N → Type 0
AreTakenFrom Asked [] old new = new ≡ old
AreTakenFrom {N} Asked (t ∷ taken) old new = (mid : N) × IsTakenFrom Asked t old mid × AreTakenFrom Asked taken mid new

-- A session took some calls' lines, in their order, asked the node just these, and wrote fronts of
-- their replies' lines.
pub record TookLines {N : Type 0} (Asked : N → Request → Reply → N → Type 0) (old new : N) (source : SourceUse) (sink : SinkUse) : Type 0 where
  pub bytes : SessionBytes
  pub taken : AreTakenFrom Asked bytes.taken old new
  pub read : Consumes source.given source.left (read_by bytes)
  pub written : Appends sink.had sink.has bytes.wrote
  pub wrote : AreFronts (written_lines bytes) bytes.wrote

-- so does each session that doesn't end for lack of memory
abbrev pub SessionsTakeLines : {N : Type 0} → (N → Request → Reply → N → Type 0) → Type 0
SessionsTakeLines {N} Asked =
    (end : SessionEnd) (old new : N) (source : SourceUse) (sink : SinkUse) → end ≢ session_end.OutOfMemory → IsSession Asked end old new source sink → TookLines Asked old new source sink

-- ## Both ends of both pipes
-- The lives of a caller, and the sessions of it at a node, at pipes that keep the order of their
-- bytes and invent none.
pub record AreAtPipes (lives : List CallerLife) (sessions : List SessionBytes) : Type 0 where
  pub callers : AllByRecursion IsCallerLife lives
  pub nodes : AllByRecursion IsSessionBytes sessions
  pub requests : KeepsBytes (map (λ c. c.wrote) lives) (map read_by sessions)
  pub replies : KeepsBytes (map (λ s. s.wrote) sessions) (flat_map (λ c. c.read) lives)

abbrev pub IsOther : ℕ → CallerLife → Type 0
IsOther life c = c.life ≢ life

-- then the lines of a life that the sessions took are some of those that were begun, in their order,
-- each once, and each reply that was heard was answered to its number
abbrev pub BytesKeepOrder : Type 0
BytesKeepOrder =
    (node : ℕ) (rs : List Record) (before after : List CallerLife) (c : CallerLife) (sessions : List SessionBytes) → AreNumbered node c.life 0 rs c.asked
    → AllByRecursion (IsOther c.life) before → AllByRecursion (IsOther c.life) after → AreAtPipes (before ++ c ∷ after) sessions → KeepOrder node rs (gots_of c.life (all_taken sessions))
