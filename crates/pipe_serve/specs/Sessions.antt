-- A session of tagged lines at a node.
use Rattle.std.specs.Prelude.{ℕ, ◌≡◌, ◌<◌, ◌-◌, ◌^◌, ◌⊎◌, List, [], ◌∷◌, ◌++◌, length, take, Option, Some, None, codes}
use Rattle.std.specs.List.{flat_map}
use Rattle.std.specs.Io.KnownBytes.{Appends, Consumes, IsAtEnd}
use Rattle.base_outside.specs.Faults.{Rose}
use Rattle.journal_core.specs.declared.refusal.Refusal.TheVariants.{DiskFault, OutOfMemory}
use Rattle.journal_core.specs.declared.request.Request.{Request}
use Rattle.journal_core.specs.declared.reply.Reply.{Reply}
use Rattle.journal_core.specs.declared.reply.Reply.TheVariants.{Refused}
use Rattle.journal_text.specs.Reading.{reading_of}
use Rattle.journal_text.specs.Texts.{reply_text}
use Rattle.journal_text.specs.declared.request_line.ReadRequest.TheVariants.{Read, Bad}
use Rattle.journal_session.specs.Lines.{longest_line, IsLine}
use Rattle.journal_session.specs.declared.next.Next.{Next}
use Rattle.journal_session.specs.declared.next.Next.TheVariants as next
use Rattle.disk_node.specs.Node.{IsNoFault}
use Rattle.pipe_seats.specs.Tagged.{IsTagged, tagged}
use Rattle.pipe_serve.specs.declared.session_end.SessionEnd.{SessionEnd}
use Rattle.pipe_serve.specs.declared.session_end.SessionEnd.TheVariants as session_end

-- a call that was answered: its life, its number, its request's text, and the reply
pub record Answered : Type 0 where
  pub life : ℕ
  pub call : ℕ
  pub text : List ℕ
  pub reply : Reply

-- a reply's line
abbrev pub reply_line : ℕ → ℕ → Reply → List ℕ
reply_line life call reply = tagged life call (reply_text reply) ++ 10 ∷ []

-- the line that asked it, and the one that answers it
abbrev pub asking_line : Answered → List ℕ
asking_line a = tagged a.life a.call a.text ++ 10 ∷ []

abbrev pub answering_line : Answered → List ℕ
answering_line a = reply_line a.life a.call a.reply

-- what answers a line that is no request, which is no reply's line
abbrev pub refusal : List ℕ
refusal = codes "bad" ++ 10 ∷ []

-- the bytes that a source had left and has, where they are told, and its faults before and now
pub record SourceUse : Type 0 where
  pub given : Option (List ℕ)
  pub left : Option (List ℕ)
  pub before : ℕ
  pub now : ℕ

abbrev pub read_from : {S : Type 0} → (S → Option (List ℕ)) → (S → ℕ) → S → S → SourceUse
read_from left faults old new = record { given = left old; left = left new; before = faults old; now = faults new }

-- the bytes that a sink had taken and has, where they are told, and its faults before and now
pub record SinkUse : Type 0 where
  pub had : Option (List ℕ)
  pub has : Option (List ℕ)
  pub before : ℕ
  pub now : ℕ

abbrev pub written_to : {K : Type 0} → (K → Option (List ℕ)) → (K → ℕ) → K → K → SinkUse
written_to taken faults old new = record { had = taken old; has = taken new; before = faults old; now = faults new }

-- In all of these `Asked` says what is known of one answer: of the node before it, the request, the
-- answer, and the node after it.

-- the text is a request's that was asked, and this was the answer
pub record IsAsked {N : Type 0} (Asked : N → Request → Reply → N → Type 0) (text : List ℕ) (reply : Reply) (old new : N) : Type 0 where
  pub request : Request
  pub reads : reading_of text ≡ Read request
  pub asked : Asked old request reply new

-- and the answer was neither a fault of the node's disk nor lack of memory
pub record IsAskedWell {N : Type 0} (Asked : N → Request → Reply → N → Type 0) (a : Answered) (old new : N) : Type 0 where
  pub asked : IsAsked Asked a.text a.reply old new
  pub fine : IsNoFault a.reply

-- these were asked one after the other
abbrev pub AreAsked : {N : Type 0} → (N → Request → Reply → N → Type 0) → List Answered → N → N → Type 0
AreAsked Asked [] old new = new ≡ old
AreAsked {N} Asked (a ∷ more) old new = (node : N) × IsAskedWell Asked a old node × AreAsked Asked more node new

abbrev pub WasAskedOrNot : {N : Type 0} → (N → Request → Reply → N → Type 0) → N → N → Type 0
WasAskedOrNot Asked old new = (new ≡ old) ⊎ ((text : List ℕ) × (reply : Reply) × IsAsked Asked text reply old new)

-- ## One line
-- how a session ends with an answer that is no line
abbrev pub IsFaultOf : SessionEnd → Reply → Type 0
IsFaultOf session_end.Over reply = ⊥
IsFaultOf session_end.DiskFault reply = reply ≡ Refused DiskFault
IsFaultOf session_end.OutOfMemory reply = reply ≡ Refused OutOfMemory

-- it was asked, and its answer's line written
pub record IsServedWell {N : Type 0} (Asked : N → Request → Reply → N → Type 0) (line : List ℕ) (old new : N) (sink : SinkUse) : Type 0 where
  pub answered : Answered
  pub is : line ≡ tagged answered.life answered.call answered.text
  pub asked : IsAskedWell Asked answered old new
  pub written : Appends sink.had sink.has (answering_line answered)
  pub whole : sink.now ≡ sink.before

-- these bytes are the front of those
abbrev pub IsFront : List ℕ → List ℕ → Type 0
IsFront part bytes = (n : ℕ) × (part ≡ take n bytes)

-- These bytes were written; or a front of them, and then the write failed.
pub record Tells (bytes : List ℕ) (sink : SinkUse) : Type 0 where
  pub part : List ℕ
  pub written : Appends sink.had sink.has part
  pub said : IsFront part bytes
  pub whole : (part ≡ bytes) ⊎ Rose sink.before sink.now

-- no call: no tagged line, or no request's text
abbrev pub IsNoCall : List ℕ → Type 0
IsNoCall line = (IsTagged line → ⊥) ⊎ ((life call : ℕ) × (text : List ℕ) × (rule : ℕ) × (line ≡ tagged life call text) × (reading_of text ≡ Bad rule))

-- it is no call, and this was written of what tells the client: all, or the write failed
pub record IsTurnedAway {N : Type 0} (line : List ℕ) (old new : N) (part : List ℕ) (sink : SinkUse) : Type 0 where
  pub no_call : IsNoCall line
  pub same : new ≡ old
  pub said : IsFront part refusal
  pub whole : (part ≡ refusal) ⊎ Rose sink.before sink.now

-- it was asked, and the write of its answer's line failed
pub record IsUnwritten {N : Type 0} (Asked : N → Request → Reply → N → Type 0) (line : List ℕ) (old new : N) (part : List ℕ) (sink : SinkUse) : Type 0 where
  pub answered : Answered
  pub is : line ≡ tagged answered.life answered.call answered.text
  pub asked : IsAskedWell Asked answered old new
  pub said : IsFront part (answering_line answered)
  pub fault : Rose sink.before sink.now

-- it was asked, and the answer was that the node's disk failed
pub record IsFaulted {N : Type 0} (Asked : N → Request → Reply → N → Type 0) (line : List ℕ) (old new : N) (part : List ℕ) : Type 0 where
  pub life : ℕ
  pub call : ℕ
  pub text : List ℕ
  pub is : line ≡ tagged life call text
  pub asked : IsAsked Asked text (Refused DiskFault) old new
  pub said : part ≡ []

-- memory ran out, before it was asked or afterwards
pub record IsForgotten {N : Type 0} (Asked : N → Request → Reply → N → Type 0) (old new : N) (part : List ℕ) : Type 0 where
  pub asked : WasAskedOrNot Asked old new
  pub said : part ≡ []

-- how a session ends with a line, of which this part of an answer was written
abbrev pub EndsWith : {N : Type 0} → (N → Request → Reply → N → Type 0) → SessionEnd → List ℕ → N → N → List ℕ → SinkUse → Type 0
EndsWith Asked session_end.Over line old new part sink = IsTurnedAway line old new part sink ⊎ IsUnwritten Asked line old new part sink
EndsWith Asked session_end.DiskFault line old new part sink = IsFaulted Asked line old new part
EndsWith Asked session_end.OutOfMemory line old new part sink = IsForgotten Asked old new part

pub record IsCutShort {N : Type 0} (Asked : N → Request → Reply → N → Type 0) (end : SessionEnd) (line : List ℕ) (old new : N) (sink : SinkUse) : Type 0 where
  pub part : List ℕ
  pub written : Appends sink.had sink.has part
  pub ends : EndsWith Asked end line old new part sink

-- it was served, or the session ends with it
abbrev pub IsServed : {N : Type 0} → (N → Request → Reply → N → Type 0) → Option SessionEnd → List ℕ → N → N → SinkUse → Type 0
IsServed Asked None line old new sink = IsServedWell Asked line old new sink
IsServed Asked (Some end) line old new sink = IsCutShort Asked end line old new sink

-- how it ends where there is no next line
abbrev pub end_of : Next → Option SessionEnd
end_of next.Line = None
end_of next.Last = Some session_end.Over
end_of next.End = Some session_end.Over
end_of next.LongLine = Some session_end.Over
end_of next.LongInput = Some session_end.Over
end_of next.ReadFault = Some session_end.Over
end_of next.OutOfMemory = Some session_end.OutOfMemory

-- what the client is told then
abbrev pub told_at : Next → List ℕ
told_at next.Line = []
told_at next.Last = []
told_at next.End = []
told_at next.LongLine = refusal
told_at next.LongInput = []
told_at next.ReadFault = []
told_at next.OutOfMemory = []

-- ## A whole session
-- the source ended, or failed, before the next line was whole
pub record IsCutOff {N : Type 0} (rest : List ℕ) (old new : N) (part : List ℕ) (source : SourceUse) : Type 0 where
  pub one : IsLine rest
  pub cause : IsAtEnd source.left ⊎ Rose source.before source.now
  pub same : new ≡ old
  pub said : part ≡ []

-- the next line is too long, and this was written of what tells the client: all, or the write failed
pub record IsTooLong {N : Type 0} (rest : List ℕ) (old new : N) (part : List ℕ) (sink : SinkUse) : Type 0 where
  pub front : List ℕ
  pub behind : List ℕ
  pub spelled : rest ≡ front ++ behind
  pub one : IsLine front
  pub long : longest_line < length front
  pub same : new ≡ old
  pub said : IsFront part refusal
  pub whole : (part ≡ refusal) ⊎ Rose sink.before sink.now

-- the next line ends it
pub record EndsAtLine {N : Type 0} (Asked : N → Request → Reply → N → Type 0) (end : SessionEnd) (rest : List ℕ) (old new : N) (part : List ℕ) (sink : SinkUse) : Type 0 where
  pub line : List ℕ
  pub behind : List ℕ
  pub is : rest ≡ line ++ 10 ∷ behind
  pub ends : EndsWith Asked end line old new part sink

-- as many calls were answered as are counted
pub record IsCountedOut {N : Type 0} (calls : List Answered) (old new : N) (part : List ℕ) : Type 0 where
  pub count : length calls ≡ 2 ^ 64 - 1
  pub same : new ≡ old
  pub said : part ≡ []

-- Why it ended, of the calls that were answered, what was read after them, the node after them and
-- now, and what was written of one more answer.
abbrev pub EndsBy : {N : Type 0} → (N → Request → Reply → N → Type 0) → SessionEnd → List Answered → List ℕ → N → N → List ℕ → SourceUse → SinkUse → Type 0
EndsBy Asked session_end.Over calls rest old new part source sink =
    IsCutOff rest old new part source ⊎ IsTooLong rest old new part sink ⊎ EndsAtLine Asked session_end.Over rest old new part sink ⊎ IsCountedOut calls old new part
EndsBy Asked session_end.DiskFault calls rest old new part source sink = EndsAtLine Asked session_end.DiskFault rest old new part sink
EndsBy Asked session_end.OutOfMemory calls rest old new part source sink = IsForgotten Asked old new part

-- the lines of these calls were read, and these bytes after them, but where memory ran out
abbrev pub IsReadBy : SessionEnd → SourceUse → List ℕ → List ℕ → Type 0
IsReadBy session_end.Over source lines rest = Consumes source.given source.left (lines ++ rest)
IsReadBy session_end.DiskFault source lines rest = Consumes source.given source.left (lines ++ rest)
IsReadBy session_end.OutOfMemory source lines rest = Unit {0}

-- A session: calls were read, one after the other, each was asked of the node, and its reply
-- written before the next was read; then it ended, for one of these reasons.
pub record IsSession {N : Type 0} (Asked : N → Request → Reply → N → Type 0) (end : SessionEnd) (old new : N) (source : SourceUse) (sink : SinkUse) : Type 0 where
  pub calls : List Answered
  pub node : N
  pub are : AreAsked Asked calls old node
  pub rest : List ℕ
  pub read : IsReadBy end source (flat_map asking_line calls) rest
  pub part : List ℕ
  pub written : Appends sink.had sink.has (flat_map answering_line calls ++ part)
  pub ends : EndsBy Asked end calls rest node new part source sink
