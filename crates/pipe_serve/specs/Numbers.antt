-- The numbers of a life's calls to a node, as its pipe saw them, and what a node got of them.
use Rattle.std.specs.Prelude.{ℕ, ◌≡◌, ◌⊎◌, List, [], ◌∷◌, ◌++◌, map, Option, Some, None}
use Rattle.std.specs.List.{AllByRecursion}
use Rattle.base_outside.specs.Whole.{TakesFront}
use Rattle.journal_core.specs.declared.request.Request.{Request}
use Rattle.journal_core.specs.declared.reply.Reply.{Reply}
use Rattle.journal_history.specs.declared.record.Record.{Record}
use Rattle.journal_history.specs.declared.record.Record.TheVariants.{Call, Late, Operator, Outcome}
use Rattle.journal_history.specs.declared.record.Told.{Told}
use Rattle.journal_history.specs.declared.record.Told.TheVariants as told
use Rattle.journal_history.specs.declared.node_ask.NodeAnswer.TheVariants.{Replied}
use Rattle.journal_text.specs.Lines.{IsRequest}
use Rattle.journal_text.specs.Reading.{reading_of}
use Rattle.journal_text.specs.Texts.{request_text}
use Rattle.journal_text.specs.declared.request_line.ReadRequest.TheVariants.{Read}
use Rattle.pipe_seats.specs.Calls.{EndsView, PipeView, unopened, request_line, IsReplyRead}
use Rattle.pipe_seats.specs.Piped.{Goes}
use Rattle.pipe_seats.specs.Tags.{Asked, GotAs, AreWritten, WasHeard, KeepOrder}
use Rattle.pipe_serve.specs.Sessions.{Answered}

-- ## What a name node wrote and read
-- no late copy and no operation
abbrev pub IsMade : Record → Type 0
IsMade (Call m r t) = Unit {0}
IsMade (Late m r) = ⊥
IsMade (Operator m ask done) = ⊥
IsMade (Outcome text) = Unit {0}

-- the line of this reply was read, with this number, behind lines that answer other calls
pub record IsReadOn (life n : ℕ) (r : Request) (reply : Reply) : Type 0 where
  pub before : Option (List ℕ)
  pub after : Option (List ℕ)
  pub read : IsReplyRead life n r reply before after

-- what was heard of a call was read so
abbrev pub IsReadAs : ℕ → ℕ → Request → Told → Type 0
IsReadAs life n r (told.Reply reply) = IsReadOn life n r reply
IsReadAs life n r told.Dropped = Unit {0}
IsReadAs life n r told.Muted = Unit {0}
IsReadAs life n r told.Silent = Unit {0}

abbrev pub WasRead : ℕ → Asked → Type 0
WasRead life a = IsReadAs life a.number a.request a.told

-- these are the calls of a life whose lines were begun, by their numbers
pub record AreNumbered (node life n : ℕ) (rs : List Record) (asked : List Asked) : Type 0 where
  pub written : AreWritten node n rs asked
  pub read : AllByRecursion (WasRead life) asked

-- so they have in each life over a pipe, from 1 on
abbrev pub CallsAreNumbered : Type 0
CallsAreNumbered =
    (node life : ℕ) (rs : List Record) (pipe : PipeView) → AllByRecursion IsMade rs → Goes node rs (unopened life) pipe
    → (asked : List Asked) × AreNumbered node life 0 rs asked

-- ## At the ends of its pipe
-- a call whose line was begun: what had been written to the pipe before it and after it, and what
-- was still to be read of it then and afterwards, where that is told
pub record CallUse : Type 0 where
  pub asked : Asked
  pub taken_then : Option (List ℕ)
  pub taken_now : Option (List ℕ)
  pub left_then : Option (List ℕ)
  pub left_now : Option (List ℕ)

abbrev pub asked_at : CallUse → Asked
asked_at u = u.asked

-- the line of what was heard was read, behind lines that answer other calls
abbrev pub IsReadFrom : ℕ → ℕ → Request → Told → Option (List ℕ) → Option (List ℕ) → Type 0
IsReadFrom life n r (told.Reply reply) before after = IsReplyRead life n r reply before after
IsReadFrom life n r told.Dropped before after = Unit {0}
IsReadFrom life n r told.Muted before after = Unit {0}
IsReadFrom life n r told.Silent before after = Unit {0}

-- of its line a front was written
pub record IsUse (life : ℕ) (u : CallUse) : Type 0 where
  pub wrote : TakesFront u.taken_then u.taken_now (request_line life u.asked.number u.asked.request)
  pub read : IsReadFrom life u.asked.number u.asked.request u.asked.told u.left_then u.left_now

-- the ends after a call, by what was told of it: after silence they aren't in use
abbrev pub in_use_after : Told → EndsView → Option EndsView
in_use_after (told.Reply reply) ends = Some ends
in_use_after told.Dropped ends = Some ends
in_use_after told.Muted ends = Some ends
in_use_after told.Silent ends = None

-- as the call left them
abbrev pub ends_after : CallUse → Option EndsView
ends_after u = in_use_after u.asked.told (record { taken = u.taken_now; left = u.left_now })

-- the call went over these ends, as they were
pub record IsOver (ends : EndsView) (u : CallUse) : Type 0 where
  pub taken : u.taken_then ≡ ends.taken
  pub left : u.left_then ≡ ends.left

-- if there are any
abbrev pub IsOverThese : Option EndsView → CallUse → Type 0
IsOverThese None u = ⊥
IsOverThese (Some ends) u = IsOver ends u

-- the call went over one pair of these ends, and of those behind it this holds
pub record IsOverNext (u : CallUse) (opened : List EndsView) (Rest : List EndsView → Type 0) : Type 0 where
  pub before : List EndsView
  pub ends : EndsView
  pub more : List EndsView
  pub are : opened ≡ before ++ ends ∷ more
  pub over : IsOver ends u
  pub rest : Rest more

-- Call by call: each went over the ends of the one before it, as that left them, or over later ones
-- of those that came at an opening, as they were then. After silence it is over later ones.
abbrev pub GoOver : Option EndsView → List EndsView → List CallUse → Type 0
GoOver now opened [] = Unit {0}
GoOver now opened (u ∷ uses) = (IsOverThese now u × GoOver (ends_after u) opened uses) ⊎ IsOverNext u opened (λ more. GoOver (ends_after u) more uses)

-- of each call whose line was begun a front was written, numbered in their order, and what was heard
-- was read, of ends that came at these openings, in their order, behind those that there were
pub record WroteLines (node life n : ℕ) (rs : List Record) (now : Option EndsView) (opened : List EndsView) : Type 0 where
  pub uses : List CallUse
  pub written : AreWritten node n rs (map asked_at uses)
  pub each : AllByRecursion (IsUse life) uses
  pub over : GoOver now opened uses

-- so it is in each life over a pipe, of which there were no ends at first
abbrev pub CallsWriteLines : Type 0
CallsWriteLines =
    (node life : ℕ) (rs : List Record) (pipe : PipeView) → AllByRecursion IsMade rs → Goes node rs (unopened life) pipe → WroteLines node life 0 rs None pipe.opened

-- ## What a node got
-- these are some of the calls that were written, in their order
abbrev pub AreSome : List GotAs → List Asked → Type 0
AreSome [] asked = Unit {0}
AreSome (g ∷ gots) [] = ⊥
AreSome (g ∷ gots) (a ∷ asked) = ((a.number ≡ g.number) × (a.request ≡ g.got.request) × AreSome gots asked) ⊎ AreSome (g ∷ gots) asked

-- then their numbers rise, and each was written under its own
abbrev pub LinesKeepOrder : Type 0
LinesKeepOrder =
    (node life : ℕ) (rs : List Record) (asked : List Asked) (gots : List GotAs) → AreNumbered node life 0 rs asked → AreSome gots asked
    → AllByRecursion (WasHeard gots) asked → KeepOrder node rs gots

-- ## What a node's sessions took
-- a session's call, as the node got it: its number, its text's request, and the reply
pub record IsTakenAs (a : Answered) (g : GotAs) : Type 0 where
  pub number : g.number ≡ a.call
  pub reads : reading_of a.text ≡ Read g.got.request
  pub answer : g.got.answer ≡ Replied a.reply

-- the first of these is that call, and of the others this holds
pub record TakesFirst (a : Answered) (gots : List GotAs) (Rest : List GotAs → Type 0) : Type 0 where
  pub got : GotAs
  pub more : List GotAs
  pub are : gots ≡ got ∷ more
  pub is : IsTakenAs a got
  pub rest : Rest more

-- of the calls of a client's sessions, one after the other, those of this life
abbrev pub AreTaken : ℕ → List Answered → List GotAs → Type 0
AreTaken life [] gots = gots ≡ []
AreTaken life (a ∷ calls) gots = ((a.life ≡ life) × TakesFirst a gots (AreTaken life calls)) ⊎ ((a.life ≡ life → ⊥) × AreTaken life calls gots)

-- the call's line is one of those that were begun, and of those behind it this holds
abbrev pub IsBegunIn : Answered → List Asked → (List Asked → Type 0) → Type 0
IsBegunIn a [] Rest = ⊥
IsBegunIn a (b ∷ asked) Rest = ((b.number ≡ a.call) × (request_text b.request ≡ a.text) × Rest asked) ⊎ IsBegunIn a asked Rest

-- the lines of this life that the sessions took are some of those that were begun, in their order
abbrev pub AreBegun : ℕ → List Answered → List Asked → Type 0
AreBegun life [] asked = Unit {0}
AreBegun life (a ∷ calls) asked = ((a.life ≡ life) × IsBegunIn a asked (AreBegun life calls)) ⊎ ((a.life ≡ life → ⊥) × AreBegun life calls asked)

abbrev pub IsRequestOf : Asked → Type 0
IsRequestOf b = IsRequest b.request

-- then what the node got of the life by them are some of its calls, in their order
abbrev pub SessionsKeepOrder : Type 0
SessionsKeepOrder =
    (node life : ℕ) (rs : List Record) (asked : List Asked) (calls : List Answered) (gots : List GotAs) → AreNumbered node life 0 rs asked → AllByRecursion IsRequestOf asked
    → AreTaken life calls gots → AreBegun life calls asked → AllByRecursion (WasHeard gots) asked → KeepOrder node rs gots
