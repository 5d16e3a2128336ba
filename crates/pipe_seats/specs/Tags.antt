-- A life's calls to a node, and what the node got of them, by the numbers of their lines.
use Rattle.std.specs.Prelude.{ℕ, ◌≡◌, ◌+◌, ◌<◌, ◌⊎◌, List, [], ◌∷◌, map}
use Rattle.std.specs.List.{AllByRecursion}
use Rattle.journal_core.specs.declared.request.Request.{Request}
use Rattle.journal_core.specs.declared.reply.Reply.{Reply}
use Rattle.journal_history.specs.declared.node_ask.NodeAnswer.TheVariants.{Replied}
use Rattle.journal_history.specs.declared.record.Record.{Record}
use Rattle.journal_history.specs.declared.record.Record.TheVariants.{Call, Late, Operator, Outcome}
use Rattle.journal_history.specs.declared.record.Told.{Told}
use Rattle.journal_history.specs.declared.record.Told.TheVariants as told
use Rattle.pipe_seats.specs.Carried.{Got, IsUnheard, IsCarried}

-- a call of which a line, or a front of it, was written with this number, and what was told of it
pub record Asked : Type 0 where
  pub number : ℕ
  pub request : Request
  pub told : Told

-- a request that the node got with this number, and what it answered, or that it died in it
pub record GotAs : Type 0 where
  pub number : ℕ
  pub got : Got

-- ## What was written
-- the first of these is the call, under this number, and of the others this holds
pub record IsWrittenAs (n : ℕ) (r : Request) (t : Told) (asked : List Asked) (Rest : List Asked → Type 0) : Type 0 where
  pub more : List Asked
  pub are : asked ≡ record { number = n; request = r; told = t } ∷ more
  pub rest : Rest more

-- The calls of these lines that were written to the node, numbered in their order, where so many
-- were before. Of one that wasn't nothing was heard.
abbrev pub AreWritten : ℕ → ℕ → List Record → List Asked → Type 0
AreWritten node n [] asked = asked ≡ []
AreWritten node n (Call m r t ∷ rs) asked =
    ((m ≡ node) × IsWrittenAs (n + 1) r t asked (λ more. AreWritten node (n + 1) rs more)) ⊎ (((m ≡ node → ⊥) ⊎ IsUnheard t) × AreWritten node n rs asked)
AreWritten node n (Outcome text ∷ rs) asked = AreWritten node n rs asked
AreWritten node n (Late m r ∷ rs) asked = ⊥
AreWritten node n (Operator m ask done ∷ rs) asked = ⊥

-- ## What pipes do
-- the numbers rise, from above this one on
abbrev pub IsRising : ℕ → List GotAs → Type 0
IsRising n [] = Unit {0}
IsRising n (g ∷ gs) = (n < g.number) × IsRising g.number gs

-- one of these calls was written so
abbrev pub WasAsked : List Asked → GotAs → Type 0
WasAsked [] g = ⊥
WasAsked (a ∷ asked) g = ((a.number ≡ g.number) × (a.request ≡ g.got.request)) ⊎ WasAsked asked g

-- the call of this number got this reply
abbrev pub WasAnswered : List GotAs → ℕ → Reply → Type 0
WasAnswered [] n reply = ⊥
WasAnswered (g ∷ gs) n reply = ((g.number ≡ n) × (g.got.answer ≡ Replied reply)) ⊎ WasAnswered gs n reply

-- what was heard of it was answered
abbrev pub IsHeardIn : List GotAs → ℕ → Told → Type 0
IsHeardIn gots n (told.Reply reply) = WasAnswered gots n reply
IsHeardIn gots n told.Dropped = Unit {0}
IsHeardIn gots n told.Muted = Unit {0}
IsHeardIn gots n told.Silent = Unit {0}

abbrev pub WasHeard : List GotAs → Asked → Type 0
WasHeard gots a = IsHeardIn gots a.number a.told

abbrev pub got_of : GotAs → Got
got_of g = g.got

-- The pipes between a life and a node kept order and invented nothing: what the node got has rising
-- numbers, each call was written so, and each reply that was heard was answered to its number.
pub record KeepOrder (node : ℕ) (rs : List Record) (gots : List GotAs) : Type 0 where
  pub asked : List Asked
  pub written : AreWritten node 0 rs asked
  pub rising : IsRising 0 gots
  pub there : AllByRecursion (WasAsked asked) gots
  pub back : AllByRecursion (WasHeard gots) asked

-- then the node got of the life's calls some, in their order, each once, and none else
abbrev pub TagsCarry : Type 0
TagsCarry = (node : ℕ) (rs : List Record) (gots : List GotAs) → KeepOrder node rs gots → IsCarried node rs (map got_of gots)
