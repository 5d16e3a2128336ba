-- What comes of one line at a node.
use Rattle.std.specs.Prelude.{ℕ, ◌≡◌, ◌≢◌, ◌⊎◌, List, [], ◌∷◌, ◌++◌, Option, Some, None}
use Rattle.std.specs.Io.KnownBytes.{Appends}
use Rattle.base_outside.specs.Whole.{TakesFront}
use Rattle.journal_core.specs.declared.node_state.NodeState.{NodeState}
use Rattle.journal_core.specs.declared.request.Request.{Request}
use Rattle.journal_core.specs.declared.reply.Reply.{Reply}
use Rattle.journal_core.specs.declared.reply.Reply.TheVariants as reply
use Rattle.journal_core.specs.declared.refusal.Refusal.TheVariants as refusal
use Rattle.journal_core.specs.Step.{node_step}
use Rattle.journal_core.specs.Answers.{IsStopOf}
use Rattle.journal_text.specs.Reading.{reading_of}
use Rattle.journal_text.specs.Texts.{reply_text}
use Rattle.journal_text.specs.declared.request_line.ReadRequest.TheVariants as reading
use Rattle.journal_session.specs.Session.{Asks, Moves}
use Rattle.journal_session.specs.declared.answered.Answered.{Answered}
use Rattle.journal_session.specs.declared.answered.Answered.TheVariants as answered
use Rattle.journal_session.specs.declared.served.Served.{Served}
use Rattle.journal_session.specs.declared.served.Served.TheVariants as served

-- the reply's text, with its LF
abbrev pub reply_line : NodeState → Request → List ℕ
reply_line s request = reply_text (node_step s request).reply ++ 10 ∷ []

-- what is told of a reply: its line, or that there is none
abbrev pub IsToldBy : Answered → Reply → List ℕ → Type 0
IsToldBy answered.Reply r text =
    (text ≡ reply_text r ++ 10 ∷ []) × (r ≢ reply.Refused refusal.DiskFault) × (r ≢ reply.Refused refusal.OutOfMemory)
IsToldBy (answered.Bad rule) r text = ⊥
IsToldBy answered.DiskFault r text = r ≡ reply.Refused refusal.DiskFault
IsToldBy answered.OutOfMemory r text =
    (r ≡ reply.Refused refusal.OutOfMemory) ⊎ ((r ≢ reply.Refused refusal.DiskFault) × (r ≢ reply.Refused refusal.OutOfMemory))

-- what a node answered to a line, and the text of its reply
abbrev pub IsAnswered : Answered → List ℕ → NodeState → NodeState → List ℕ → Type 0
IsAnswered answered.Reply line s t text = Asks line (λ r. (t ≡ (node_step s r).state) × (text ≡ reply_line s r))
IsAnswered (answered.Bad rule) line s t text = (reading_of line ≡ reading.Bad rule) × (t ≡ s)
IsAnswered answered.DiskFault line s t text = Asks line (λ r. IsStopOf s r t)
IsAnswered answered.OutOfMemory line s t text = (t ≡ s) ⊎ Asks line (λ r. Moves s r t)

-- what a node answered to a line, and the text of its reply; nothing is said of a node that doesn't
-- tell its state, and one that told goes on telling it
abbrev pub IsAnsweredOf : Answered → List ℕ → Option NodeState → Option NodeState → List ℕ → Type 0
IsAnsweredOf outcome line None new text = Unit {0}
IsAnsweredOf outcome line (Some s) None text = ⊥
IsAnsweredOf outcome line (Some s) (Some t) text = IsAnswered outcome line s t text

-- a line was answered and its reply written, or the session ends with it
abbrev pub IsServed : Option Served → ℕ → List ℕ → NodeState → NodeState → Option (List ℕ) → Option (List ℕ) → Type 0
IsServed None number line s t before now = Asks line (λ r. (t ≡ (node_step s r).state) × Appends before now (reply_line s r))
IsServed (Some (served.BadLine n rule)) number line s t before now = (n ≡ number) × (reading_of line ≡ reading.Bad rule) × (t ≡ s) × Appends before now []
IsServed (Some served.WriteFault) number line s t before now = Asks line (λ r. (t ≡ (node_step s r).state) × TakesFront before now (reply_line s r))
IsServed (Some served.DiskFault) number line s t before now = Asks line (λ r. IsStopOf s r t) × Appends before now []
IsServed (Some served.OutOfMemory) number line s t before now = ((t ≡ s) ⊎ Asks line (λ r. Moves s r t)) × Appends before now []
IsServed (Some _) number line s t before now = ⊥

-- a line was answered and its reply written, or the session ends with it; nothing is said of a node
-- that doesn't tell its state, and one that told goes on telling it
abbrev pub IsServedOf : Option Served → ℕ → List ℕ → Option NodeState → Option NodeState → Option (List ℕ) → Option (List ℕ) → Type 0
IsServedOf outcome number line None new before now = Unit {0}
IsServedOf outcome number line (Some s) None before now = ⊥
IsServedOf outcome number line (Some s) (Some t) before now = IsServed outcome number line s t before now
