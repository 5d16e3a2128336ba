-- What was asked of a node, line by line, what is known of each answer, and what was written of it.
use Rattle.std.specs.Prelude.{ℕ, ◌≡◌, ◌≢◌, ◌⊎◌, List, [], ◌∷◌, ◌++◌, take, Option, Some, None}
use Rattle.std.specs.Io.KnownBytes.{Appends}
use Rattle.base_outside.specs.Whole.{TakesFront}
use Rattle.journal_core.specs.declared.request.Request.{Request}
use Rattle.journal_core.specs.declared.reply.Reply.{Reply}
use Rattle.journal_core.specs.declared.reply.Reply.TheVariants as reply
use Rattle.journal_core.specs.declared.refusal.Refusal.TheVariants as refusal
use Rattle.journal_text.specs.Texts.{reply_text}
use Rattle.journal_session.specs.Session.{Asks, AreWritten}
use Rattle.journal_session.specs.declared.answered.Answered.{Answered}
use Rattle.journal_session.specs.declared.answered.Answered.TheVariants as answered
use Rattle.journal_session.specs.declared.served.Served.{Served}
use Rattle.journal_session.specs.declared.served.Served.TheVariants as served

-- In all of these `Asked` says what is known of one answer: of the node before it, the request, the
-- answer, and the node after it.

-- the line is a request that was asked, and this is known of its answer
abbrev pub IsAsked : {N : Type 0} → (N → Request → Reply → N → Type 0) → List ℕ → N → N → Type 0
IsAsked Asked line old new = Asks line (λ r. (a : Reply) × Asked old r a new)

-- the answer was neither a fault of the node's disk nor lack of memory, and this is its line
abbrev pub IsWell : Reply → List ℕ → Type 0
IsWell a text = (a ≢ reply.Refused refusal.DiskFault) × (a ≢ reply.Refused refusal.OutOfMemory) × (text ≡ reply_text a ++ 10 ∷ [])

-- and so was the answer to the line, of which this is the text
abbrev pub IsAskedWell : {N : Type 0} → (N → Request → Reply → N → Type 0) → List ℕ → List ℕ → N → N → Type 0
IsAskedWell Asked line text old new = Asks line (λ r. (a : Reply) × Asked old r a new × IsWell a text)

-- a line was asked, the text begins with its reply, and of what is behind that and of the node after
-- it the rest holds
pub record AsksThen {N : Type 0} (Asked : N → Request → Reply → N → Type 0) (line text : List ℕ) (old : N) (Rest : List ℕ → N → Type 0) : Type 0 where
  pub node : N
  pub reply : List ℕ
  pub behind : List ℕ
  pub asked : IsAskedWell Asked line reply old node
  pub spelled : text ≡ reply ++ behind
  pub rest : Rest behind node

-- these lines were asked one after the other, each once the one before was answered, the text has
-- the replies that the node gave in order, a line each, and the node went from the one to the other
abbrev pub AreAsked : {N : Type 0} → (N → Request → Reply → N → Type 0) → List (List ℕ) → List ℕ → N → N → Type 0
AreAsked Asked [] text old new = (text ≡ []) × (new ≡ old)
AreAsked Asked (line ∷ lines) text old new = AsksThen Asked line text old (λ behind node. AreAsked Asked lines behind node new)

-- nothing, or some of the front of the answer's line
abbrev pub IsPartOf : Reply → List ℕ → Type 0
IsPartOf a part = (part ≡ []) ⊎ ((text : List ℕ) × IsWell a text × ((n : ℕ) × (part ≡ take n text)))

-- and so was this one, where there is one, whatever the answer, of which this part was written
abbrev pub IsAskedLast : {N : Type 0} → (N → Request → Reply → N → Type 0) → Option (List ℕ) → List ℕ → N → N → Type 0
IsAskedLast Asked None part old new = (part ≡ []) × (new ≡ old)
IsAskedLast Asked (Some line) part old new = Asks line (λ r. (a : Reply) × Asked old r a new × IsPartOf a part)

-- All that was asked of the node in a session that ended so: these lines, and after them this one,
-- where there is one; and what was written, which is the replies that the node gave to the lines,
-- and a part of the one whose write failed.
pub record IsTrail {N : Type 0} (Asked : N → Request → Reply → N → Type 0) (lines : List (List ℕ)) (next : Option (List ℕ)) (outcome : Served) (old new : N)
    (before now : Option (List ℕ)) : Type 0 where
  pub node : N
  pub text : List ℕ
  pub answered : AreAsked Asked lines text old node
  pub part : List ℕ
  pub last : IsAskedLast Asked next part node new
  pub written : AreWritten outcome before now text part

-- ## One line
-- what was asked with the line, by what came of it; of a reply this is the text
abbrev pub IsAskedFor : {N : Type 0} → (N → Request → Reply → N → Type 0) → Answered → List ℕ → List ℕ → N → N → Type 0
IsAskedFor Asked answered.Reply line text old new = IsAskedWell Asked line text old new
IsAskedFor Asked _ line text old new = (new ≡ old) ⊎ IsAsked Asked line old new

-- and of a reply the text was written, or its front where a write failed, and else nothing
abbrev pub IsAskedBy : {N : Type 0} → (N → Request → Reply → N → Type 0) → Option Served → List ℕ → List ℕ → N → N → Option (List ℕ) → Option (List ℕ) → Type 0
IsAskedBy Asked None line text old new before now = IsAskedWell Asked line text old new × Appends before now text
IsAskedBy Asked (Some served.WriteFault) line text old new before now = IsAskedWell Asked line text old new × TakesFront before now text
IsAskedBy Asked (Some _) line text old new before now = ((new ≡ old) ⊎ IsAsked Asked line old new) × Appends before now []
