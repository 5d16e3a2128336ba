-- The calls that a caller makes at the nodes of a journal.
use Rattle.std.specs.Prelude.{ℕ, ◌≡◌, ◌≢◌, List, [], ◌∷◌, ◌++◌, Result, Ok, Err}
use Rattle.std.specs.declared.alloc.AllocError.{AllocError}
use Rattle.journal_core.specs.declared.request.Request.{Request}
use Rattle.journal_core.specs.declared.refusal.Refusal.TheVariants.{OutOfMemory}
use Rattle.journal_core.specs.declared.reply.Reply.TheVariants.{Refused}
use Rattle.journal_core.specs.declared.heard.Heard.{Heard}
use Rattle.journal_core.specs.declared.heard.Heard.TheVariants.{Answer, Silent}
use Rattle.journal_core.specs.declared.peer_call.PeerCall.{PeerCall}
use Rattle.journal_core.specs.Answers.{FitsRequest}

-- what may be heard of a request: nothing, or an answer that fits it and isn't lack of memory
abbrev pub FitsHeard : Request → Heard → Type 0
FitsHeard r Silent = Unit {0}
FitsHeard r (Answer reply) = FitsRequest r reply × (reply ≢ Refused OutOfMemory)

-- a call is listed after those before it, with what was heard; where memory was wanting there is
-- none
abbrev pub Lists : List PeerCall → ℕ → Request → Result Heard AllocError → List PeerCall → Type 0
Lists before node r (Ok heard) after = after ≡ before ++ record { node = node; request = r; heard = heard } ∷ []
Lists before node r (Err e) after = after ≡ before
