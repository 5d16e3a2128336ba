-- How a standby follows the steps of a tail, and what its answers say of the tail's end.
use Rattle.std.specs.Option.{ForSome}
use Rattle.std.specs.Prelude.{ℕ, ◌≡◌, ◌≢◌, ◌+◌, ◌-◌, ◌*◌, ◌<◌, ◌≤◌, List, [], ◌++◌, length, take, Option, Some, None, IfSome, option_to_list, Bool, true, false, nat_lt, count_by, ◌&&◌}
use Rattle.journal_core.specs.Limits.{max_number}
use Rattle.journal_core.specs.declared.heard.Heard.{Heard}
use Rattle.journal_core.specs.declared.heard.Heard.TheVariants.{Answer}
use Rattle.journal_core.specs.declared.reply.Reply.TheVariants as reply
use Rattle.journal_core.specs.declared.peer_call.PeerCall.{PeerCall}
use Rattle.ns_edits.specs.Replay.{Image, replay_from}
use Rattle.play_names.specs.Holding.{Holding, Tails, Broken, with_work}
use Rattle.play_names.specs.Tails.{TailStep, GoesOn, Ends, Breaks, Caught, Reached, PurgedFrom, BehindBy, without_end, is_not_here}
use Rattle.play_standby.specs.declared.step.Step.{Step}
use Rattle.play_standby.specs.declared.step.Step.TheVariants as step
use Rattle.play_names.specs.declared.tailed.Tailed.{Tailed}
use Rattle.play_names.specs.declared.tailed.Tailed.TheVariants as tailed
use Rattle.play_standby.specs.Standbys.{StandbyView, held}
use Rattle.play_standby.specs.Reads.{LeadsTail, next_read}

-- a pass in which the first nodes told this: the next node is asked next
abbrev pub begin_asking : Option ℕ → List Heard → Holding → Holding
begin_asking until told h = with_work (Tails until (length told + 1) told) h

-- The tail ended at this step, with this answer.
abbrev pub IsEnd : TailStep → List Image → StandbyView → Tailed → Type 0
IsEnd x images s (tailed.Caught txid) = (x ≡ Ends Caught (held images s)) × (txid ≡ s.position)
IsEnd x images s (tailed.Reached txid) = (x ≡ Ends Reached (held images s)) × (txid ≡ s.position)
IsEnd x images s (tailed.Behind txid causes) = (x ≡ Ends (BehindBy causes) (held images s)) × (txid ≡ s.position)
IsEnd x images s (tailed.Purged first) = x ≡ Ends (PurgedFrom first) (held images s)
IsEnd x images s (tailed.BadEntry txid) = (x ≡ Breaks (with_work Broken (held images s))) × (txid ≡ s.position + 1)
IsEnd x images s tailed.OutOfMemory = ⊥

-- It stands at this step: it goes on, or it ended.
abbrev pub IsStep : TailStep → Option ℕ → List Heard → List Image → StandbyView → Step → Type 0
IsStep x until told images s step.Going = x ≡ GoesOn (begin_asking until told (held images s))
IsStep x until told images s (step.Ended t) = IsEnd x images s t

-- it stands so after these calls
pub record StandsAt (nodes : ℕ) (begun : TailStep) (before after : List PeerCall) (until : Option ℕ) (told : List Heard) (images : List Image) (s : StandbyView) (t : Step) : Type 0 where
  pub here : TailStep
  pub leads : LeadsTail nodes begun before after here
  pub is : IsStep here until told images s t

-- ## Lack of memory
-- the edits that a call gave
abbrev pub edits_in : Heard → List (List ℕ)
edits_in (Answer (reply.Edits batch)) = batch.bodies
edits_in _ = []

abbrev pub edits_given : Option PeerCall → List (List ℕ)
edits_given None = []
edits_given (Some c) = edits_in c.heard

-- Memory was wanting after some reads, or while the last of them was taken: what was applied of it
-- stays.
pub record StopsShort (nodes : ℕ) (begun : TailStep) (images : List Image) (before after : List PeerCall) (s : StandbyView) : Type 0 where
  pub mid : List PeerCall
  pub here : Holding
  pub leads : LeadsTail nodes begun before mid (GoesOn here)
  pub last : Option PeerCall
  pub asked : IfSome last (λ c. next_read (GoesOn here) ≡ Some (c.node, c.request))
  pub grew : after ≡ mid ++ option_to_list last
  -- so many of the edits that it gave
  pub count : ℕ
  pub applied : replay_from here.position (take count (edits_given last)) here.space ≡ Some s.space
  pub position : s.position ≡ here.position + length (take count (edits_given last))

-- ## The answer
pub record TailEnds (nodes : ℕ) (begun : TailStep) (images : List Image) (before after : List PeerCall) (s : StandbyView) (t : Tailed) : Type 0 where
  pub end : TailStep
  pub leads : LeadsTail nodes begun before after end
  pub is : IsEnd end images s t

-- what came of a tail that began at a step, where the list of calls grew from `before` to `after`
abbrev pub IsTailed : ℕ → TailStep → List Image → List PeerCall → List PeerCall → StandbyView → Tailed → Type 0
IsTailed nodes begun images before after s tailed.OutOfMemory = StopsShort nodes begun images before after s
IsTailed nodes begun images before after s t = TailEnds nodes begun images before after s t

-- ## Steps
-- a tail without an end that a majority told that there is no more
abbrev pub is_caught : Option ℕ → List Heard → Bool
is_caught until told = without_end until && nat_lt (length told) (2 * count_by is_not_here told)

abbrev pub is_going : Step → Bool
is_going step.Going = true
is_going (step.Ended t) = false

-- an answer with edits
abbrev pub gives_edits : Heard → Bool
gives_edits (Answer (reply.Edits batch)) = true
gives_edits _ = false

-- Only a tail that is at its end has reached it, and only one without an end has caught up.
abbrev pub IsExact : Option ℕ → ℕ → Tailed → Type 0
IsExact until position (tailed.Caught txid) = until ≡ None
IsExact until position (tailed.Reached txid) = until ≡ Some position
IsExact until position (tailed.Behind txid causes) = until ≢ Some position
IsExact until position (tailed.Purged first) = until ≢ Some position
IsExact until position (tailed.BadEntry txid) = until ≢ Some position
IsExact until position tailed.OutOfMemory = Unit {0}

-- while it goes on the end isn't reached
abbrev pub IsGoing : Option ℕ → ℕ → Step → Type 0
IsGoing until position step.Going = ForSome until (λ last. position < last)
IsGoing until position (step.Ended t) = IsExact until position t

-- and some node is still to be asked
abbrev pub Goes : Option ℕ → ℕ → List Heard → ℕ → Step → Type 0
Goes until nodes told position step.Going = (ForSome until (λ last. position < last)) × (length told < nodes)
Goes until nodes told position (step.Ended t) = IsExact until position t

abbrev pub IsMore : ℕ → ℕ → ℕ → Step → Type 0
IsMore nodes before now step.Going = (now ≡ before + 1) × (now < nodes)
IsMore nodes before now (step.Ended t) = Unit {0}

-- the position has risen, and is a txid
pub record IsLater (old new : ℕ) : Type 0 where
  pub higher : old < new
  pub within : new ≤ max_number

-- how many reads a tail still makes at most
abbrev pub tail_left : ℕ → List Heard → ℕ → Step → ℕ
tail_left nodes told position step.Going = (nodes + 1) * (max_number - position) + (nodes - length told) + 1
tail_left nodes told position (step.Ended t) = 0

-- so many of these edits were applied
pub record IsPart (bodies : List (List ℕ)) (old new : StandbyView) : Type 0 where
  pub count : ℕ
  pub applied : replay_from old.position (take count bodies) old.space ≡ Some new.space
  pub position : new.position ≡ old.position + length (take count bodies)
