-- The bootstrap of a standby over nodes that are called directly and answer by their states, from a
-- disk in memory of which no call fails.
use Rattle.std.specs.Prelude.{◌≡◌, ◌-◌, ℕ, List, [], ◌∷◌, length, All, Option, Some, None, slice_get}
use Rattle.base_disk.specs.declared.mem_disk.MemDisk.{MemDisk}
use Rattle.journal_core.specs.Step.{node_step}
use Rattle.journal_core.specs.declared.heard.Heard.TheVariants.{Answer}
use Rattle.journal_core.specs.declared.node_state.NodeState.{NodeState}
use Rattle.journal_core.specs.declared.peer_call.PeerCall.{PeerCall}
use Rattle.ns_edits.specs.Replay.{Image}
use Rattle.play_names.specs.Holding.{Broken, with_work}
use Rattle.play_names.specs.ImageDisks.{HoldsOn}
use Rattle.play_names.specs.Tails.{TailStep, Ends, Breaks, Caught, PurgedFrom, BehindBy, pass_begun}
use Rattle.play_standby.specs.Standbys.{StandbyView, empty_standby, held}
use Rattle.play_standby.specs.Reads.{AreReads, next_read, tail_along}
use Rattle.play_boot.specs.declared.booted.Booted.{Booted}
use Rattle.play_boot.specs.declared.booted.Booted.TheVariants as booted

-- ## What it begins with
-- the newest of these images, or nothing
abbrev pub begun_of : List Image → StandbyView
begun_of [] = empty_standby
begun_of (i ∷ is) = record { space = i.space; position = i.txid }

abbrev pub image_of : List Image → Option ℕ
image_of [] = None
image_of (i ∷ is) = Some i.txid

-- the disk holds some images
abbrev pub HoldsSome : MemDisk → Type 0
HoldsSome disk = (images : List Image) × HoldsOn disk images

-- ## Where its tail ends
-- a call was answered by the state of its node, one of these
abbrev pub IsAnswered : List (Option NodeState) → PeerCall → Type 0
IsAnswered states c = (s : NodeState) × (slice_get states (c.node - 1) ≡ Some (Some s)) × (c.heard ≡ Answer (node_step s c.request).reply)

-- a tail without an end, from there on, is over here, whichever of its reads these states answer
pub record EndsAt (states : List (Option NodeState)) (begun : StandbyView) (end : TailStep) : Type 0 where
  pub made : List PeerCall
  pub led : AreReads (length states) (pass_begun None (held [] begun)) made
  pub answered : All (IsAnswered states) made
  pub stands : end ≡ tail_along (length states) (pass_begun None (held [] begun)) made
  pub over : next_read end ≡ None

-- ## The answer
-- the tail ended so
abbrev pub IsTold : Option ℕ → TailStep → Booted → Type 0
IsTold image end (booted.Done standby told) = (told ≡ image) × (end ≡ Ends Caught (held [] standby))
IsTold image end (booted.Unreachable have first) = (s : StandbyView) × (s.position ≡ have) × (end ≡ Ends (PurgedFrom first) (held [] s))
IsTold image end (booted.Behind txid causes) = (s : StandbyView) × (s.position ≡ txid) × (end ≡ Ends (BehindBy causes) (held [] s))
IsTold image end (booted.BadEntry txid) = (s : StandbyView) × (end ≡ Breaks (with_work Broken (held [] s)))
IsTold image end booted.OutOfMemory = Unit {0}
IsTold image end _ = ⊥

-- Of these images and states: the disks have no fault, and the newest image is loaded.
abbrev pub IsBootedOver : List (Option NodeState) → List Image → Booted → Type 0
IsBootedOver states images booted.OutOfMemory = Unit {0}
IsBootedOver states images b = (end : TailStep) × EndsAt states (begun_of images) end × IsTold (image_of images) end b

-- ## One end
-- the states decide where a tail ends
abbrev pub TailsEndOnce : Type 0
TailsEndOnce = (states : List (Option NodeState)) (begun : StandbyView) (a b : TailStep) → EndsAt states begun a → EndsAt states begun b → a ≡ b
