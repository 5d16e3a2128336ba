-- What holds of a node that serves a takeover: before it is called in a round, and after it
-- answered.
use Rattle.std.proofs.Common.{◌≡◌, ℕ, ◌<◌, ◌≤◌, ◌⊎◌, List, [], ◌∷◌, true, false, Some}
use Rattle.journal_core.specs.Views.{HeadView, last_txid}
use Rattle.journal_core.specs.Limits.{head_of}
use Rattle.journal_core.specs.Reads.{told_of}
use Rattle.journal_core.specs.Segments.{find_segment, newest, any_body}
use Rattle.journal_core.specs.declared.node_state.NodeState.{NodeState}
use Rattle.journal_core.specs.declared.request.Request.{Request}
use Rattle.journal_core.specs.declared.reply.Reply.{Reply}
use Rattle.journal_core.specs.declared.reply.Reply.TheVariants as reply
use Rattle.journal_core.specs.declared.heard.Heard.TheVariants.{Answer}
use Rattle.writer_core.specs.declared.round.Round.{Round}
use Rattle.writer_core.specs.declared.round.Round.TheVariants as round
use Rattle.writer_core.specs.declared.slot.Slot.TheVariants.{Waiting, Told}
use Rattle.writer_core.specs.Views.{WriterView}
use Rattle.writer_core.specs.Answers.{fits_round}
use Rattle.writer_core.specs.Rounds.{numbers_fit}
use Rattle.run_safety.specs.Actings.{CallMade}
use Rattle.run_safety.proofs.Slots.{At}
use Rattle.run_world.proofs.Heeding.{UpTo, Below, IsOpened, HoldsTo, MayAccept}

-- ## Out of the count: a higher promise, or down
abbrev pub Off : ℕ → NodeState → Type 0
Off epoch s = (epoch < s.promised) ⊎ (s.up ≡ false)

-- the calls that the actor made to a node under an epoch have serials up to this one
abbrev pub AreOld : ℕ → ℕ → ℕ → List CallMade → Type 0
AreOld node epoch top [] = Unit {0}
AreOld node epoch top (x ∷ xs) = (x.node ≡ node → (h : HeadView) → head_of x.request ≡ Some h → h.epoch ≡ epoch → h.serial ≤ top) × AreOld node epoch top xs

-- a prepare answer that tells what the node has
abbrev pub Tells : ℕ → NodeState → Reply → Type 0
Tells m s x = (writer : ℕ) × (known : ℕ) × (x ≡ reply.Prepared writer known (told_of (find_segment m s.segments)))

-- ## By round
abbrev pub Due : Round → WriterView → NodeState → Type 0
Due round.State v s = ⊥
Due round.Propose v s = ⊥
Due (round.Prepare m) v s = UpTo m s
Due (round.Fetch node m end bodies) v s = ⊥
Due (round.Accept b) v s = UpTo b.first s × MayAccept b (find_segment b.first s.segments) × (any_body b.bodies ≡ true)
Due (round.Finalize m l) v s = UpTo m s × HoldsTo v.epoch m l s
Due round.Start v s = Below v.start s
Due round.Open v s = IsOpened v.epoch v.start s
Due (round.Write bodies) v s = ⊥
Due (round.Purge min) v s = ⊥

abbrev pub Had : Round → WriterView → NodeState → Reply → Type 0
Had round.State v s x = ⊥
Had round.Propose v s x = ⊥
Had (round.Prepare m) v s x = UpTo m s × Tells m s x
Had (round.Fetch node m end bodies) v s x = UpTo m s × Tells m s x
Had (round.Accept b) v s x = UpTo b.first s × HoldsTo v.epoch b.first (last_txid b) s
Had (round.Finalize m l) v s x = UpTo m s
Had round.Start v s x = IsOpened v.epoch v.start s
Had round.Open v s x = Unit {0}
Had (round.Write bodies) v s x = ⊥
Had (round.Purge min) v s x = ⊥

-- while pieces are fetched, each serial is new to all nodes
abbrev pub Serial : Round → ℕ → ℕ → Type 0
Serial (round.Fetch node m end bodies) s top = s < top
Serial _ s top = s ≤ top

pub record Ready (r : Round) (v : WriterView) (s : NodeState) (calls : List CallMade) (i : ℕ) : Type 0 where
  pub bound : s.promised ≡ v.epoch
  pub serial : s.serial < v.serial
  pub due : Due r v s
  pub old : AreOld i v.epoch s.serial calls

pub record After (r : Round) (v : WriterView) (s : NodeState) (calls : List CallMade) (i : ℕ) (x : Reply) : Type 0 where
  pub bound : s.promised ≡ v.epoch
  pub serial : Serial r s.serial v.serial
  pub had : Had r v s x
  pub old : AreOld i v.epoch s.serial calls

-- while pieces are fetched, no numbers are tested when an answer is counted
abbrev pub NumbersFit : Round → WriterView → Type 0
NumbersFit (round.Fetch node m end bodies) v = Unit {0}
NumbersFit r v = numbers_fit v r ≡ true

-- a node's part in a round
pub data Part (r : Round) (v : WriterView) (s : NodeState) (calls : List CallMade) (i : ℕ) : Type 0 where
  waits : At 1 v.slots i Waiting → Off v.epoch s ⊎ Ready r v s calls i → Part r v s calls i
  told : (x : Reply) → At 1 v.slots i (Told (Answer x)) → fits_round r x ≡ true → NumbersFit r v → Off v.epoch s ⊎ After r v s calls i x → Part r v s calls i

-- and in the round that proposes the epoch
pub record Voted (v : WriterView) (s : NodeState) (x : Reply) : Type 0 where
  pub bound : s.promised ≡ v.epoch
  pub serial : s.serial ≡ 0
  pub tells : x ≡ reply.NewEpoch (newest s.segments)

pub data Voter (v : WriterView) (s : NodeState) (i : ℕ) : Type 0 where
  waits : At 1 v.slots i Waiting → Voter v s i
  told : (x : Reply) → At 1 v.slots i (Told (Answer x)) → fits_round round.Propose x ≡ true → numbers_fit v round.Propose ≡ true → Off v.epoch s ⊎ Voted v s x → Voter v s i

-- ## A request that isn't the takeover's own next call
abbrev pub IsOutside : ℕ → NodeState → Request → Type 0
IsOutside epoch s q = (h : HeadView) → head_of q ≡ Some h → h.epoch ≡ epoch → s.serial < h.serial → ⊥
