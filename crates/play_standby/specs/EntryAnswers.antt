-- The answers of a standby that enters the active role, as what comes of its takeover.
use Rattle.std.specs.Prelude.{ℕ, ◌≡◌, List, [], true}
use Rattle.journal_core.specs.declared.peer_call.PeerCall.{PeerCall}
use Rattle.ns_edits.specs.Replay.{Image}
use Rattle.writer_core.specs.Views.{WriterView}
use Rattle.writer_calls.specs.Led.{nodes_of}
use Rattle.play_standby.specs.Standbys.{StandbyView}
use Rattle.play_standby.specs.declared.taking.TakenOver.{TakenOver}
use Rattle.play_standby.specs.declared.taking.TakenOver.TheVariants as taken
use Rattle.play_standby.specs.declared.entered.Entered.{Entered}
use Rattle.play_standby.specs.declared.entered.Entered.TheVariants as entered
use Rattle.play_standby.specs.Entering.{IsTakenOver}

-- a takeover of this writer and standby was answered so
abbrev pub IsAnswer : WriterView → StandbyView → TakenOver → Entered → Type 0
IsAnswer w s t (entered.Active active epoch first) =
    (t ≡ taken.Active epoch first) × (active ≡ record { writer = w; position = first; ahead = s.space; bodies = []; whole = true })
IsAnswer w s t (entered.Aborted writer standby causes) = (t ≡ taken.Aborted causes) × (writer ≡ w) × (standby ≡ s)
IsAnswer w s t (entered.EpochLimit writer standby told) = (t ≡ taken.EpochLimit told) × (writer ≡ w) × (standby ≡ s)
IsAnswer w s t (entered.Behind writer standby txid causes) = (t ≡ taken.Behind txid causes) × (writer ≡ w) × (standby ≡ s)
IsAnswer w s t (entered.Purged writer standby first) = (t ≡ taken.Purged first) × (writer ≡ w) × (standby ≡ s)
IsAnswer w s t (entered.BadEntry writer standby txid) = (t ≡ taken.BadEntry txid) × (writer ≡ w) × (standby ≡ s)
IsAnswer w s t (entered.OutOfMemory writer standby) = (t ≡ taken.OutOfMemory) × (writer ≡ w) × (standby ≡ s)

-- what came of the takeover by a standby with the writer `old`, at so many nodes, and the answer to
-- it
pub record IsEntry (nodes : ℕ) (images : List Image) (old : WriterView) (from : StandbyView) (before after : List PeerCall) (answer : Entered) : Type 0 where
  pub writer : WriterView
  pub to : StandbyView
  pub taken : TakenOver
  pub is : IsTakenOver nodes images old from before after writer to taken
  pub answered : IsAnswer writer to taken answer

-- an active name node has as many nodes as its peers, and no edit is pending
abbrev pub IsFresh : ℕ → Entered → Type 0
IsFresh nodes (entered.Active active epoch first) = (nodes_of active.writer ≡ nodes) × (active.bodies ≡ [])
IsFresh nodes _ = Unit {0}

-- memory sufficed
abbrev pub HasMemory : Entered → Type 0
HasMemory (entered.OutOfMemory writer standby) = ⊥
HasMemory _ = Unit {0}
