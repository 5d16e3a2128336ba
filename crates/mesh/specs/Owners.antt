-- Who owns an epoch in a mesh: the caller of a done round of its proposals.
use Rattle.std.specs.Prelude.{◌≡◌, ℕ, ◌+◌, ◌*◌, ◌<◌, ◌==◌, ◌||◌, nat_lt, Bool, true, false, List, [], ◌∷◌, ◌++◌, Some, if◌then◌else◌}
use Rattle.journal_core.specs.declared.request.Request.{Request}
use Rattle.journal_core.specs.declared.request.Request.TheVariants as request
use Rattle.writer_core.specs.declared.round.Round.TheVariants as round
use Rattle.writer_core.specs.declared.slot.Slot.TheVariants as slot
use Rattle.writer_core.specs.Answers.{is_ok}
use Rattle.journal_history.specs.declared.node_ask.NodeAsk.TheVariants.{Act}
use Rattle.journal_history.specs.declared.history_line.HistoryLine.{HistoryLine}
use Rattle.journal_history.specs.declared.record.Record.{Record}
use Rattle.journal_history.specs.declared.record.Record.TheVariants.{Call, Late, Operator, Outcome}
use Rattle.journal_history.specs.declared.record.Told.{Told}
use Rattle.journal_history.specs.Moving.{epoch_of, is_proposal}
use Rattle.mesh.specs.declared.whole.Mesh.{Mesh}
use Rattle.mesh.specs.Makers.{heard_of}
use Rattle.mesh.specs.Agree.{record_of, history_at}

abbrev pub proposes : ℕ → Request → Bool
proposes epoch (request.NewEpoch e) = e == epoch
proposes epoch _ = false

-- the node promised
abbrev pub promised_to : Told → Bool
promised_to t = is_ok round.Propose (slot.Told (heard_of t))

-- A run of proposals of the epoch, with no other call among them, was promised by more than half of
-- the nodes; so many of them were heard so far.
unfoldable pub wins : ℕ → ℕ → ℕ → List Record → Bool
wins nodes epoch heard [] = nat_lt nodes (2 * heard)
wins nodes epoch heard (Late node r ∷ rs) = wins nodes epoch heard rs
wins nodes epoch heard (Operator node ask done ∷ rs) = wins nodes epoch heard rs
wins nodes epoch heard (Outcome text ∷ rs) = wins nodes epoch heard rs
wins nodes epoch heard (Call node r t ∷ rs) =
    if proposes epoch r then wins nodes epoch (if promised_to t then heard + 1 else heard) rs
    else nat_lt nodes (2 * heard) || wins nodes epoch 0 rs

unfoldable pub owns : Mesh → ℕ → ℕ → Bool
owns m caller epoch = wins m.nodes epoch 0 (record_of m caller)

-- An epoch has at most one owner, and a request with its head comes from its owner.
pub record HasOwners (m : Mesh) : Type 0 where
  pub one : (c d epoch : ℕ) → owns m c epoch ≡ true → owns m d epoch ≡ true → c ≡ d
  pub heads :
      (i : ℕ) → (before after : List HistoryLine) → (h : HistoryLine) → (late : Bool) → (r : Request) → (epoch : ℕ) → i < m.nodes
      → history_at m i ≡ before ++ h ∷ after → h.ask ≡ Act late r → epoch_of r ≡ Some epoch → is_proposal r ≡ false
      → owns m h.caller epoch ≡ true
