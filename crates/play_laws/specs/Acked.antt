-- What the result lines of a mesh claim: each tells an edit, or a record of a segment's ends, that
-- is acknowledged.
use Rattle.std.specs.Prelude.{◌≡◌, ℕ, ◌-◌, ◌<◌, ◌^◌, List, [], ◌∷◌, reverse, Contains, codes}
use Rattle.journal_core.specs.Views.{HeadView, BatchView}
use Rattle.journal_core.specs.declared.request.Request.TheVariants.{Journal}
use Rattle.writer_core.specs.Rounds.{start_record, end_record}
use Rattle.journal_history.specs.declared.record.Record.TheVariants.{Call, Outcome}
use Rattle.journal_history.specs.declared.record.Told.{Told}
use Rattle.journal_history.specs.Entries.{Entry}
use Rattle.run_safety.specs.Safe.{HasBody, IsAcknowledged, IsOnLine}
use Rattle.mesh.specs.declared.whole.Mesh.{Mesh}
use Rattle.mesh.specs.Agree.{operator_of, record_of}
use Rattle.play_names.specs.Results.{word, took}

-- the actor called a node with a batch under this epoch that has this body at this txid
pub record IsLoggedBy (m : Mesh) (c epoch txid : ℕ) (body : List ℕ) : Type 0 where
  pub node : ℕ
  pub start : ℕ
  pub head : HeadView
  pub batch : BatchView
  pub told : Told
  pub called : Contains (record_of m c) (Call node (Journal head start batch) told)
  pub under : head.epoch ≡ epoch
  pub has : HasBody batch.first batch.bodies txid body

-- The actor logged a body at this txid under some epoch, and that is acknowledged: it is on the
-- line.
pub record IsAckedBy (m : Mesh) (entries : List Entry) (c txid : ℕ) : Type 0 where
  pub epoch : ℕ
  pub body : List ℕ
  pub logged : IsLoggedBy m c epoch txid body
  pub acknowledged : IsAcknowledged m.nodes (reverse entries) epoch txid body
  pub on_line : IsOnLine m.nodes (reverse entries) txid body

-- such a body, which is a record that begins or ends a segment
abbrev pub IsRecordBy : Mesh → List Entry → ℕ → ℕ → List (List ℕ) → Type 0
IsRecordBy m entries c txid bodies = (x : IsAckedBy m entries c txid) × (bodies ≡ x.body ∷ [])

-- a result line of the actor
abbrev pub Says : Mesh → ℕ → List ℕ → Type 0
Says m c text = Contains (record_of m c) (Outcome text)

-- Numbers below 2 ^ 64 are read back from what is said: no others are.
pub record TellsAcknowledged (m : Mesh) (entries : List Entry) : Type 0 where
  pub edits : (c txid : ℕ) → c < operator_of m → txid < 2 ^ 64 → Says m c (word (codes "acked") txid) → IsAckedBy m entries c txid
  -- the record that begins the new segment, under the new epoch
  pub takeovers :
      (c epoch first : ℕ) → c < operator_of m → epoch < 2 ^ 64 → first < 2 ^ 64 → Says m c (took epoch first)
      → (x : IsRecordBy m entries c first start_record) × (x.0.epoch ≡ epoch)
  -- that one, and the one that ends the segment before it
  pub rolls :
      (c start : ℕ) → c < operator_of m → start < 2 ^ 64 → Says m c (word (codes "roll") start)
      → IsRecordBy m entries c start start_record × IsRecordBy m entries c (start - 1) end_record
  pub closes :
      (c last : ℕ) → c < operator_of m → last < 2 ^ 64 → Says m c (word (codes "close") last)
      → IsRecordBy m entries c last end_record
