-- What the actors of a script with names did, by the line of an order of their mesh's entries.
use Rattle.std.specs.Prelude.{◌≡◌, ℕ, ◌<◌, List, Contains, Some, false}
use Rattle.journal_core.specs.Views.{HeadView, BatchView}
use Rattle.journal_core.specs.declared.request.Request.TheVariants.{Journal}
use Rattle.journal_history.specs.declared.record.Record.TheVariants.{Call}
use Rattle.journal_history.specs.declared.record.Told.{Told}
use Rattle.journal_history.specs.Entries.{Entry}
use Rattle.mesh.specs.declared.whole.Mesh.{Mesh}
use Rattle.mesh.specs.Agree.{operator_of, record_of}
use Rattle.ns_tree.specs.Space.{Space}
use Rattle.ns_edits.specs.Replay.{replay}
use Rattle.ns_edits.specs.Calls.{CallsApart}
use Rattle.play_names.specs.Holding.{Holding}
use Rattle.play_model.specs.Actor.{Actor, is_broken}
use Rattle.play_laws.specs.Linear.{IsOfLine, IsActor, ImagesReplay, IsAdmitted}

-- Whatever an actor logged was admitted after the replay of all that stands on the line before it.
-- At no moment did an actor meet a bad entry, and the images that it then had are those of the
-- line. The line replays, and two of its entries with one call have at least 1,024 entries with a
-- call between them.
pub record KeepsNames (m : Mesh) (entries : List Entry) : Type 0 where
  pub admitted :
      (c k start : ℕ) (head : HeadView) (batch : BatchView) (t : Told) → c < operator_of m
      → Contains (record_of m c) (Call k (Journal head start batch) t) → IsAdmitted m entries batch
  pub unbroken : (c : ℕ) (a : Actor) → c < operator_of m → IsActor m c a → is_broken a ≡ false
  pub images : (c : ℕ) (a : Actor) (h : Holding) → c < operator_of m → IsActor m c a → a.holds ≡ Some h → ImagesReplay m entries h.images
  pub replays : (log : List (List ℕ)) → IsOfLine m entries log → (s : Space) × (replay log ≡ Some s)
  pub apart : (log : List (List ℕ)) → IsOfLine m entries log → CallsApart log
