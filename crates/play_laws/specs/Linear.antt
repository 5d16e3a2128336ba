-- A linear order of a mesh, and what its line says of the actors that follow a script with names.
use Rattle.std.specs.Prelude.{◌≡◌, ℕ, ◌+◌, ◌<◌, ◌≤◌, List, [], ◌∷◌, ◌++◌, length, reverse, Some, slice_get, true, false}
use Rattle.journal_core.specs.Views.{HeadView, BatchView}
use Rattle.journal_core.specs.declared.request.Request.TheVariants.{Journal, Read}
use Rattle.journal_core.specs.declared.reply.Reply.TheVariants.{Edits}
use Rattle.ns_tree.specs.Space.{Space}
use Rattle.ns_edits.specs.Replay.{replay, replay_from, IsReplay, Image, IsImage}
use Rattle.writer_core.specs.Rounds.{start_record, end_record}
use Rattle.ns_edits.specs.Calls.{CallsApart}
use Rattle.journal_history.specs.declared.record.Record.{Record}
use Rattle.journal_history.specs.declared.record.Record.TheVariants.{Call}
use Rattle.journal_history.specs.declared.record.Told.{Told}
use Rattle.journal_history.specs.declared.record.Told.TheVariants as told
use Rattle.journal_history.specs.Entries.{Entry}
use Rattle.journal_history.specs.Moving.{moving_of}
use Rattle.run_safety.specs.Run.{IsRun}
use Rattle.run_safety.specs.Safe.{IsOnLine}
use Rattle.mesh.specs.declared.whole.Mesh.{Mesh}
use Rattle.mesh.specs.Agree.{ListsAgree, operator_of, record_of}
use Rattle.mesh.specs.Order.{placed_at, entries_at}
use Rattle.play_model.specs.Lines.{Action, Line, AreActions, actions_of}
use Rattle.play_names.specs.Holding.{Holding}
use Rattle.play_model.specs.Actor.{Actor, wants, Fits, IsLed, actor_after, is_broken}
use Rattle.ns_tree.specs.declared.end.End.{End}
use Rattle.ns_tree.specs.declared.end.LastSpace.{LastSpace}
use Rattle.play_model.specs.Follows.{actor_with, FollowsLines}
use Rattle.play_model.specs.Safe.{AllOn}

-- A run whose entries at each node are the node's moving entries in order: the epoch order of a
-- mesh, or the order of a play.
pub record IsLinear (m : Mesh) (entries : List Entry) : Type 0 where
  pub run : IsRun m.nodes entries
  pub at_nodes : (i : ℕ) → i < m.nodes → entries_at (i + 1) entries ≡ moving_of (placed_at m i)

abbrev pub OnLine : Mesh → List Entry → ℕ → List ℕ → Type 0
OnLine m entries = IsOnLine m.nodes (reverse entries)

-- a log is the line's first entries
abbrev pub IsOfLine : Mesh → List Entry → List (List ℕ) → Type 0
IsOfLine m entries log = AllOn (OnLine m entries) 0 log

-- ## What the order is a premise of
-- whatever a read gave is the line's
abbrev pub ReadsAreOnLine : Type 0
ReadsAreOnLine =
    (m : Mesh) (entries : List Entry) (c node t : ℕ) (batch : BatchView) (before after : List Record) → ListsAgree m → IsLinear m entries → c < operator_of m
    → record_of m c ≡ before ++ Call node (Read (t + 1)) (told.Reply (Edits batch)) ∷ after → AllOn (OnLine m entries) t batch.bodies

-- an actor of a script with names, of this record
pub record IsActor (m : Mesh) (c : ℕ) (a : Actor) : Type 0 where
  pub some : 1 ≤ m.nodes
  pub actions : List Action
  pub are_actions : AreActions true actions
  pub before : List Record
  pub after : List Record
  pub record_is : record_of m c ≡ before ++ after
  pub led : IsLed (actor_with true m.nodes actions) (before ++ after)
  pub is : a ≡ actor_after (actor_with true m.nodes actions) before

-- what it holds is the replay of the line's first entries
pub record HoldsReplay (m : Mesh) (entries : List Entry) (h : Holding) : Type 0 where
  pub log : List (List ℕ)
  pub of_line : IsOfLine m entries log
  pub position : length log ≡ h.position
  pub replayed : replay log ≡ Some h.space

-- and so is each image
abbrev pub ImagesReplay : Mesh → List Entry → List Image → Type 0
ImagesReplay m entries [] = Unit {0}
ImagesReplay m entries (i ∷ is) = ((log : List (List ℕ)) × IsOfLine m entries log × IsImage log i) × ImagesReplay m entries is

-- at every moment
abbrev pub ActorsHoldReplays : Type 0
ActorsHoldReplays =
    (m : Mesh) (entries : List Entry) (c : ℕ) (a : Actor) (h : Holding) → ListsAgree m → IsLinear m entries → c < operator_of m → IsActor m c a
    → a.holds ≡ Some h → HoldsReplay m entries h × ImagesReplay m entries h.images

-- ## Scripts with names
-- the mesh and its ends are of these lines
pub record IsNamed (lines : List Line) (m : Mesh) (ends : List End) : Type 0 where
  pub some : 1 ≤ m.nodes
  pub actions : (c : ℕ) → AreActions true (actions_of c lines)
  pub as_many : length ends ≡ operator_of m
  pub follows : FollowsLines true m.nodes lines m ends

-- each end is a replay of the line's first entries
abbrev pub EndsAreReplays : Type 0
EndsAreReplays =
    (m : Mesh) (entries : List Entry) (lines : List Line) (ends : List End) (c : ℕ) (e : End) → ListsAgree m → IsLinear m entries → IsNamed lines m ends
    → slice_get ends c ≡ Some e
    → (last : LastSpace) × (e.last ≡ Some last) × ((log : List (List ℕ)) × IsOfLine m entries log × (length log ≡ last.position) × IsReplay log last.rows)

-- What an actor logs: the record that begins a segment, the one that ends it, or edits that are
-- admitted one after the other after the replay of all that stands on the line before them.
pub data IsAdmitted (m : Mesh) (entries : List Entry) (batch : BatchView) : Type 0 where
  begins : batch.bodies ≡ start_record → IsAdmitted m entries batch
  ends : batch.bodies ≡ end_record → IsAdmitted m entries batch
  edits :
      (log : List (List ℕ)) (s ahead : Space) → IsOfLine m entries log → length log + 1 ≡ batch.first → replay log ≡ Some s
      → replay_from (length log) batch.bodies s ≡ Some ahead → IsAdmitted m entries batch

abbrev pub LogsAreAdmitted : Type 0
LogsAreAdmitted =
    (m : Mesh) (entries : List Entry) (c : ℕ) (a : Actor) (k : ℕ) (head : HeadView) (start : ℕ) (batch : BatchView) (t : Told) → ListsAgree m → IsLinear m entries → c < operator_of m
    → IsActor m c a → Fits (wants a) (Call k (Journal head start batch) t) → IsAdmitted m entries batch

-- the line replays, up to each of its txids
abbrev pub LineReplays : Type 0
LineReplays =
    (m : Mesh) (entries : List Entry) (lines : List Line) (ends : List End) (log : List (List ℕ)) → ListsAgree m → IsLinear m entries → IsNamed lines m ends
    → IsOfLine m entries log → (s : Space) × (replay log ≡ Some s)

-- no actor meets a bad entry
abbrev pub NoneBreaks : Type 0
NoneBreaks =
    (m : Mesh) (entries : List Entry) (lines : List Line) (ends : List End) (c : ℕ) (a : Actor) → ListsAgree m → IsLinear m entries → IsNamed lines m ends
    → c < operator_of m → IsActor m c a → is_broken a ≡ false

-- entries of one client's call are far apart on the line
abbrev pub LineCallsApart : Type 0
LineCallsApart =
    (m : Mesh) (entries : List Entry) (lines : List Line) (ends : List End) (log : List (List ℕ)) → ListsAgree m → IsLinear m entries → IsNamed lines m ends
    → IsOfLine m entries log → CallsApart log
