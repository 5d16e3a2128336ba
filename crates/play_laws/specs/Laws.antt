-- Safety of a mesh that follows a script with names, and what holds of the actors of any script.
use Rattle.std.specs.Prelude.{ℕ, ◌<◌, ◌≤◌, Bool, true, List}
use Rattle.journal_history.specs.Entries.{Entry}
use Rattle.journal_history.specs.Moving.{moving_of}
use Rattle.mesh.specs.declared.whole.Mesh.{Mesh}
use Rattle.mesh.specs.Agree.{ListsAgree, Agrees, operator_of, record_of}
use Rattle.mesh.specs.Order.{epoch_order}
use Rattle.play_script.specs.Scripts.{ScriptView}
use Rattle.play_model.specs.Lines.{Line, ArePlayable, HasNodes, IsPlayable, lines_of, actions_of}
use Rattle.play_model.specs.Plays.{Play, IsPlay, mesh_of, ends_of}
use Rattle.play_model.specs.Follows.{FollowsScript}
use Rattle.play_model.specs.Told.{results_in}
use Rattle.play_model.specs.EditResults.{AreResults}
use Rattle.ns_tree.specs.declared.end.End.{End}
use Rattle.play_laws.specs.Linear.{IsLinear, IsNamed}
use Rattle.play_laws.specs.Keeps.{KeepsNames}
use Rattle.play_laws.specs.Acked.{TellsAcknowledged}
use Rattle.play_model.specs.Safe.{IsSafeWithEnds}

-- ## Linear orders
-- the epoch order of every mesh that agrees is one
abbrev pub EpochOrderIsLinear : Type 0
EpochOrderIsLinear = (m : Mesh) → Agrees m → IsLinear m (epoch_order m)

-- and so is the order in which the entries of a play came
abbrev pub PlayIsLinear : Type 0
PlayIsLinear =
    (named : Bool) (nodes : ℕ) (lines : List Line) (p : Play) → HasNodes named nodes → ArePlayable named nodes 0 lines → IsPlay named nodes lines p
    → IsLinear (mesh_of p) (moving_of p.trace)

-- ## Safety
-- in any linear order
abbrev pub NamesAreSafe : Type 0
NamesAreSafe =
    (m : Mesh) (entries : List Entry) (lines : List Line) (ends : List End) → ListsAgree m → IsLinear m entries → IsNamed lines m ends
    → IsSafeWithEnds m.nodes entries ends

-- and so in its epoch order
abbrev pub EpochOrderIsSafe : Type 0
EpochOrderIsSafe = (m : Mesh) (lines : List Line) (ends : List End) → Agrees m → IsNamed lines m ends → IsSafeWithEnds m.nodes (epoch_order m) ends

-- So is each play of such a script, in the order in which its entries came and in the order of the
-- epochs.
abbrev pub PlaysAreSafe : Type 0
PlaysAreSafe =
    (nodes : ℕ) (lines : List Line) (p : Play) → 1 ≤ nodes → ArePlayable true nodes 0 lines → IsPlay true nodes lines p
    → IsSafeWithEnds nodes (moving_of p.trace) (ends_of p) × IsSafeWithEnds nodes (epoch_order (mesh_of p)) (ends_of p)

-- ## Names, and results
-- in the epoch order of every mesh that agrees and follows a script with names
abbrev pub NamesAreKept : Type 0
NamesAreKept = (m : Mesh) (lines : List Line) (ends : List End) → Agrees m → IsNamed lines m ends → KeepsNames m (epoch_order m)

-- Of a script with names or without, each line has its results, in order: a log line one for each
-- edit.
abbrev pub EditsHaveOneResult : Type 0
EditsHaveOneResult =
    (s : ScriptView) (m : Mesh) (ends : List End) → IsPlayable s → Agrees m → FollowsScript s m ends → (c : ℕ) → c < operator_of m
    → AreResults (actions_of c (lines_of s)) (results_in (record_of m c))

-- and what they claim is acknowledged
abbrev pub ResultsTellAcknowledged : Type 0
ResultsTellAcknowledged = (s : ScriptView) (m : Mesh) (ends : List End) → IsPlayable s → Agrees m → FollowsScript s m ends → TellsAcknowledged m (epoch_order m)
