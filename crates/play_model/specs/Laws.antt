-- What holds of every play, of every actor that is led, and of their lists.
use Rattle.std.specs.Prelude.{◌≡◌, ℕ, ◌+◌, ◌<◌, ◌≤◌, Bool, false, List, [], ◌∷◌, ◌++◌, true}
use Rattle.journal_history.specs.declared.record.Record.{Record}
use Rattle.journal_history.specs.Cell.{fresh_cell, IsLocalRun}
use Rattle.journal_history.specs.Moving.{moving_of}
use Rattle.run_safety.specs.Run.{IsRun}
use Rattle.mesh.specs.Makers.{IsOfTasks, IsOfChores}
use Rattle.mesh.specs.declared.whole.Mesh.{Mesh}
use Rattle.ns_tree.specs.declared.end.End.{End}
use Rattle.mesh.specs.Agree.{Agrees}
use Rattle.mesh.specs.Order.{placed_at, entries_at, epoch_order}
use Rattle.play_script.specs.Scripts.{ScriptView}
use Rattle.play_model.specs.Lines.{Action, AreActions, Line, ArePlayable, HasNodes, IsPlayable}
use Rattle.play_model.specs.Actor.{Actor, Rests, wants, settle, hand_action, actor_after, IsLed}
use Rattle.play_model.specs.Plays.{Play, IsPlay, Plays, play_steps, play_begins, history_of, mesh_of, ends_of}
use Rattle.play_model.specs.Safe.{IsSafeWithEnds, HoldNothing}
use Rattle.play_model.specs.Follows.{actor_with, FollowsLines, FollowsScript, Follows}
use Rattle.journal_history.specs.declared.mark.Mark.{Mark}
use Rattle.play_model.specs.Told.{told_in, results_in}
use Rattle.play_model.specs.EditResults.{AreResults, AreRaw, NeverBroken}

-- ## Plays. Of any lines at all, and of scripts
abbrev pub LinesAgree : Type 0
LinesAgree =
    (named : Bool) → (nodes : ℕ) → (lines : List Line) → (p : Play) → HasNodes named nodes → ArePlayable named nodes 0 lines → IsPlay named nodes lines p
    → Agrees (mesh_of p)

abbrev pub LinesFollow : Type 0
LinesFollow =
    (named : Bool) → (nodes : ℕ) → (lines : List Line) → (p : Play) → HasNodes named nodes → ArePlayable named nodes 0 lines → IsPlay named nodes lines p
    → FollowsLines named nodes lines (mesh_of p) (ends_of p)

abbrev pub PlaysAgree : Type 0
PlaysAgree = (s : ScriptView) → (p : Play) → IsPlayable s → Plays s p → Agrees (mesh_of p)

abbrev pub PlaysFollow : Type 0
PlaysFollow = (s : ScriptView) → (p : Play) → IsPlayable s → Plays s p → FollowsScript s (mesh_of p) (ends_of p)

-- the moving entries of a play, in script order, are a run of the journal world
abbrev pub LinesAreRuns : Type 0
LinesAreRuns =
    (named : Bool) → (nodes : ℕ) → (lines : List Line) → (p : Play) → HasNodes named nodes → ArePlayable named nodes 0 lines → IsPlay named nodes lines p
    → IsRun nodes (moving_of p.trace)

-- and at each node they are the node's, in its order
abbrev pub LinesKeepNodes : Type 0
LinesKeepNodes =
    (named : Bool) → (nodes : ℕ) → (lines : List Line) → (p : Play) → HasNodes named nodes → ArePlayable named nodes 0 lines → IsPlay named nodes lines p
    → (i : ℕ) → i < nodes → entries_at (i + 1) (moving_of p.trace) ≡ moving_of (placed_at (mesh_of p) i)

abbrev pub PlaysAreRuns : Type 0
PlaysAreRuns = (s : ScriptView) → (p : Play) → IsPlayable s → Plays s p → IsRun s.nodes (moving_of p.trace)

-- of every mesh that agrees, whoever made it, with whatever actors that hold nothing
abbrev pub MeshesAreSafe : Type 0
MeshesAreSafe = (m : Mesh) → (ends : List End) → Agrees m → HoldNothing ends → IsSafeWithEnds m.nodes (epoch_order m) ends

abbrev pub OnePlay : Type 0
OnePlay = (s : ScriptView) → (p q : Play) → Plays s p → Plays s q → p ≡ q

-- also of a play that has not ended
abbrev pub LocalRuns : Type 0
LocalRuns =
    (named : Bool) → (nodes : ℕ) → (lines : List Line) → (steps i : ℕ) → HasNodes named nodes → ArePlayable named nodes 0 lines → i < nodes
    → IsLocalRun fresh_cell (history_of (i + 1) (play_steps steps (play_begins named nodes lines)).trace)

-- ## Actors. Lines that are handed over together, or one after the other
abbrev pub LinesOneByOne : Type 0
LinesOneByOne = (ds : List Action) → (d : Action) → (a : Actor) → settle (ds ++ d ∷ []) a ≡ hand_action d (settle ds a)

-- one more line leaves what the actor did before, and is taken where it left off
abbrev pub LineLater : Type 0
LineLater =
    (a : Actor) → (rs : List Record) → (d : Action) → IsLed a rs
    → IsLed (hand_action d a) rs × (actor_after (hand_action d a) rs ≡ hand_action d (actor_after a rs))

-- an actor's calls are those of its tasks and its tails
abbrev pub LedIsMade : Type 0
LedIsMade =
    (named : Bool) → (nodes : ℕ) → (ds : List Action) → (rs : List Record) → AreActions named ds → IsLed (actor_with named nodes ds) rs → IsOfChores nodes rs

-- and without names of its tasks alone
abbrev pub LedIsOfTasks : Type 0
LedIsOfTasks = (nodes : ℕ) → (ds : List Action) → (rs : List Record) → AreActions false ds → IsLed (actor_with false nodes ds) rs → IsOfTasks nodes rs

-- what its calls were told fixes an actor's whole record
abbrev pub OneRecord : Type 0
OneRecord =
    (a : Actor) → (rs xs : List Record) → IsLed a rs → IsLed a xs → wants (actor_after a rs) ≡ Rests → wants (actor_after a xs) ≡ Rests
    → told_in rs ≡ told_in xs → rs ≡ xs

-- an actor that follows its lines says each line's results in order: one for each edit of a log
-- line
abbrev pub EachResult : Type 0
EachResult =
    (nodes : ℕ) → (ds : List Action) → (rs : List Record) → (plan : List Mark) → (e : End) → 1 ≤ nodes → AreRaw ds → Follows false nodes ds rs plan e
    → AreResults ds (results_in rs)

-- and with names, unless it meets a bad entry: one for each edit that is submitted
abbrev pub EachNamedResult : Type 0
EachNamedResult =
    (nodes : ℕ) → (ds : List Action) → (rs : List Record) → (plan : List Mark) → (e : End) → 1 ≤ nodes → AreActions true ds → Follows true nodes ds rs plan e
    → NeverBroken (actor_with true nodes ds) rs → AreResults ds (results_in rs)
