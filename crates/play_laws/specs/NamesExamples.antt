-- Worked plays with names: scripts, and what their actors say and end with.
use Rattle.std.specs.Prelude.{ℕ, true, false, List, [], ◌∷◌, ◌++◌, codes, Option, Some}
use Rattle.edit_ops.specs.declared.op.Op.{Op}
use Rattle.edit_ops.specs.declared.op.Op.TheVariants.{Add, Delete, Mkdir, SetOwner, Close, Rename}
use Rattle.ns_tree.specs.declared.end.LastSpace.{LastSpace}
use Rattle.ns_tree.specs.declared.inode.Inode.TheVariants.{Dir, File}
use Rattle.ns_tree.specs.declared.inode.Row.{Row}
use Rattle.ns_tree.specs.Space.{pair}
use Rattle.ns_edits.specs.Examples.{plain, called, mkdir_u}
use Rattle.writer_core.specs.declared.task.Task.TheVariants as task
use Rattle.journal_history.specs.declared.node_ask.NodeAsk.TheVariants.{Kill, Restart}
use Rattle.play_model.specs.Lines.{Line, Declares, Acts, Operates, Action, Does, DoDrop, Submits, Trims, DoTail, Saves, Reloads}
use Rattle.play_model.specs.Actor.{last_of}
use Rattle.play_model.specs.Plays.{Play, play_begins, play_steps, actor_at}

-- ## What a play gives
-- so many steps of it
unfoldable pub played_named : ℕ → ℕ → List Line → Play
played_named steps nodes lines = play_steps steps (play_begins true nodes lines)

unfoldable pub last_at : Play → ℕ → Option LastSpace
last_at p actor = last_of (actor_at p actor).holds

abbrev pub left : ℕ → List Row → Option LastSpace
left position rows = Some (record { position = position; rows = rows })

-- ## Words to write them in
abbrev pub one : Op → Action
one op = Submits (plain op ∷ [])

abbrev pub takes_over : Action
takes_over = Does task.Takeover

-- ## A standby that tails after the writer, saves, and begins again from what it saved
unfoldable pub standby_lines : List Line
standby_lines =
    Declares (codes "a") ∷ Declares (codes "s") ∷ Acts 0 takes_over
    ∷ Acts 0 (one (Mkdir (codes "/u") 10 493 (codes "hdfs") (codes "hdfs")))
    ∷ Acts 0 (one (Mkdir (codes "/u/x") 20 493 (codes "ann") (codes "ops")))
    ∷ Acts 0 (one (Add (codes "/u/x/f") 3 30 30 134217728 420 (codes "ann") (codes "ops")))
    ∷ Acts 1 DoTail
    ∷ Acts 0 (one (Close (codes "/u/x/f") 40 40 (1000 ∷ 2000 ∷ [])))
    ∷ Acts 1 DoTail ∷ Acts 1 Saves
    ∷ Acts 0 (one (Rename (codes "/u/x/f") (codes "/u/g") 50 false))
    ∷ Acts 0 (one (SetOwner (codes "/u/g") (codes "bob") []))
    ∷ Acts 0 (one (Delete (codes "/u/x") 60))
    ∷ Acts 0 (Does task.Roll) ∷ Acts 1 DoTail ∷ Acts 1 Reloads ∷ Acts 1 DoTail ∷ []

unfoldable pub standby_rows : List Row
standby_rows =
    pair (codes "/") (Dir 10 493 (codes "hdfs") (codes "supergroup") 0 0)
    ∷ pair (codes "/u") (Dir 60 493 (codes "hdfs") (codes "hdfs") 0 0)
    ∷ pair (codes "/u/g") (File 3 40 40 134217728 420 (codes "bob") (codes "ops") (1000 ∷ 2000 ∷ []) false)
    ∷ []

-- the lines of `standby_lines`, but the standby saves no image
unfoldable pub unsaved_lines : List Line
unsaved_lines =
    Declares (codes "a") ∷ Declares (codes "s") ∷ Acts 0 takes_over
    ∷ Acts 0 (one (Mkdir (codes "/u") 10 493 (codes "hdfs") (codes "hdfs")))
    ∷ Acts 0 (one (Mkdir (codes "/u/x") 20 493 (codes "ann") (codes "ops")))
    ∷ Acts 0 (one (Add (codes "/u/x/f") 3 30 30 134217728 420 (codes "ann") (codes "ops")))
    ∷ Acts 1 DoTail
    ∷ Acts 0 (one (Close (codes "/u/x/f") 40 40 (1000 ∷ 2000 ∷ [])))
    ∷ Acts 1 DoTail
    ∷ Acts 0 (one (Rename (codes "/u/x/f") (codes "/u/g") 50 false))
    ∷ Acts 0 (one (SetOwner (codes "/u/g") (codes "bob") []))
    ∷ Acts 0 (one (Delete (codes "/u/x") 60))
    ∷ Acts 0 (Does task.Roll) ∷ Acts 1 DoTail ∷ Acts 1 Reloads ∷ Acts 1 DoTail ∷ []

-- ## Edits that are refused, beside one that is logged
unfoldable pub refused_lines : List Line
refused_lines =
    Declares (codes "a") ∷ Acts 0 takes_over
    ∷ Acts 0 (Submits (plain (Mkdir (codes "/a") 1 493 (codes "u") (codes "g"))
    ∷ plain (Mkdir (codes "/a") 2 493 (codes "u") (codes "g"))
    ∷ plain (Mkdir (codes "/b/c") 3 493 (codes "u") (codes "g")) ∷ []))
    ∷ Acts 0 (Does task.Close) ∷ Acts 0 (one (Delete (codes "/a") 4)) ∷ []

-- ## What an image covers is purged, and another standby comes too late
unfoldable pub trimmed_lines : List Line
trimmed_lines =
    Declares (codes "a") ∷ Declares (codes "b") ∷ Acts 0 takes_over
    ∷ Acts 0 (one (Mkdir (codes "/a") 1 493 (codes "u") (codes "g")))
    ∷ Acts 0 (Does task.Roll) ∷ Acts 0 (Does task.Close) ∷ Acts 0 DoTail ∷ Acts 0 Saves ∷ Acts 0 takes_over ∷ Acts 0 (Trims 0) ∷ Acts 1 DoTail ∷ []

-- ## A client that sends its edits again
unfoldable pub repeated_lines : List Line
repeated_lines =
    Declares (codes "a") ∷ Declares (codes "b") ∷ Acts 0 takes_over
    ∷ Acts 0 (Submits (called 7 (mkdir_u 10) ∷ [])) ∷ Acts 0 (Submits (called 7 (mkdir_u 10) ∷ []))
    ∷ Acts 1 takes_over
    ∷ Acts 1 (Submits (called 7 (mkdir_u 10) ∷ [])) ∷ Acts 1 (Submits (called 8 (mkdir_u 11) ∷ []))
    ∷ Acts 1 (Submits (called 9 (Mkdir (codes "/v") 12 493 (codes "u") (codes "g")) ∷ called 9 (Mkdir (codes "/w") 12 493 (codes "u") (codes "g")) ∷ []))
    ∷ []

-- ## A batch that was aborted, and that the writer's next takeover recovers
unfoldable pub survived_lines : List Line
survived_lines =
    Declares (codes "a") ∷ Acts 0 takes_over ∷ Acts 0 (DoDrop 2 1) ∷ Acts 0 (DoDrop 3 1)
    ∷ Acts 0 (Submits (called 7 (mkdir_u 10) ∷ called 7 (mkdir_u 11) ∷ [])) ∷ Acts 0 takes_over ∷ Acts 0 (Submits (called 7 (mkdir_u 10) ∷ called 8 (mkdir_u 12) ∷ []))
    ∷ []

-- ## A takeover whose tail finds the log begun too late; the writer gives up, and what it began stays
unfoldable pub late_lines : List Line
late_lines = trimmed_lines ++ Acts 1 takes_over ∷ Acts 1 (one (Mkdir (codes "/b") 2 493 (codes "u") (codes "g"))) ∷ Operates 1 Kill ∷ Acts 0 DoTail ∷ Operates 1 Restart ∷ Acts 0 takes_over ∷ []
