-- A worked script with names: an edit is logged, and a standby tails it; and an edit that nobody may
-- log.
use Rattle.std.specs.Prelude.{List, [], ◌∷◌, codes}
use Rattle.journal_core.specs.Views.{BatchView}
use Rattle.edit_ops.specs.declared.op.Op.TheVariants.{Mkdir}
use Rattle.ns_edits.specs.Examples.{plain, log_of}
use Rattle.writer_core.specs.declared.task.Task.TheVariants as task
use Rattle.play_model.specs.Lines.{Line, Declares, Acts, Does, Submits, DoTail}

unfoldable pub tailed_lines : List Line
tailed_lines =
    Declares (codes "a") ∷ Declares (codes "s") ∷ Acts 0 (Does task.Takeover)
    ∷ Acts 0 (Submits (plain (Mkdir (codes "/u") 10 493 (codes "u") (codes "g")) ∷ [])) ∷ Acts 1 DoTail ∷ []

-- on an empty line: a directory without a parent
unfoldable pub orphan_batch : BatchView
orphan_batch = record { first = 1; bodies = log_of (plain (Mkdir (codes "/u/x") 10 493 (codes "u") (codes "g")) ∷ []) }
