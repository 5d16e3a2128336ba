-- Edits that are submitted together, and their round.
use Rattle.std.specs.Prelude.{◌≡◌, ◌≤◌, List, []}
use Rattle.journal_core.specs.Limits.{max_number}
use Rattle.edit_ops.specs.Records.{EditView}
use Rattle.play_names.specs.Submissions.{Due, submit_edits}
use Rattle.play_standby.specs.Pendings.{submission}
use Rattle.play_standby.specs.Actives.{ActiveView, pending_of}
use Rattle.play_standby.specs.declared.synced.Synced.{Synced}
use Rattle.play_standby.specs.declared.synced.Synced.TheVariants as synced

-- one after the other; this became of each, and nothing else changed
pub record AreSubmitted (old : ActiveView) (edits : List EditView) (new : ActiveView) (dues : List Due) : Type 0 where
  pub rest : new ≡ record old { ahead = new.ahead; bodies = new.bodies }
  pub submitted : submit_edits old.writer edits (submission [] (pending_of old)) ≡ submission dues (pending_of new)

-- the txids of a round that was acknowledged are in range
abbrev pub FitsSynced : Synced → Type 0
FitsSynced (synced.Acked first last) = first ≤ max_number
FitsSynced _ = Unit {0}
