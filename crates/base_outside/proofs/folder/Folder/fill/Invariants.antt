use Rattle.std.proofs.Common.{length, ◌-◌, ◌≤◌, ◌≡◌}
use Rattle.base_outside.proofs.folder.Folder.fill.Given as goal

-- so many bytes are read, and no name changed
abbrev pub invariant-loop-count : goal.invariant-loop-count
invariant-loop-count g l =
    (l.count ≤ length l.into) × (length l.into ≡ length l.initial.into)
    × (g.S.FolderModel.names l.self-inside.system ≡ g.S.FolderModel.names l.initial.self-inside.system)
    × (l.self-inside.are_stored ≡ l.initial.self-inside.are_stored) × (l.self-inside.is_stopped ≡ l.initial.self-inside.is_stopped)

abbrev pub decreases-loop-count : goal.decreases-loop-count
decreases-loop-count g l = length l.initial.into - l.count
