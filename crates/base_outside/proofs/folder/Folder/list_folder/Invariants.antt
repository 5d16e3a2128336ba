use Rattle.std.proofs.Common.{◌≡◌}
use Rattle.base_outside.proofs.folder.Folder.list_folder.Given as goal

-- no name changed
abbrev pub invariant-loop-name : goal.invariant-loop-name
invariant-loop-name g l = l.self ≡ l.fn.self
