use Rattle.std.proofs.Common.{◌≡◌, ◌++◌, drop}
use Rattle.journal_step.specs.Index.{entry_is_old}
use Rattle.journal_step.specs.Decisions.{listed}
use Rattle.disk_effects.specs.Decided.{entry_of}
use Rattle.disk_effects.proofs.PurgeLaws.{removes}
use Rattle.disk_effects.proofs.planning.removals.Given as goal

-- the promise and the removals so far, and those of the rest
abbrev pub invariant-loop-row : goal.invariant-loop-row
invariant-loop-row l =
    l.effects.items ++ removes (λ row. entry_is_old l.memory.opened l.newest l.committed l.min (entry_of row)) (drop l.row-index l.table) ≡ listed
    l.fn.promise ++ removes (λ row. entry_is_old l.memory.opened l.newest l.committed l.min (entry_of row)) l.table
