use Rattle.std.proofs.Common.{◌≡◌, ◌++◌, take}
use Rattle.journal_core.proofs.body_list.push_shared.Given as goal

-- the bodies so far are added
abbrev pub invariant-loop-body : goal.invariant-loop-body
invariant-loop-body l = l.items.items ≡ l.fn.items.items ++ take l.body-index l.bodies
