use Rattle.std.proofs.Common.{◌≡◌, ◌++◌, take}
use Rattle.journal_text.specs.Texts.{bodies_text}
use Rattle.journal_text.proofs.printing.put_bodies.Given as goal

-- the text of those so far is added
abbrev pub invariant-loop-body : goal.invariant-loop-body
invariant-loop-body l = l.out.items ≡ l.fn.out.items ++ bodies_text (take l.body-index l.bodies)
