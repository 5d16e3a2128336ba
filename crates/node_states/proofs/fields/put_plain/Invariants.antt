use Rattle.std.proofs.Common.{◌≡◌, ◌++◌, take}
use Rattle.std.specs.Prelude.{codes}
use Rattle.node_states.specs.Fields.{plain}
use Rattle.node_states.proofs.fields.put_plain.Given as goal

-- the bytes so far are added
abbrev pub invariant-loop-byte : goal.invariant-loop-byte
invariant-loop-byte l = l.out.items ≡ (l.fn.out.items ++ codes "\"") ++ plain (take l.byte-index l.text)
