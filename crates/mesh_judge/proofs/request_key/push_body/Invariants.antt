use Rattle.std.proofs.Common.{◌≡◌, ◌++◌, suc, map, take}
use Rattle.mesh_judge.proofs.request_key.push_body.Given as goal

abbrev pub invariant-loop-byte : goal.invariant-loop-byte
invariant-loop-byte l = l.key.items ≡ l.fn.key.items ++ map suc (take l.byte-index l.body)
