use Rattle.std.proofs.Common.{◌≡◌, ◌++◌, take}
use Rattle.mesh_judge.specs.Keys.{bodies_key}
use Rattle.mesh_judge.proofs.request_key.push_bodies.Given as goal

abbrev pub invariant-loop-body : goal.invariant-loop-body
invariant-loop-body l = l.key.items ≡ l.fn.key.items ++ bodies_key (take l.body-index l.bodies)
