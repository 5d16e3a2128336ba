use Rattle.std.proofs.Common.{◌≡◌}
use Rattle.play_pipes.specs.Desks.{HasPut}
use Rattle.play_pipes.proofs.desk.put_all.Given as goal

abbrev pub invariant-loop-k : goal.invariant-loop-k
invariant-loop-k g l = (l.count ≡ l.k) × HasPut l.nodes l.request l.k l.initial.ends.items l.ends.items
