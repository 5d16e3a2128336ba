use Rattle.std.proofs.Common.{ap, length, arith}
use Rattle.disk_effects.proofs.ApplyLaws.{last_within}
use Rattle.disk_effects.proofs.applying.last_of.Goals as goal

pub overflow_add-first_of : goal.overflow_add-first_of
overflow_add-first_of c = omega (arith, last_within c.args.request.now c.requires, ap length c.bodies_of.ensures, c.first_of.ensures)
