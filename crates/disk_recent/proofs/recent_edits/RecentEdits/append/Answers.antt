use Rattle.std.proofs.Common.{arith, ap, length}
use Rattle.disk_recent.proofs.recent_edits.RecentEdits.append.Goals as goal
use Rattle.base_words.proofs.Lists.{some_length}

pub make_next-requires : goal.make_next-requires
make_next-requires c = omega (arith, ap length c.bodies-bodies.ensures.bodies, some_length c.bodies-bodies.result.now c.bodies-bodies.ensures.some)
