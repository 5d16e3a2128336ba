use Rattle.std.proofs.Common.{arith}
use Rattle.disk_recent.specs.Ring.{old_bodies, new_bodies}
use Rattle.disk_recent.proofs.Rings.{all_counts}
use Rattle.disk_recent.proofs.ring.Ring.count.Goals as goal

pub overflow_add-result : goal.overflow_add-result
overflow_add-result c =
    let r = c.args.self.now in
    omega (arith, c.requires.high, c.requires.older.counted, c.requires.newer.counted, all_counts r (old_bodies r) (new_bodies r) c.requires)
