use Rattle.std.proofs.Common.{arith, ap, length, length-append}
use Rattle.disk_recent.specs.Edits.{stored_bytes}
use Rattle.disk_recent.specs.Ring.{old_bodies, new_bodies}
use Rattle.disk_recent.proofs.Rings.{sized, stored-append}
use Rattle.disk_recent.proofs.ring.Ring.size.Goals as goal

pub returns : goal.returns
returns c =
    let r = c.args.self.now in let os = old_bodies r in let ns = new_bodies r in
    omega (arith, sized r.block r.older os c.requires.older, sized r.block r.newer ns c.requires.newer, ap length (stored-append os ns), length-append (stored_bytes os) (stored_bytes ns))
