use Rattle.std.proofs.Common.{refl}
use Rattle.std.specs.Prelude.{None}
use Rattle.base_disk.proofs.Timeline.{time, removed}
use Rattle.base_disk.proofs.mem_disk.MemDiskDisk.remove.Goals as goal

pub returns-clause-disk : goal.returns-clause-disk
returns-clause-disk c = λ t.
    let past = c.args.self.now.past.items in let past' = c.remember.new.past.items in let m = c.args.self.now.files in let m' = c.remove.new.files in
    removed past past' m m' (time past past' m m' c.in_ok-remember.ensures.ok) c.args.name.now None c.remove.ensures refl
