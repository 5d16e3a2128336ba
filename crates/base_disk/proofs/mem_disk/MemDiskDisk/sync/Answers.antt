use Rattle.base_disk.proofs.Timeline.{time, sync_done}
use Rattle.base_disk.proofs.mem_disk.MemDiskDisk.sync.Goals as goal

pub returns-clause-disk : goal.returns-clause-disk
returns-clause-disk c = λ t.
    let past = c.args.self.now.past.items in let past' = c.remember.new.past.items in let m = c.args.self.now.files in let m' = c.sync.new.files in
    sync_done past past' m m' (time past past' m m' c.in_ok-remember.ensures.ok) c.args.name.now (c.requires tt) c.sync.ensures
