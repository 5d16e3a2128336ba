use Rattle.std.proofs.Common.{ℕ, List, sym, subst}
use Rattle.base_disk.specs.Calls.{Lists}
use Rattle.base_disk.specs.FileMap.{file_in, now_of}
use Rattle.base_disk.proofs.Names.{lists}
use Rattle.base_disk.proofs.mem_disk.MemDiskDisk.list.Goals as goal

pub returns-in-Ok-clause-names : goal.returns-in-Ok-clause-names
returns-in-Ok-clause-names c = λ t.
    subst (λ (names : List (List ℕ)). Lists names (λ name. now_of (file_in c.args.self.now.files name))) (sym c.in-Ok.ensures.names) (lists c.args.self.now.files c.in-Ok.ensures.ordered)
