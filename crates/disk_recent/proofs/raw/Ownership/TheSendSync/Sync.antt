use denote.RattleType.{RattleType}
use denote.Param.Send.{IsSync}
use Rattle.std.specs.declared.alloc.Allocator.{Ghosts}
use Rattle.disk_recent.proofs.Crosses.{Ownership-sync}
use Rattle.disk_recent.specs.contracts.raw.Ownership.{the_row}

pub sync : (A : RattleType) (g : Ghosts A.Denot) → IsSync (the_row A g)
sync = Ownership-sync
