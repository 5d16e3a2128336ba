use denote.Param.Send.{IsSync}
use Rattle.disk_recent.proofs.Crosses.{RawBytes-sync}
use Rattle.disk_recent.specs.contracts.raw.RawBytes.{the_row}

pub sync : IsSync the_row
sync = RawBytes-sync
