use denote.Param.Send.{IsSend}
use Rattle.disk_recent.proofs.Crosses.{RawBytes-send}
use Rattle.disk_recent.specs.contracts.raw.RawBytes.{the_row}

pub send : IsSend the_row
send = RawBytes-send
