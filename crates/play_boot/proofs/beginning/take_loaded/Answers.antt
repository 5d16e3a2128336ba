use Rattle.std.proofs.Common.{ap}
use Rattle.ns_store.specs.Loads.{answer_to}
use Rattle.play_boot.specs.Stages.{bytes_found}
use Rattle.play_boot.proofs.BeginLaws.{taken_loaded}
use Rattle.play_boot.proofs.beginning.take_loaded.Goals as goal

pub returns-in-Bytes : goal.returns-in-Bytes
returns-in-Bytes c =
    taken_loaded c.args.txid c.args.loaded c.in-Bytes.bytes.items c.args.standby.now c.take_bytes.new.standby c.take_bytes.result (ap bytes_found c.in-Bytes.is)
    (ap answer_to c.in-Bytes.is) c.take_bytes.ensures
