use Rattle.ns_image.proofs.Stepping.{all_told}
use Rattle.ns_image.proofs.reading.sink_of.Goals as goal

pub returns-clause-told : goal.returns-clause-told
returns-clause-told g c =
    let read = c.in_ok-sink.ensures in (
      record { layout = c.in_ok-layout.layout; space = record { pairs = read.0.0; calls = c.calls_of.new.namespace.calls }; txid = c.in_ok-layout.txid },
      all_told c.args.bytes.now c.in_ok-layout.layout c.in_ok-layout.txid c.in_ok-layout.rest.now c.in_ok-sink.rest.now c.in_ok-rest.rest.now read.0 c.calls_of.new.namespace.calls
          c.in_ok-layout.ensures.read read.1 read.2.0 c.in_ok-rest.ensures.calls c.in_ok-end_of.ensures.ok,
      read.2.1,
    )
