use Rattle.ns_store.proofs.ListLaws.{txid_added}
use Rattle.ns_store.proofs.counting.add_txid.Goals as goal

pub returns-in_ok-insert-in-Some : goal.returns-in_ok-insert-in-Some
returns-in_ok-insert-in-Some c = txid_added c.args.name.now c.args.rest.now c.in-Some.txid c.args.txids.now c.insert.new.self
    (record { small = c.in-Some.ensures.0; spelled = c.in-Some.ensures.1 }) c.in_ok-insert-in-Some.ensures.updates
