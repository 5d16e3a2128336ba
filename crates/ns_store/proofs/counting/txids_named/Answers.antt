use Rattle.std.proofs.Common.{List, ℕ, subst, take}
use Rattle.std.specs.Prelude.{map, string_bytes}
use Rattle.ns_store.specs.Lists.{AddsTxid}
use Rattle.ns_store.proofs.ListLaws.{next_name, one_name_more}
use Rattle.ns_store.proofs.counting.txids_named.Goals as goal

pub loop-name-preserved : goal.loop-name-preserved
loop-name-preserved c =
    one_name_more (map string_bytes (take c.loop-name.name-index c.args.names.now)) _ (string_bytes c.name-item.result) c.args.rest.now c.loop-name.txids c.add_txid.new.txids
    (next_name string_bytes c.args.names.now c.loop-name.name-index c.name-item.result c.loop-name-test.true c.name-item.is) c.loop-name.invariant
    (subst (λ (n : List ℕ). AddsTxid n c.args.rest.now c.loop-name.txids c.add_txid.new.txids) c.as_bytes.ensures.value c.in_ok-add_txid.ensures)
