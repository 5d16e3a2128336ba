use Rattle.std.proofs.Common.{◌≤◌, List, length, map, All, sym, subst}
use Rattle.base_disk.specs.MemDisk.{disk_view}
use Rattle.writer_calls.specs.States.{IsTold}
use Rattle.play_boot.specs.Nodes.{IsBootedOver}
use Rattle.play_boot.proofs.NodeLaws.{over_nodes, or_memory, none_in}
use Rattle.play_boot.proofs.nodes.boot_nodes.Goals as goal

pub bootstrap-requires : goal.bootstrap-requires
bootstrap-requires g c = record { some = subst (λ (ns : List _). 1 ≤ length ns) (sym c.new-peers.ensures.nodes) c.requires.some }

pub returns : goal.returns
returns g c = λ held holds.
    let state = g.N.Node.state in
    let steady = g.N.Node.steady in
    let firm : All steady c.new-peers.result.nodes = subst (λ (ns : List _). All steady ns) (sym c.new-peers.ensures.nodes) c.requires.steady in
    let told : All (λ n. IsTold (state n)) c.new-peers.result.nodes = subst (λ (ns : List _). All (λ n. IsTold (state n)) ns) (sym c.new-peers.ensures.nodes) c.requires.told in
    or_memory (IsBootedOver (map state c.args.nodes.items) held) c.bootstrap.result
    (λ other. subst (λ (ns : List _). IsBootedOver (map state ns) held c.bootstrap.result) c.new-peers.ensures.nodes
    (over_nodes state steady c.new-peers.result c.bootstrap.new.peers firm told (c.bootstrap.ensures.called other) (disk_view c.steadied-from.result).seen (disk_view c.new-to.result).seen
    held (c.steadied-from.ensures.images held holds) (none_in (disk_view c.new-to.result).seen c.new-to.ensures.empty) c.bootstrap.result
    (c.bootstrap.ensures.from_call.cause.no_fault c.steadied-from.ensures.steady) (c.bootstrap.ensures.to_call.cause.no_fault c.new-to.ensures.steady)
    (c.bootstrap.ensures.booted tt tt)))
    tt
