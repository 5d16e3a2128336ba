use Rattle.std.proofs.Common.{subst}
use Rattle.disk_node.specs.Opening.{disk_in, IsRefusedOpening}
use Rattle.disk_node.proofs.FreshLaws.{opened_fresh, none_refused}
use Rattle.disk_node.proofs.fresh.open_empty.Goals as goal

pub returns-in-Ok-clause-fresh : goal.returns-in-Ok-clause-fresh
returns-in-Ok-clause-fresh g c =
    let node = c.in-Ok.node in
    let before = g.met.D.Disk.told c.args.disk c.requires.steady in
    let now = c.in-Ok.ensures.tells_ok.0 before in
    opened_fresh (g.D.DiskModel.view c.args.disk).seen (g.D.DiskModel.is_told node.disk) (g.D.DiskModel.view node.disk) node.memory node.rows
    ((g.met.D.Disk.told_so node.disk).0 now) (g.met.D.Disk.sound node.disk now).seen_now c.requires.empty (c.in-Ok.ensures.opened before)

pub unreachable-requires-in-Err-BadFile : goal.unreachable-requires-in-Err-BadFile
unreachable-requires-in-Err-BadFile g c =
    let before = g.met.D.Disk.told c.args.disk c.requires.steady in
    none_refused (g.D.DiskModel.view c.args.disk).seen (g.D.DiskModel.view c.in-Err-BadFile.field-0-0).seen c.in-Err-BadFile.field-0-1 c.requires.empty
    (subst (λ e. IsRefusedOpening (g.D.DiskModel.view c.args.disk).seen (g.D.DiskModel.view (disk_in e)).seen e) c.in-Err-BadFile.field-0-is (c.in-Err-BadFile.ensures.bad before))
