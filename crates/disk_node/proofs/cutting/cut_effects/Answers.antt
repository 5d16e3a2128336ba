use Rattle.std.proofs.Common.{◌≡◌, ◌≢◌}
use Rattle.std.specs.Prelude.{Err}
use Rattle.base_disk.specs.MemDisk.{disk_view, calls_left}
use Rattle.base_disk.specs.declared.disk.DiskFail.TheVariants.{OutOfMemory}
use Rattle.journal_core.specs.Cuts.{effects_standing}
use Rattle.journal_core.specs.Step.{stopped}
use Rattle.disk_node.specs.Node.{IsDown, IsStoppedIn}
use Rattle.disk_node.proofs.ActingDone.{up_of, is_up, are_of, can_of, due_of, room_of}
use Rattle.disk_node.proofs.ActingStops.{ok_to, err_to}
use Rattle.disk_node.proofs.CuttingLaws.{can_stopped, cut_ends, cut_stops, node_cut, kept_of}
use Rattle.disk_node.proofs.cutting.cut_effects.Goals as goal

pub do_effects-done-requires-clause-due : goal.do_effects-done-requires-clause-due
do_effects-done-requires-clause-due c = let told = c.requires.node.told in (told.0, told.1, due_of c.requires.planned c.as_slice-effects.ensures told.0 told.1)

pub do_effects-done-requires-clause-room : goal.do_effects-done-requires-clause-room
do_effects-done-requires-clause-room c = let told = c.requires.node.told in room_of c.requires.planned c.as_slice-effects.ensures told.0 told.1

pub do_effects-done-requires-clause-held : goal.do_effects-done-requires-clause-held
do_effects-done-requires-clause-held c = λ t.
    let s = c.requires.node.stands t in
    let is = is_up c.args.memory.now.numbers c.args.request.now c.requires.planned.at_once in
    let up = up_of (disk_view c.args.disk.now) c.args.memory.now.numbers c.args.memory.now.table s.0 is s.1 in
    (s.0, can_stopped c.args.disk.now c.stop_after.new.self c.stop_after.ensures.same (can_of c.requires.planned c.as_slice-effects.ensures up))

pub returns-clause-done : goal.returns-clause-done
returns-clause-done c = λ s up.
    let v1 = disk_view c.do_effects-done.new.disk in
    let v2 = disk_view c.crash_down.new.disk in
    let r = c.args.request.now in
    let ds = c.as_slice-effects.result.now in
    let are = are_of c.requires.planned c.as_slice-effects.ensures up in
    let can = can_stopped c.args.disk.now c.stop_after.new.self c.stop_after.ensures.same (can_of c.requires.planned c.as_slice-effects.ensures up) in
    let keep = kept_of s r ds up.held.sound are in
    ok_to c.cut_short.result (c.do_effects-done.result ≢ Err OutOfMemory) (IsDown v2 c.crash_down.new.memory c.do_effects-done.new.table (stopped s r (effects_standing c.args.cut s r c.args.calls)))
    (λ not. cut_ends v1 v2 c.do_effects-done.new.memory c.crash_down.new.memory c.do_effects-done.new.table s r ds c.args.calls c.args.cut
    (calls_left c.stop_after.new.self) (calls_left c.do_effects-done.new.disk) (c.stop_after.ensures.left c.requires.steady) c.requires.brings
    up.held.files.filled are
    c.crash_down.ensures.memory c.crash_down.ensures.rise c.crash_down.ensures.left c.do_effects-done.result (c.do_effects-done.ensures.held tt s can)
    (c.do_effects-done.ensures.counts tt s can keep c.args.cut) (c.do_effects-done.ensures.cut tt s can keep) not)
    c.cut_short.ensures.ok

pub returns-clause-stopped : goal.returns-clause-stopped
returns-clause-stopped c = λ s up.
    let v1 = disk_view c.do_effects-done.new.disk in
    let v2 = disk_view c.crash_down.new.disk in
    let r = c.args.request.now in
    let ds = c.as_slice-effects.result.now in
    let are = are_of c.requires.planned c.as_slice-effects.ensures up in
    let can = can_stopped c.args.disk.now c.stop_after.new.self c.stop_after.ensures.same (can_of c.requires.planned c.as_slice-effects.ensures up) in
    err_to c.cut_short.result (c.do_effects-done.result ≡ Err OutOfMemory) (IsStoppedIn v2 c.crash_down.new.memory c.do_effects-done.new.table s r)
    (λ fail. cut_stops v1 v2 c.do_effects-done.new.memory c.crash_down.new.memory c.do_effects-done.new.table s r ds c.args.calls c.args.cut
    (calls_left c.stop_after.new.self) (calls_left c.do_effects-done.new.disk) (c.stop_after.ensures.left c.requires.steady) c.requires.brings
    up.held.files.filled are
    c.crash_down.ensures.memory c.crash_down.ensures.rise c.crash_down.ensures.left c.do_effects-done.result (c.do_effects-done.ensures.leaves tt s can) fail)
    c.cut_short.ensures.err

pub returns-clause-node : goal.returns-clause-node
returns-clause-node c =
    node_cut c.cut_short.result (disk_view c.args.disk.now) (disk_view c.crash_down.new.disk) c.args.memory.now.numbers c.do_effects-done.new.memory
    c.crash_down.new.memory c.args.memory.now.table c.do_effects-done.new.table c.args.request.now c.args.calls c.args.cut
    c.requires.node c.requires.planned.at_once c.crash_down.ensures.memory c.do_effects-done.ensures.rows (returns-clause-done c) (returns-clause-stopped c)
