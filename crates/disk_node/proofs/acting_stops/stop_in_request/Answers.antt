use Rattle.std.proofs.Common.{take, length, ap, arith, ◌≡◌, false}
use Rattle.journal_core.specs.declared.node_state.NodeState.{NodeState}
use Rattle.journal_core.specs.Effects.{after_effects}
use Rattle.journal_core.specs.Step.{stopped}
use Rattle.disk_node.specs.Done.{effects_by, LeftStopped}
use Rattle.disk_node.specs.Held.{IsHeld}
use Rattle.disk_node.specs.Node.{IsDown, IsStoppedIn}
use Rattle.disk_node.proofs.DoneRooms.{room_take}
use Rattle.disk_node.proofs.ActingDone.{up_of, is_up, are_of, can_of, due_of, room_of}
use Rattle.disk_node.proofs.ActingStops.{due_first, first_moments, can_first, held_down, left_down, node_stops, ok_to, err_to}
use Rattle.disk_node.proofs.acting_stops.stop_in_request.Goals as goal

pub do_effects-done-requires-clause-due : goal.do_effects-done-requires-clause-due
do_effects-done-requires-clause-due g c =
    let told = c.requires.node.told in
    let due = due_of c.requires.planned c.as_slice-effects.ensures told.0 told.1 in
    (told.0, told.1, due_first c.args.count told.0 c.args.memory.now.table c.args.request.now c.as_slice-effects.result.now due)

pub do_effects-done-requires-clause-room : goal.do_effects-done-requires-clause-room
do_effects-done-requires-clause-room g c =
    let told = c.requires.node.told in
    room_take c.args.count c.as_slice-effects.result.now (length c.args.memory.now.table) c.args.planned.ready.room
    (room_of c.requires.planned c.as_slice-effects.ensures told.0 told.1)

pub do_effects-done-requires-clause-held : goal.do_effects-done-requires-clause-held
do_effects-done-requires-clause-held g c = λ t.
    let v = g.D.DiskModel.view c.args.disk.now in
    let s = c.requires.node.stands t in
    let is = is_up c.args.memory.now.numbers c.args.request.now c.requires.planned.at_once in
    let up = up_of v c.args.memory.now.numbers c.args.memory.now.table s.0 is s.1 in (
      s.0,
      can_first v c.args.memory.now.numbers c.args.memory.now.table s.0 c.args.request.now c.as_slice-effects.result.now c.args.count
          (can_of c.requires.planned c.as_slice-effects.ensures up),
    )

pub returns-clause-done : goal.returns-clause-done
returns-clause-done g c = λ t s up.
    let v1 = g.D.DiskModel.view c.do_effects-done.new.disk in
    let r = c.args.request.now in
    let can = can_of c.requires.planned c.as_slice-effects.ensures up in
    ok_to c.do_effects-done.result (IsHeld v1 c.do_effects-done.new.memory c.do_effects-done.new.table
    (after_effects s (effects_by r (take c.args.count c.as_slice-effects.result.now))))
    (IsDown v1 c.go_down.new.memory c.do_effects-done.new.table (stopped s r c.args.count))
    (λ held. held_down v1 c.do_effects-done.new.memory c.do_effects-done.new.memory c.go_down.new.memory c.do_effects-done.new.table s r
    c.as_slice-effects.result.now c.args.count (g.met.D.Disk.sound _ (c.do_effects-done.ensures.call.tells.0 t)).seen_now
    (are_of c.requires.planned c.as_slice-effects.ensures up) c.go_down.ensures.memory c.go_down.ensures.rise held)
    (c.do_effects-done.ensures.held t s (can_first (g.D.DiskModel.view c.args.disk.now) c.args.memory.now.numbers c.args.memory.now.table s r
    c.as_slice-effects.result.now c.args.count can))

pub returns-clause-moments : goal.returns-clause-moments
returns-clause-moments g c = λ t s up.
    let v = g.D.DiskModel.view c.args.disk.now in
    let r = c.args.request.now in
    let can = can_of c.requires.planned c.as_slice-effects.ensures up in
    first_moments v (g.D.DiskModel.view c.do_effects-done.new.disk) s r c.as_slice-effects.result.now c.args.count
    (are_of c.requires.planned c.as_slice-effects.ensures up)
    (c.do_effects-done.ensures.moments t s (can_first v c.args.memory.now.numbers c.args.memory.now.table s r c.as_slice-effects.result.now c.args.count can))

pub returns-clause-stopped : goal.returns-clause-stopped
returns-clause-stopped g c = λ t s up.
    let v1 = g.D.DiskModel.view c.do_effects-done.new.disk in
    let r = c.args.request.now in
    let can = can_of c.requires.planned c.as_slice-effects.ensures up in
    err_to c.do_effects-done.result (LeftStopped v1.seen c.do_effects-done.new.table s (effects_by r (take c.args.count c.as_slice-effects.result.now)))
    (IsStoppedIn v1 c.go_down.new.memory c.do_effects-done.new.table s r)
    (λ left. left_down v1 c.do_effects-done.new.memory c.go_down.new.memory c.do_effects-done.new.table s r c.as_slice-effects.result.now c.args.count
    c.requires.brings up.held.files.filled (omega (arith, c.requires.count, ap length c.as_slice-effects.ensures))
    (are_of c.requires.planned c.as_slice-effects.ensures up) c.go_down.ensures.memory c.go_down.ensures.rise left)
    (c.do_effects-done.ensures.left t s (can_first (g.D.DiskModel.view c.args.disk.now) c.args.memory.now.numbers c.args.memory.now.table s r
    c.as_slice-effects.result.now c.args.count can))

pub returns-clause-node : goal.returns-clause-node
returns-clause-node g c =
    node_stops (g.D.DiskModel.tells c.args.disk.now) (g.D.DiskModel.tells c.do_effects-done.new.disk) (g.D.DiskModel.view c.args.disk.now)
    (g.D.DiskModel.view c.do_effects-done.new.disk) c.args.memory.now.numbers c.go_down.new.memory c.args.memory.now.table c.do_effects-done.new.table
    c.args.request.now
    c.do_effects-done.result c.args.count c.do_effects-done.ensures.call.tells c.requires.node c.requires.planned.at_once
    (let down : c.go_down.new.memory.up ≡ false = ap (λ (x : NodeState). x.up) c.go_down.ensures.memory in down) c.do_effects-done.ensures.rows
    (returns-clause-done g c) (returns-clause-stopped g c)
