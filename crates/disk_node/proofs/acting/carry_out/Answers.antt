use Rattle.std.proofs.Common.{List, ap, ◌∙◌}
use Rattle.journal_core.specs.Effects.{Effect}
use Rattle.disk_recent.specs.Recent.{cached_then}
use Rattle.disk_node.specs.Node.{state_behind}
use Rattle.disk_node.specs.Done.{effects_by}
use Rattle.disk_node.proofs.Recalling.{recalls_of, after_recent}
use Rattle.disk_node.proofs.ActingDone.{up_of, is_up, once_of, are_of, can_of, due_of, room_of, up_behind, stopped_in, stopped_moments, node_behind, node_stopped}
use Rattle.disk_node.proofs.acting.carry_out.Goals as goal

pub do_effects-requires-clause-due : goal.do_effects-requires-clause-due
do_effects-requires-clause-due g c = let told = c.requires.whole.node.told in (told.0, told.1, due_of c.requires.planned c.as_slice-effects.ensures told.0 told.1)

pub do_effects-requires-clause-room : goal.do_effects-requires-clause-room
do_effects-requires-clause-room g c = let told = c.requires.whole.node.told in room_of c.requires.planned c.as_slice-effects.ensures told.0 told.1

pub do_effects-requires-clause-held : goal.do_effects-requires-clause-held
do_effects-requires-clause-held g c = λ t.
    let s = c.requires.whole.node.stands t in
    let is = is_up c.args.memory.now.numbers c.args.request.now c.requires.planned.at_once in
    let up = up_of (g.D.DiskModel.view c.args.disk.now) c.args.memory.now.numbers c.args.memory.now.table s.0 is s.1 in
    (s.0, can_of c.requires.planned c.as_slice-effects.ensures up)

pub returns-in-Ok-clause-done : goal.returns-in-Ok-clause-done
returns-in-Ok-clause-done g c = λ t s up.
    let can = can_of c.requires.planned c.as_slice-effects.ensures up in
    up_behind (g.D.DiskModel.view c.args.disk.now) (g.D.DiskModel.view c.do_effects.new.disk) c.args.memory.now.numbers c.do_effects.new.memory
    c.settle.new.numbers c.args.plan.now.front c.args.memory.now.table c.do_effects.new.table s c.args.request.now c.as_slice-effects.result.now
    c.args.plan.now.refusal up (once_of c.requires.planned c.as_slice-effects.ensures up) (are_of c.requires.planned c.as_slice-effects.ensures up)
    (c.requires.planned.refused s.segments up.held.told) c.requires.planned.front c.settle.ensures (c.in-Ok.ensures.held t s can)
    (λ o ends. c.in-Ok.ensures.opened t s o can ends)

pub returns-in-Ok-clause-node : goal.returns-in-Ok-clause-node
returns-in-Ok-clause-node g c =
    (node_behind (g.D.DiskModel.tells c.args.disk.now) (g.D.DiskModel.tells c.do_effects.new.disk) (g.D.DiskModel.view c.args.disk.now)
    (g.D.DiskModel.view c.do_effects.new.disk) c.args.memory.now.numbers c.do_effects.new.memory c.settle.new.numbers c.args.plan.now.front
    c.args.memory.now.table c.do_effects.new.table c.args.request.now (effects_by c.args.request.now c.as_slice-effects.result.now)
    c.args.plan.now.refusal c.do_effects.ensures.call.tells c.requires.whole.node c.requires.planned.at_once c.requires.planned.limits
    c.requires.planned.front c.in-Ok.ensures.memory c.settle.ensures c.do_effects.ensures.rows (returns-in-Ok-clause-done g c)).0

pub returns-in-Ok-clause-moments : goal.returns-in-Ok-clause-moments
returns-in-Ok-clause-moments g c = λ t s up.
    stopped_moments (g.D.DiskModel.view c.args.disk.now) (g.D.DiskModel.view c.do_effects.new.disk) s c.args.request.now c.as_slice-effects.result.now
    (are_of c.requires.planned c.as_slice-effects.ensures up) (c.do_effects.ensures.moments t s (can_of c.requires.planned c.as_slice-effects.ensures up))

pub returns-in-Err-clause-stopped : goal.returns-in-Err-clause-stopped
returns-in-Err-clause-stopped g c = λ t s up.
    stopped_in (g.D.DiskModel.view c.do_effects.new.disk) c.do_effects.new.memory c.go_down.new.memory c.do_effects.new.table s c.args.request.now
    c.as_slice-effects.result.now c.requires.brings up.held.files.filled (are_of c.requires.planned c.as_slice-effects.ensures up)
    c.go_down.ensures.memory c.go_down.ensures.rise (c.in-Err.ensures.left t s (can_of c.requires.planned c.as_slice-effects.ensures up))

pub returns-in-Err-clause-node : goal.returns-in-Err-clause-node
returns-in-Err-clause-node g c =
    node_stopped (g.D.DiskModel.tells c.args.disk.now) (g.D.DiskModel.tells c.do_effects.new.disk) (g.D.DiskModel.view c.args.disk.now)
    (g.D.DiskModel.view c.do_effects.new.disk) c.args.memory.now.numbers c.do_effects.new.memory c.go_down.new.memory c.args.memory.now.table
    c.do_effects.new.table c.args.request.now c.do_effects.ensures.call.tells c.requires.whole.node c.requires.planned.at_once
    c.go_down.ensures.memory c.do_effects.ensures.rows (returns-in-Err-clause-stopped g c)

pub returns-in-Err-clause-moments : goal.returns-in-Err-clause-moments
returns-in-Err-clause-moments g c = λ t s up.
    stopped_moments (g.D.DiskModel.view c.args.disk.now) (g.D.DiskModel.view c.do_effects.new.disk) s c.args.request.now c.as_slice-effects.result.now
    (are_of c.requires.planned c.as_slice-effects.ensures up) (c.do_effects.ensures.moments t s (can_of c.requires.planned c.as_slice-effects.ensures up))

pub returns-in-Ok-clause-recalls : goal.returns-in-Ok-clause-recalls
returns-in-Ok-clause-recalls g c = λ t.
    let was = c.requires.whole.node.stands t in
    let is = is_up c.args.memory.now.numbers c.args.request.now c.requires.planned.at_once in
    let up = up_of (g.D.DiskModel.view c.args.disk.now) c.args.memory.now.numbers c.args.memory.now.table was.0 is was.1 in
    recalls_of (g.D.DiskModel.view c.do_effects.new.disk) c.settle.new.numbers c.do_effects.new.table c.follow_effects.new.recent
    (state_behind was.0 c.args.request.now) (g.met.D.Disk.sound _ (c.do_effects.ensures.call.tells.0 t)).seen_now
    (λ u. returns-in-Ok-clause-done g c t was.0 up)
    (after_recent c.follow_effects.new.recent was.0 c.args.request.now c.as_slice-effects.result.now (are_of c.requires.planned c.as_slice-effects.ensures up)
    (c.follow_effects.ensures.held was.0 c.args.memory.now.table (due_of c.requires.planned c.as_slice-effects.ensures was.0.segments up.held.told)
    (c.requires.whole.recalls t was.0 is up)))

pub returns-in-Ok-clause-cached : goal.returns-in-Ok-clause-cached
returns-in-Ok-clause-cached g c = λ t s up.
    c.follow_effects.ensures.start
    ∙ ap (λ (es : List Effect). cached_then c.args.memory.now.recent.start es) (are_of c.requires.planned c.as_slice-effects.ensures up)
