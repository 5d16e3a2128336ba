use Rattle.std.proofs.Common.{inl, inr, refl, sym, subst, ◌∙◌}
use Rattle.base_disk.proofs.Rises.{rose_since}
use Rattle.journal_core.specs.declared.node_state.NodeState.{NodeState}
use Rattle.disk_recent.specs.Recent.{AsksRecent}
use Rattle.disk_node.proofs.Recalling.{whole_rests, asks_front}
use Rattle.disk_node.proofs.NodeStands.{rests_up}
use Rattle.disk_node.proofs.ActingDone.{is_up, up_of}
use Rattle.disk_node.proofs.ActingAnswer.{foretold_by, front_same, rests_then, rests_moments, up_stands, node_down, fault_down, memory_same, refused_by}
use Rattle.disk_node.proofs.acting.answer_by.Goals as goal

pub returns-in-Ok-clause-answer : goal.returns-in-Ok-clause-answer
returns-in-Ok-clause-answer g c = λ t s up.
    c.finish.ensures.answer (c.foretell.ensures.call.tells.0 t) s (rests_up (g.D.DiskModel.view c.args.disk.now)
    (g.D.DiskModel.view c.foretell.new.disk) (c.foretell.ensures.disk t) c.args.memory.now.numbers c.args.memory.now.table s up)
    (foretold_by c.args.memory.now.numbers s c.args.request.now c.args.planned.plan.front c.args.planned.plan.refusal c.in-Ok.reply up.held.memory c.requires.planned.front
    (c.requires.planned.refused s.segments up.held.told)
    (c.in-Ok.ensures.reply t s.segments up.held.files.segments up.held.sound up.held.told (c.requires.whole.recalls t s
    (is_up c.args.memory.now.numbers c.args.request.now c.requires.planned.at_once) up)))

pub returns-in-Ok-clause-moments : goal.returns-in-Ok-clause-moments
returns-in-Ok-clause-moments g c = λ t s up.
    rests_then (g.D.DiskModel.view c.args.disk.now) (g.D.DiskModel.view c.foretell.new.disk) (g.D.DiskModel.view c.finish.new.disk) s
    c.args.request.now (g.met.D.Disk.sound _ t) (c.foretell.ensures.disk t)
    (up_stands (g.D.DiskModel.view c.args.disk.now) c.args.memory.now.numbers c.args.memory.now.table s up)
    (c.finish.ensures.moments (c.foretell.ensures.call.tells.0 t) s (rests_up (g.D.DiskModel.view c.args.disk.now)
    (g.D.DiskModel.view c.foretell.new.disk) (c.foretell.ensures.disk t) c.args.memory.now.numbers c.args.memory.now.table s up))

pub returns-in-Ok-clause-stable : goal.returns-in-Ok-clause-stable
returns-in-Ok-clause-stable g c = λ t s up own.
    c.finish.ensures.stable (c.foretell.ensures.call.tells.0 t) s (rests_up (g.D.DiskModel.view c.args.disk.now)
    (g.D.DiskModel.view c.foretell.new.disk) (c.foretell.ensures.disk t) c.args.memory.now.numbers c.args.memory.now.table s up) own

pub returns-in-Err-Failed-clause-node : goal.returns-in-Err-Failed-clause-node
returns-in-Err-Failed-clause-node g c =
    node_down (g.D.DiskModel.tells c.args.disk.now) (g.D.DiskModel.tells c.foretell.new.disk) (g.D.DiskModel.view c.foretell.new.disk)
    c.args.memory.now.numbers c.go_down.new.memory c.args.memory.now.table c.args.request.now c.foretell.ensures.call.tells c.requires.whole.node.told
    c.go_down.ensures.memory
    (λ t. let s = c.requires.whole.node.stands t in (
      s.0,
      rests_up (g.D.DiskModel.view c.args.disk.now) (g.D.DiskModel.view c.foretell.new.disk) (c.foretell.ensures.disk t) c.args.memory.now.numbers c.args.memory.now.table s.0
          (up_of (g.D.DiskModel.view c.args.disk.now) c.args.memory.now.numbers c.args.memory.now.table s.0 (is_up c.args.memory.now.numbers c.args.request.now c.requires.planned.at_once) s.1),
    ))
    (λ t. (g.met.D.Disk.sound _ t).seen_now) c.go_down.ensures.rise

pub returns-in-Err-Failed-clause-answer : goal.returns-in-Err-Failed-clause-answer
returns-in-Err-Failed-clause-answer g c = λ t s up.
    fault_down (g.D.DiskModel.view c.foretell.new.disk) c.args.memory.now.numbers c.go_down.new.memory c.args.memory.now.table s c.args.request.now (g.met.D.Disk.sound _
    (c.foretell.ensures.call.tells.0 t)).seen_now
    (rests_up (g.D.DiskModel.view c.args.disk.now) (g.D.DiskModel.view c.foretell.new.disk) (c.foretell.ensures.disk t) c.args.memory.now.numbers
    c.args.memory.now.table s up) c.go_down.ensures.memory c.go_down.ensures.rise

pub returns-in-Err-Failed-clause-moments : goal.returns-in-Err-Failed-clause-moments
returns-in-Err-Failed-clause-moments g c = λ t s up.
    rests_moments (g.D.DiskModel.view c.args.disk.now) (g.D.DiskModel.view c.foretell.new.disk) s c.args.request.now (g.met.D.Disk.sound _ t)
    (c.foretell.ensures.disk t) (up_stands (g.D.DiskModel.view c.args.disk.now) c.args.memory.now.numbers c.args.memory.now.table s up)

pub returns-clause-answer : goal.returns-clause-answer
returns-clause-answer g c = λ t s up.
    memory_same (g.D.DiskModel.view c.foretell.new.disk) c.args.memory.now.numbers c.args.memory.now.table s c.args.request.now
    (is_up c.args.memory.now.numbers c.args.request.now c.requires.planned.at_once)
    (rests_up (g.D.DiskModel.view c.args.disk.now) (g.D.DiskModel.view c.foretell.new.disk) (c.foretell.ensures.disk t) c.args.memory.now.numbers c.args.memory.now.table s up)

pub returns-clause-moments : goal.returns-clause-moments
returns-clause-moments g c = λ t s up.
    rests_moments (g.D.DiskModel.view c.args.disk.now) (g.D.DiskModel.view c.foretell.new.disk) s c.args.request.now (g.met.D.Disk.sound _ t)
    (c.foretell.ensures.disk t) (up_stands (g.D.DiskModel.view c.args.disk.now) c.args.memory.now.numbers c.args.memory.now.table s up)

pub finish-requires-clause-whole : goal.finish-requires-clause-whole
finish-requires-clause-whole g c =
    whole_rests (g.D.DiskModel.tells c.args.disk.now) (g.D.DiskModel.tells c.foretell.new.disk) (g.D.DiskModel.view c.args.disk.now) (g.D.DiskModel.view c.foretell.new.disk)
    c.args.memory.now.numbers c.args.memory.now.table c.args.memory.now.recent c.args.request.now c.requires.planned.at_once c.foretell.ensures.call.tells
    (λ t. (g.met.D.Disk.sound _ t).seen_now) c.foretell.ensures.disk c.requires.whole

pub returns-in-Ok-clause-cached : goal.returns-in-Ok-clause-cached
returns-in-Ok-clause-cached g c = λ t s up own.
    c.finish.ensures.cached (c.foretell.ensures.call.tells.0 t) s (rests_up (g.D.DiskModel.view c.args.disk.now)
    (g.D.DiskModel.view c.foretell.new.disk) (c.foretell.ensures.disk t) c.args.memory.now.numbers c.args.memory.now.table s up) own

pub returns-in-Ok-clause-unread : goal.returns-in-Ok-clause-unread
returns-in-Ok-clause-unread g c = λ t s up asks.
    c.finish.ensures.reads
    ∙ c.foretell.ensures.unread s.segments up.held.told (c.requires.whole.recalls t s (is_up c.args.memory.now.numbers c.args.request.now c.requires.planned.at_once) up)
    (subst (λ (x : NodeState). AsksRecent c.args.memory.now.recent.start x c.args.request.now)
    (sym (front_same c.args.memory.now.numbers s c.args.planned.plan.front c.args.request.now up.held.memory c.requires.planned.front))
    (asks_front c.args.memory.now.recent.start s c.args.request.now asks))

pub returns-in-Err-Failed-clause-unread : goal.returns-in-Err-Failed-clause-unread
returns-in-Err-Failed-clause-unread g c = λ t s up asks.
    c.foretell.ensures.unread s.segments up.held.told (c.requires.whole.recalls t s (is_up c.args.memory.now.numbers c.args.request.now c.requires.planned.at_once) up)
    (subst (λ (x : NodeState). AsksRecent c.args.memory.now.recent.start x c.args.request.now)
    (sym (front_same c.args.memory.now.numbers s c.args.planned.plan.front c.args.request.now up.held.memory c.requires.planned.front))
    (asks_front c.args.memory.now.recent.start s c.args.request.now asks))

pub returns-clause-recalls : goal.returns-clause-recalls
returns-clause-recalls g c = λ t.
    (whole_rests (g.D.DiskModel.tells c.args.disk.now) (g.D.DiskModel.tells c.foretell.new.disk) (g.D.DiskModel.view c.args.disk.now) (g.D.DiskModel.view c.foretell.new.disk)
    c.args.memory.now.numbers c.args.memory.now.table c.args.memory.now.recent c.args.request.now c.requires.planned.at_once c.foretell.ensures.call.tells
    (λ t. (g.met.D.Disk.sound _ t).seen_now) c.foretell.ensures.disk c.requires.whole).recalls (c.foretell.ensures.call.tells.0 t)

pub returns-clause-unread : goal.returns-clause-unread
returns-clause-unread g c = λ t s up asks.
    c.foretell.ensures.unread s.segments up.held.told (c.requires.whole.recalls t s (is_up c.args.memory.now.numbers c.args.request.now c.requires.planned.at_once) up)
    (subst (λ (x : NodeState). AsksRecent c.args.memory.now.recent.start x c.args.request.now)
    (sym (front_same c.args.memory.now.numbers s c.args.planned.plan.front c.args.request.now up.held.memory c.requires.planned.front))
    (asks_front c.args.memory.now.recent.start s c.args.request.now asks))

pub returns-in-Ok-clause-spared : goal.returns-in-Ok-clause-spared
returns-in-Ok-clause-spared g c = λ e. inl (rose_since (g.D.DiskModel.shortages c.args.disk.now) (g.D.DiskModel.shortages c.foretell.new.disk)
    (g.D.DiskModel.shortages c.finish.new.disk) c.foretell.ensures.shortages (c.finish.ensures.short e))

pub returns-clause-spared : goal.returns-clause-spared
returns-clause-spared g c = λ e. inr (record { disk = c.foretell.ensures.disk; memory = refl; rows = refl; recent = refl })

pub foretell-requires-clause-refused : goal.foretell-requires-clause-refused
foretell-requires-clause-refused g c =
    refused_by c.args.memory.now.numbers c.args.planned.plan.front c.args.request.now c.args.memory.now.table c.args.planned.plan.refusal c.requires.planned.front c.requires.planned.refused

pub returns-clause-node : goal.returns-clause-node
returns-clause-node g c =
    (whole_rests (g.D.DiskModel.tells c.args.disk.now) (g.D.DiskModel.tells c.foretell.new.disk) (g.D.DiskModel.view c.args.disk.now) (g.D.DiskModel.view c.foretell.new.disk)
    c.args.memory.now.numbers c.args.memory.now.table c.args.memory.now.recent c.args.request.now c.requires.planned.at_once c.foretell.ensures.call.tells
    (λ t. (g.met.D.Disk.sound _ t).seen_now) c.foretell.ensures.disk c.requires.whole).node
