use Rattle.std.proofs.Common.{List, map, refl, sym, ap, ◌∙◌}
use Rattle.base_disk.specs.MemDisk.{disk_view}
use Rattle.journal_core.specs.Cuts.{standing}
use Rattle.journal_step.specs.declared.durable_effect.DurableEffect.{DurableEffect}
use Rattle.journal_step.specs.Durable.{effect_cost}
use Rattle.disk_effects.specs.Decided.{effects_in}
use Rattle.disk_node.proofs.ActingDone.{up_of, once_same, are_of}
use Rattle.disk_node.proofs.ActingStops.{stops_memory}
use Rattle.disk_node.proofs.CuttingLaws.{count_is, cut_down, cut_at_once, node_at_once}
use Rattle.disk_node.proofs.cutting.cut_in.Goals as goal

pub returns-in-Some-clause-node : goal.returns-in-Some-clause-node
returns-in-Some-clause-node c =
    node_at_once (disk_view c.args.disk.now) (disk_view c.crash_down.new.disk) c.args.memory.now.numbers c.crash_down.new.memory c.args.memory.now.table
    c.crash_down.ensures.left.0 c.requires.up c.requires.node c.crash_down.ensures.memory c.crash_down.ensures.rise

pub returns-in-Some-clause-cut : goal.returns-in-Some-clause-cut
returns-in-Some-clause-cut c = λ s has.
    let v = disk_view c.args.disk.now in
    let m = c.args.memory.now.numbers in
    cut_at_once v (disk_view c.crash_down.new.disk) m c.crash_down.new.memory c.args.memory.now.table s c.args.request.now c.in-Some.field-0 c.args.calls c.args.cut c.crash_down.ensures.left.0
    (up_of v m c.args.memory.now.table s c.requires.up has) c.crash_down.ensures.memory c.crash_down.ensures.rise
    (sym (once_same m.up v m c.args.memory.now.table s c.args.request.now refl has) ∙ sym c.in-Some.ensures.refusal)

pub returns-in-Ok-cut_effects-clause-cut : goal.returns-in-Ok-cut_effects-clause-cut
returns-in-Ok-cut_effects-clause-cut c = λ s has.
    let v = disk_view c.args.disk.now in
    let m = c.args.memory.now.numbers in
    let rows = c.args.memory.now.table in
    let r = c.args.request.now in
    let ds = effects_in c.in-Ok.planned.plan.effects in
    let up = up_of v m rows s c.requires.up has in
    let are = are_of c.in-Ok.ensures refl up in
    cut_down (disk_view c.cut_effects.new.disk) c.cut_effects.new.memory.numbers c.cut_effects.new.memory.table s r c.args.calls c.count_standing-standing.result c.args.cut c.cut_effects.ensures.down
    (c.count_standing-standing.ensures ∙ ap (λ (xs : List DurableEffect). standing c.args.calls (map (effect_cost c.args.cut) xs)) c.as_slice.ensures
    ∙ count_is c.args.cut s rows r ds c.args.calls (c.in-Ok.ensures.due s.segments up.held.told) up.held.sound are)
    (c.in-Ok-cut_effects.ensures.done s up)

pub returns-in-Err-cut_effects-clause-cut : goal.returns-in-Err-cut_effects-clause-cut
returns-in-Err-cut_effects-clause-cut c = λ s has.
    stops_memory (disk_view c.cut_effects.new.disk) c.cut_effects.new.memory.numbers c.cut_effects.new.memory.table s c.args.request.now 0 c.cut_effects.ensures.down
    (c.in-Err-cut_effects.ensures.stopped s (up_of (disk_view c.args.disk.now) c.args.memory.now.numbers c.args.memory.now.table s c.requires.up has))
