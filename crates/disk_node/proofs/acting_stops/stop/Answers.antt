use Rattle.std.proofs.Common.{length, refl, sym, ap, ◌∙◌, arith}
use Rattle.disk_effects.specs.Decided.{effects_in}
use Rattle.disk_node.proofs.ActingDone.{once_same, up_of, is_up, are_of}
use Rattle.disk_node.proofs.ActingAnswer.{up_stands}
use Rattle.disk_node.proofs.ActingStops.{kept_moments, no_moments, node_goes_down, stops_at_once, stops_done, stops_fault, stops_memory}
use Rattle.disk_node.proofs.acting_stops.stop.Goals as goal

pub returns-in-Some-clause-node : goal.returns-in-Some-clause-node
returns-in-Some-clause-node g c =
    node_goes_down (g.D.DiskModel.tells c.args.disk.now) (g.D.DiskModel.view c.args.disk.now) c.args.memory.now.numbers c.go_down.new.memory c.args.memory.now.table
    (λ t. (g.met.D.Disk.sound _ t).seen_now) c.requires c.go_down.ensures.memory c.go_down.ensures.rise

pub returns-in-Some-clause-stop : goal.returns-in-Some-clause-stop
returns-in-Some-clause-stop g c = λ t s has.
    stops_at_once (g.D.DiskModel.view c.args.disk.now) c.args.memory.now.numbers c.go_down.new.memory c.args.memory.now.table s c.args.request.now c.in-Some.field-0
    c.args.keep (g.met.D.Disk.sound _ t).seen_now has c.go_down.ensures.memory c.go_down.ensures.rise
    (sym (once_same c.args.memory.now.numbers.up (g.D.DiskModel.view c.args.disk.now) c.args.memory.now.numbers c.args.memory.now.table s c.args.request.now refl has) ∙ sym c.in-Some.ensures.refusal)

pub returns-in-Ok-stop_in_request-clause-stop : goal.returns-in-Ok-stop_in_request-clause-stop
returns-in-Ok-stop_in_request-clause-stop g c = λ t s has.
    let v = g.D.DiskModel.view c.args.disk.now in
    let none = sym c.in-None.ensures.refusal in
    let up = up_of v c.args.memory.now.numbers c.args.memory.now.table s (is_up c.args.memory.now.numbers c.args.request.now none) has in
    stops_done (g.D.DiskModel.view c.stop_in_request.new.disk) c.stop_in_request.new.memory.numbers c.stop_in_request.new.memory.table s c.args.request.now
    (effects_in c.in-Ok.planned.plan.effects) c.args.keep c.min-count.result c.stop_in_request.ensures.down
    (are_of c.in-Ok.ensures refl up)
    (omega (arith, c.min-count.ensures, ap length c.as_slice-effects.ensures)) (c.in-Ok-stop_in_request.ensures.done t s up)

pub returns-in-Err-Failed-clause-stop : goal.returns-in-Err-Failed-clause-stop
returns-in-Err-Failed-clause-stop g c = λ t s has.
    let v = g.D.DiskModel.view c.args.disk.now in
    let up = up_of v c.args.memory.now.numbers c.args.memory.now.table s (is_up c.args.memory.now.numbers c.args.request.now (sym c.in-None.ensures.refusal)) has in
    stops_fault (g.D.DiskModel.view c.stop_in_request.new.disk) c.stop_in_request.new.memory.numbers c.stop_in_request.new.memory.table s c.args.request.now
    c.args.keep c.stop_in_request.ensures.down (c.in-Err-Failed.ensures.stopped t s up)

pub returns-in-Err-OutOfMemory-clause-stop : goal.returns-in-Err-OutOfMemory-clause-stop
returns-in-Err-OutOfMemory-clause-stop g c = λ t s has.
    let v = g.D.DiskModel.view c.args.disk.now in
    let up = up_of v c.args.memory.now.numbers c.args.memory.now.table s (is_up c.args.memory.now.numbers c.args.request.now (sym c.in-None.ensures.refusal)) has in
    stops_memory (g.D.DiskModel.view c.stop_in_request.new.disk) c.stop_in_request.new.memory.numbers c.stop_in_request.new.memory.table s c.args.request.now
    c.args.keep c.stop_in_request.ensures.down (c.in-Err-OutOfMemory.ensures.stopped t s up)

pub returns-in-Some-clause-moments : goal.returns-in-Some-clause-moments
returns-in-Some-clause-moments g c = λ t s up.
    no_moments (g.D.DiskModel.view c.args.disk.now) s c.args.request.now c.args.keep (g.met.D.Disk.sound _ t) (up_stands
    (g.D.DiskModel.view c.args.disk.now) c.args.memory.now.numbers c.args.memory.now.table s up)

pub returns-in-Ok-stop_in_request-clause-moments : goal.returns-in-Ok-stop_in_request-clause-moments
returns-in-Ok-stop_in_request-clause-moments g c = λ t s up.
    let v = g.D.DiskModel.view c.args.disk.now in
    kept_moments v (g.D.DiskModel.view c.stop_in_request.new.disk) s c.args.request.now (effects_in c.in-Ok.planned.plan.effects) c.args.keep c.min-count.result
    (are_of c.in-Ok.ensures refl up)
    (omega (arith, c.min-count.ensures, ap length c.as_slice-effects.ensures)) (c.stop_in_request.ensures.moments t s up)

pub returns-in-Err-Failed-clause-moments : goal.returns-in-Err-Failed-clause-moments
returns-in-Err-Failed-clause-moments g c = λ t s up.
    let v = g.D.DiskModel.view c.args.disk.now in
    kept_moments v (g.D.DiskModel.view c.stop_in_request.new.disk) s c.args.request.now (effects_in c.in-Ok.planned.plan.effects) c.args.keep c.min-count.result
    (are_of c.in-Ok.ensures refl up)
    (omega (arith, c.min-count.ensures, ap length c.as_slice-effects.ensures)) (c.stop_in_request.ensures.moments t s up)

pub returns-in-Err-OutOfMemory-clause-moments : goal.returns-in-Err-OutOfMemory-clause-moments
returns-in-Err-OutOfMemory-clause-moments g c = λ t s up.
    let v = g.D.DiskModel.view c.args.disk.now in
    kept_moments v (g.D.DiskModel.view c.stop_in_request.new.disk) s c.args.request.now (effects_in c.in-Ok.planned.plan.effects) c.args.keep c.min-count.result
    (are_of c.in-Ok.ensures refl up)
    (omega (arith, c.min-count.ensures, ap length c.as_slice-effects.ensures)) (c.stop_in_request.ensures.moments t s up)

pub returns-in-Err-clause-moments : goal.returns-in-Err-clause-moments
returns-in-Err-clause-moments g c = λ t s up.
    no_moments (g.D.DiskModel.view c.args.disk.now) s c.args.request.now c.args.keep (g.met.D.Disk.sound _ t) (up_stands
    (g.D.DiskModel.view c.args.disk.now) c.args.memory.now.numbers c.args.memory.now.table s up)
