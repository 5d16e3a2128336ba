use Rattle.std.proofs.Common.{ap, ◌∙◌}
use Rattle.mesh_judge.specs.Keys.{count_of}
use Rattle.mesh_judge.proofs.KeyLaws.{due_added}
use Rattle.mesh_judge.proofs.marking.add_due.Goals as goal

pub returns : goal.returns
returns c k r = due_added c.args.due.now c.set.new.self c.in_ok-key.key.items c.args.node c.get-before.result c.args.count c.args.request.now
    c.in_ok-key.ensures (c.get-before.ensures ∙ ap (count_of c.args.due.now) c.as_slice.ensures.value) c.in_ok-set.ensures k r
