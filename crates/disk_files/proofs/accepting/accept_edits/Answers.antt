use Rattle.std.proofs.Common.{◌∙◌}
use Rattle.disk_files.proofs.OneCall.{keeps_others, does_by, cut_by}
use Rattle.disk_files.proofs.AcceptLaws.{can_replace, can_again, again_kept, accept_kept, cost_is}
use Rattle.disk_files.proofs.accepting.accept_edits.Goals as goal

pub returns-then-again-clause-effect : goal.returns-then-again-clause-effect
returns-then-again-clause-effect g c = λ t s holds can.
    let able = can_again c.args.epoch c.args.batch.now c.requires.start.0 c.requires.start.1 _ (g.met.D.Disk.sound _ t) s holds c.args.again c.if-again.true can in
    does_by c.args.batch.now.first _ _ _ (g.met.D.Disk.sound _ (c.replace_again.ensures.call.tells.0 t)) (c.replace_again.ensures.touches t) s holds _ _
    (c.replace_again.ensures.effect t s.segments able.0 holds.segments able.1)
    (again_kept c.args.epoch c.args.batch.now c.requires.start.0 c.requires.start.1 _ (g.met.D.Disk.sound _ t) s holds _
    (λ is. c.bodies.ensures.some (c.bodies.ensures.bodies ∙ is)) (c.replace_again.ensures.touches t) _)

pub returns-then-again-clause-others : goal.returns-then-again-clause-others
returns-then-again-clause-others g c = λ t. keeps_others c.args.batch.now.first _ _ _ (g.met.D.Disk.sound _ (c.replace_again.ensures.call.tells.0 t))
    (c.replace_again.ensures.touches t) c.requires.start.1

pub returns-then-again-clause-cut : goal.returns-then-again-clause-cut
returns-then-again-clause-cut g c = λ t s holds can.
    let able = can_again c.args.epoch c.args.batch.now c.requires.start.0 c.requires.start.1 _ (g.met.D.Disk.sound _ t) s holds c.args.again c.if-again.true can in
    cost_is c.args.again _ c.if-again.true s _ _ _ _
    (cut_by c.args.batch.now.first _ _ _ (g.met.D.Disk.sound _ (c.replace_again.ensures.call.tells.0 t)) (c.replace_again.ensures.touches t) s holds _ _ _ _
    (c.replace_again.ensures.cut t s.segments able.0 holds.segments able.1))

pub returns-else-again-clause-effect : goal.returns-else-again-clause-effect
returns-else-again-clause-effect g c = λ t s holds can.
    does_by c.args.batch.now.first _ _ _ (g.met.D.Disk.sound _ (c.replace.ensures.call.tells.0 t)) (c.replace.ensures.touches t) s holds _ _
    (c.replace.ensures.effect t s.segments holds.segments (can_replace c.args.epoch c.args.batch.now c.requires.start.0 c.requires.start.1 _
    (g.met.D.Disk.sound _ t) s holds c.args.again c.if-again.false can))
    (accept_kept c.args.epoch c.args.batch.now c.requires.start.0 c.requires.start.1 _ (g.met.D.Disk.sound _ t) s holds _
    (λ is. c.bodies.ensures.some (c.bodies.ensures.bodies ∙ is)) (c.replace.ensures.touches t) _ (c.replace.ensures.fresh t))

pub returns-else-again-clause-others : goal.returns-else-again-clause-others
returns-else-again-clause-others g c = λ t. keeps_others c.args.batch.now.first _ _ _ (g.met.D.Disk.sound _ (c.replace.ensures.call.tells.0 t)) (c.replace.ensures.touches t) c.requires.start.1

pub returns-else-again-clause-cut : goal.returns-else-again-clause-cut
returns-else-again-clause-cut g c = λ t s holds can.
    cost_is c.args.again _ c.if-again.false s _ _ _ _
    (cut_by c.args.batch.now.first _ _ _ (g.met.D.Disk.sound _ (c.replace.ensures.call.tells.0 t)) (c.replace.ensures.touches t) s holds _ _ _ _
    (c.replace.ensures.cut t s.segments holds.segments (can_replace c.args.epoch c.args.batch.now c.requires.start.0 c.requires.start.1 _
    (g.met.D.Disk.sound _ t) s holds c.args.again c.if-again.false can)))
