use Rattle.std.proofs.Common.{subst, refl, ◌∙◌}
use Rattle.caller.specs.LaterLaws.{later_same, later_on}
use Rattle.play_model.specs.Lines.{line_of}
use Rattle.play_model.specs.Actions.{kept_by, has_names, action_of}
use Rattle.play_threads.specs.Threads.{TakesOwn, is_by}
use Rattle.play_threads.proofs.ActorLaws.{done_first, done_next}
use Rattle.play_threads.proofs.actor_lines.act.Goals as goal

pub loop-line-init : goal.loop-line-init
loop-line-init g c =
    let s = c.args.caller.now in (
      done_first (has_names (g.A.Actor.seen c.args.by.now)) s.log.nodes c.args.actor c.args.lines.now (g.A.Actor.seen c.args.by.now)
          s.log c.requires.some c.requires.new c.requires.log,
      refl,
      later_same g.W.WireModel g.met.W.Wire.readies_none s,
    )

pub loop-line-preserved : goal.loop-line-preserved
loop-line-preserved g c =
    let s = c.args.caller.now in
    let mid = c.loop-line.caller in
    let last = c.take_own.new.caller in
    let old = kept_by (g.A.Actor.seen c.loop-line.by) mid.log in
    let new = kept_by (g.A.Actor.seen c.take_own.new.by) last.log in
    let x = c.line-item.result in
    let d = action_of (line_of x) in (
      done_next (has_names (g.A.Actor.seen c.args.by.now)) s.log.nodes c.args.actor c.args.lines.now c.loop-line.line-index x old new
          c.loop-line-test.true c.line-item.is c.loop-line.invariant.0
          (subst (λ k. TakesOwn (is_by c.args.actor d) k d old new) c.loop-line.invariant.2.nodes c.in_ok-take_own.ensures.takes),
      c.in_ok-take_own.ensures.named ∙ c.loop-line.invariant.1,
      later_on g.W.WireModel g.met.W.Wire.readies_on s mid last c.loop-line.invariant.2 c.in_ok-take_own.ensures.later,
    )
