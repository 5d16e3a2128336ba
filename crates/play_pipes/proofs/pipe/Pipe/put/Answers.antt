use Rattle.std.proofs.Common.{ap, ◌∙◌}
use Rattle.crossbeam_queue.specs.Passes.{view}
use Rattle.play_pipes.specs.Ends.{put_one}
use Rattle.play_pipes.proofs.PipeLaws.{tied_put, seen_put}
use Rattle.play_pipes.proofs.pipe.Pipe.put.Goals as goal

pub invariant_of-self : goal.invariant_of-self
invariant_of-self g c =
    let p = c.self.inside in
    tied_put _ _ p.sends c.push.new.pass p.hears p.hears _ _ c.args.request c.self.invariant (c.push.ensures.same ∙ c.self.invariant.sends_own.0, c.push.ensures.own.1) c.push.ensures.sent

pub returns : goal.returns
returns g c =
    let p = c.self.inside in
    seen_put (g.L.Line.place p.worker.promise.line.value, g.L.Line.calls p.worker.promise.line.value) (view p.sends) (view c.push.new.pass)
    (view p.hears) c.args.request c.self.invariant.whole c.self.invariant.behind (ap (λ e. e.waiting) c.self.view_is ∙ c.requires) c.push.ensures.sent
    ∙ ap (put_one c.args.request) c.self.view_is
