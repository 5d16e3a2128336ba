use Rattle.std.proofs.Common.{ap, ◌∙◌, ◌++◌}
use Rattle.crossbeam_queue.specs.Passes.{view}
use Rattle.play_pipes.proofs.PipeLaws.{finished}
use Rattle.play_pipes.proofs.pipe.Pipe.finish.Goals as goal

pub returns-clause-calls : goal.returns-clause-calls
returns-clause-calls g c =
    let p = c.self.inside in
    let left = c.join-line.result in
    let a = c.compare.ensures in
    let b = c.compare-2.ensures in
    finished (g.L.Line.calls p.worker.promise.line.value) (view p.sends) (view c.push.new.pass) (view left.takes) (view left.gives) (view p.hears)
    (g.L.Line.calls left.line) a.0 b.0 c.self.invariant.whole c.self.invariant.behind
    (ap (λ e. e.waiting) c.self.view_is ∙ c.requires) c.push.ensures.sent c.join-line.ensures.served a.1 b.1
    ∙ ap (λ e. e.start.1 ++ e.told) c.self.view_is
