use Rattle.crossbeam_queue.specs.Passes.{view}
use Rattle.play_pipes.proofs.PipeLaws.{unstarted}
use Rattle.play_pipes.proofs.start.keep.Goals as goal

pub new-requires-clause-calls : goal.new-requires-clause-calls
new-requires-clause-calls g c =
    let left = c.args.left in
    unstarted (g.L.Line.calls c.args.start.value) (view c.args.sends) (view left.takes) (view left.gives)
    (g.L.Line.calls left.line) c.compare.ensures.0 c.requires.closed c.requires.served c.compare.ensures.1
