use Rattle.std.proofs.Common.{◌≡◌}
use Rattle.crossbeam_queue.specs.Passes.{view, IsPassOf}
use Rattle.play_pipes.specs.Served.{Serving}
use Rattle.play_pipes.proofs.worker.serve.Given as goal

abbrev pub invariant-loop : goal.invariant-loop
invariant-loop g l =
    (goal.iterator-loop g).can_next l.iterator' × (goal.iterator-loop g).is_finite l.iterator' × IsPassOf l.queues.asks l.takes × IsPassOf l.queues.answers l.gives
    × (g.L.Line.place l.line ≡ g.L.Line.place l.fn.line)
    × Serving l.queues.asks.table.shared.table_id (g.L.Line.calls l.fn.line) (view l.takes) (view l.gives) (g.L.Line.calls l.line)
