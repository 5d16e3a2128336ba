use Rattle.std.proofs.Common.{◌≡◌, map, take}
use Rattle.caller.specs.Callers.{AreLater}
use Rattle.play_model.specs.Lines.{actions_of, line_of}
use Rattle.play_model.specs.Actions.{kept_by, has_names}
use Rattle.play_threads.specs.Threads.{HasDone}
use Rattle.play_threads.proofs.actor_lines.act.Given as goal

abbrev pub invariant-loop-line : goal.invariant-loop-line
invariant-loop-line g l =
    HasDone (has_names (g.A.Actor.seen l.initial.by)) l.initial.caller.log.nodes
    (actions_of l.actor (map line_of (take l.line-index l.lines))) (kept_by (g.A.Actor.seen l.by) l.caller.log)
    × (has_names (g.A.Actor.seen l.by) ≡ has_names (g.A.Actor.seen l.initial.by)) × AreLater g.W.WireModel l.initial.caller l.caller
