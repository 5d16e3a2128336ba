use Rattle.std.proofs.Common.{◌≡◌, ◌++◌, map}
use Rattle.caller.specs.Callers.{AreLater}
use Rattle.journal_history.specs.declared.record.Record.TheVariants.{Outcome}
use Rattle.play_actor.proofs.actions.list_all.Given as goal

abbrev pub invariant-loop-text : goal.invariant-loop-text
invariant-loop-text g l =
    (l.caller.log.past ≡ l.fn.caller.log.past ++ map (λ text. Outcome text) l.yielded) × (l.caller.log.marks ≡ l.fn.caller.log.marks)
    × AreLater g.W.WireModel l.fn.caller l.caller
