use Rattle.std.proofs.Common.{◌≡◌, List, Option, map}
use Rattle.std.specs.Prelude.{Ok}
use Rattle.journal_history.specs.declared.record.Record.{Record}
use Rattle.journal_history.specs.declared.mark.Mark.{Mark}
use Rattle.ns_tree.specs.declared.end.LastSpace.{LastSpace}
use Rattle.play_threads.proofs.threads.side_by_side.Given as goal

abbrev pub invariant-loop-left : goal.invariant-loop-left
invariant-loop-left g l =
    (oks : List (g.row.S.Denot × List Record × List Mark × Option LastSpace)) × (l.yielded ≡ map (λ o. Ok o) oks)
    × (l.seats.items ≡ map (λ o. o.0) oks) × (l.records.items ≡ map (λ o. o.1) oks) × (l.plans.items ≡ map (λ o. o.2) oks)
    × (l.lasts.items ≡ map (λ o. o.3) oks)
