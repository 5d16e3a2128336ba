use Rattle.std.proofs.Common.{◌++◌, ◌∷◌, [], List, Option, refl}
use Rattle.journal_history.specs.declared.record.Record.{Record}
use Rattle.journal_history.specs.declared.mark.Mark.{Mark}
use Rattle.ns_tree.specs.declared.end.LastSpace.{LastSpace}
use Rattle.play_threads.proofs.ListLaws.{oks_more, parts_more}
use Rattle.play_threads.proofs.threads.side_by_side.Goals as goal

pub loop-left-init : goal.loop-left-init
loop-left-init g c = ([], refl, c.in_ok-seats.ensures.items, c.in_ok-records.ensures.items, c.in_ok-plans.ensures.items, c.in_ok-lasts.ensures.items)

pub loop-left-preserved : goal.loop-left-preserved
loop-left-preserved g c =
    let inv = c.loop-left.invariant in
    let new : g.row.S.Denot × List Record × List Mark × Option LastSpace = (c.in_ok-its_seats.its_seats, c.in_ok-its_seats.past, c.in_ok-its_seats.marks, c.in_ok-its_seats.last) in (
      inv.0 ++ new ∷ [],
      oks_more inv.0 c.loop-left.yielded c.in-Some.left new c.in_ok-its_seats.was inv.1,
      parts_more (λ o. o.0) inv.0 c.loop-left.seats.items c.push.new.self.items new inv.2 c.in_ok-push.ensures.items,
      parts_more (λ o. o.1) inv.0 c.loop-left.records.items c.push-in-loop-left.new.self.items new inv.3 c.in_ok-push-2.ensures.items,
      parts_more (λ o. o.2) inv.0 c.loop-left.plans.items c.push-in-loop-left-2.new.self.items new inv.4 c.in_ok-push-3.ensures.items,
      parts_more (λ o. o.3) inv.0 c.loop-left.lasts.items c.push-in-loop-left-3.new.self.items new inv.5 c.in_ok-push-4.ensures.items,
    )
