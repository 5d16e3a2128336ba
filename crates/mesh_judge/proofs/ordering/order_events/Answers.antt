use Rattle.std.proofs.Common.{◌≡◌, IfOk, List, rules, subst}
use Rattle.std.proofs.lemmas.List.Sorted.{answers_always}
use Rattle.run_safety.specs.declared.event.Event.{Event}
use Rattle.mesh_judge.proofs.EpochOrder.{pair_of, order_is}
use Rattle.mesh_judge.proofs.ordering.order_events.Goals as goal

pub returns : goal.returns
returns c =
    subst (λ (l : List Event). IfOk c.events_of.result (λ events. events.items ≡ l))
    (order_is c.args.mesh.now c.in_ok-ranked.ranked.items c.sort_by_key.new.self.items c.in_ok-ranked.ensures
    (c.in_ok-sort_by_key.ensures.sorted pair_of (answers_always _ _ _ (λ f a r q h. search rules)))
    (c.in_ok-sort_by_key.ensures.stable pair_of (answers_always _ _ _ (λ f a r q h. search rules))))
    c.events_of.ensures
