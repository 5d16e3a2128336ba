use Rattle.std.proofs.Common.{rules, ◌≡◌, ◌≤◌, ◌+◌, ◌-◌, true, length, sym, subst, ap, ◌∙◌}
use Rattle.journal_history.specs.declared.mark.MarkKind.TheVariants as kind
use Rattle.play_calls.specs.Logs.{LogView}
use Rattle.play_calls.proofs.IndexLaws.{at_place, places_number}
use Rattle.play_calls.proofs.LogLaws.{mark_kept}
use Rattle.play_calls.proofs.caller_log.CallerLog.mute_next.Goals as goal

pub invariant_of-self-2 : goal.invariant_of-self-2
invariant_of-self-2 c e =
    let whole : c.self.inside.is_whole ≡ true = search rules in
    let P : LogView → Type 0 = λ v. c.args.node ≤ v.nodes in
    let high : c.args.node ≤ length c.self.inside.calls.items = subst P (sym c.self.view_is) c.requires.high in
    let kept = c.self.invariant whole in
    let index = at_place c.self.inside.past c.self.inside.marks c.self.inside.calls.items c.args.node c.index_mut.result.now c.requires.low high kept.0 c.index_mut.ensures.value in
    mark_kept c.self.inside.past c.self.inside.marks c.push.new.self c.self.inside.calls.items c.args.node c.args.next c.in_ok-number.number kind.Muted c.index_mut.result.now
    c.mute_next.new.self c.requires.low high c.requires.from_one (λ x. cc x) kept c.index_mut.ensures.value
    (c.in_ok-number.ensures.number ∙ ap (λ k. k + (c.args.next - 1)) (places_number c.args.node c.self.inside.past c.self.inside.marks c.index_mut.result.now index))
    c.in_ok-number.ensures.index c.in_ok-push.ensures.ok
