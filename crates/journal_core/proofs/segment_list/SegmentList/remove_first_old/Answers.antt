use Rattle.std.proofs.Common.{rules, ◌≡◌, ◌&&◌, Bool, List, not, filter, ap, ◌∙◌}
use Rattle.std.proofs.lemmas.Fn.{filter_same}
use Rattle.journal_core.specs.declared.segment.Segment.{Segment}
use Rattle.journal_core.specs.Places.{is_old, lies_before, start_of_place}
use Rattle.journal_core.proofs.PurgeLaws.{first-without, filter_sound}
use Rattle.journal_core.proofs.segment_list.SegmentList.remove_first_old.Goals as goal

pub invariant_of-self : goal.invariant_of-self
invariant_of-self c =
    let test : Segment → Bool = λ g. not (is_old c.args.opened c.newest-newest.result c.args.committed c.args.min g && lies_before c.count_old-count.result.1 g) in
    let kept : c.retain.new.self.items ≡ filter test c.self.inside.items.items = filter_same _ test _ (λ x b f k. search rules) _ _ c.retain.ensures.filtered in
    rw kept (filter_sound test c.self.inside.items.items c.self.invariant)

pub returns-clause-rest : goal.returns-clause-rest
returns-clause-rest c =
    let gs = c.self.inside.items.items in
    let p : Segment → Bool = is_old c.args.opened c.newest-newest.result c.args.committed c.args.min in
    let test : Segment → Bool = λ g. not (p g && lies_before c.count_old-count.result.1 g) in
    let kept : c.retain.new.self.items ≡ filter test gs = filter_same _ test _ (λ x b f k. search rules) _ _ c.retain.ensures.filtered in
    let next : c.count_old-count.result.1 ≡ start_of_place (filter p gs) c.args.most =
    c.count_old-count.ensures.next ∙ ap (λ (xs : List Segment). start_of_place (filter p xs) c.args.most) c.deref.ensures.value in
    rw (kept, ← c.newest-newest.ensures, ← c.self.view_is) (first-without p gs c.args.most c.count_old-count.result.1 c.self.invariant next)
