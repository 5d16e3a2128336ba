use Rattle.std.proofs.Common.{rules, ◌≡◌, ◌==◌, Bool, not, filter}
use Rattle.std.proofs.lemmas.Fn.{filter_same}
use Rattle.journal_core.specs.declared.segment.Segment.{Segment}
use Rattle.journal_core.proofs.PurgeLaws.{removes_start, filter_sound}
use Rattle.journal_core.proofs.segment_list.SegmentList.remove.Goals as goal

pub invariant_of-self : goal.invariant_of-self
invariant_of-self c =
    let test : Segment → Bool = λ g. not (g.start == c.args.start) in
    let kept : c.retain.new.self.items ≡ filter test c.self.inside.items.items = filter_same _ test _ (λ x b f k. search rules) _ _ c.retain.ensures.filtered in
    rw kept (filter_sound test c.self.inside.items.items c.self.invariant)

pub returns : goal.returns
returns c =
    let test : Segment → Bool = λ g. not (g.start == c.args.start) in
    let kept : c.retain.new.self.items ≡ filter test c.self.inside.items.items = filter_same _ test _ (λ x b f k. search rules) _ _ c.retain.ensures.filtered in
    rw (kept, ← c.self.view_is) (removes_start c.args.start c.self.inside.items.items)
