use Rattle.std.proofs.Common.{ℕ, ◌≡◌, ◌<◌, ◌∙◌, List, [], ◌∷◌, length, get_or, filter, take, ◌+◌, Bool, Option, arith, ap, sym, refl, subst}
use Rattle.journal_core.specs.declared.segment.Segment.{Segment}
use Rattle.journal_core.specs.Segments.{IsWithin}
use Rattle.journal_core.specs.Effects.{Remove}
use Rattle.journal_core.specs.Places.{is_old}
use Rattle.journal_core.specs.Cuts.{Cost, cost_of, name_cost}
use Rattle.journal_core.specs.Step.{may_go}
use Rattle.journal_core.proofs.PlaceLaws.{segment_within}
use Rattle.journal_step.specs.declared.segment_index.IndexedSegment.{IndexedSegment}
use Rattle.journal_step.specs.declared.budget.Budget.{Budget}
use Rattle.journal_step.specs.Budgets.{SpendsTo}
use Rattle.journal_step.specs.Index.{IsEntryOf}
use Rattle.journal_step.proofs.CutLaws.{purge_costs, purge_more, purge_skip, removal_cost}
use Rattle.journal_step.proofs.cutting.purge_budget.Goals as goal
use Rattle.journal_step.proofs.cutting.purge_budget.Goals.{then-is_old, else-is_old}

pub entry_of-entry-requires : goal.entry_of-entry-requires
entry_of-entry-requires c =
    let gs = c.args.state.now.segments in
    let i = c.loop-segment.segment-index in
    let d = c.segment-item.result in
    let same = c.as_slice-segment-items.ensures.segments in
    let there : d ≡ get_or gs i d = c.segment-item.is ∙ ap (λ (xs : List Segment). get_or xs i d) same in
    let l : i < length gs = omega (arith, ap length same) in
    subst (λ (g : Segment). IsWithin g) (sym there) (segment_within gs i d c.as_slice-segment-items.ensures.sound l)

pub loop-segment-preserved : goal.loop-segment-preserved
loop-segment-preserved c =
    let s = c.args.state.now in
    let gs = s.segments in
    let i = c.loop-segment.segment-index in
    let d = c.segment-item.result in
    let p : Segment → Bool = may_go s c.args.committed c.args.min in
    let same = c.as_slice-segment-items.ensures.segments in
    let there : d ≡ get_or gs i d = c.segment-item.is ∙ ap (λ (xs : List Segment). get_or xs i d) same in
    let l : i < length gs = omega (arith, ap length same) in
    let told : IsEntryOf d c.entry_of-entry.result = subst (λ (e : IndexedSegment). IsEntryOf d e) (sym c.entry_of-entry.ensures) (record { info = refl; edit = refl }) in
    let old : c.is_old.result ≡ p (get_or gs i d) =
    c.is_old.ensures.told d told ∙ ap (λ (n : Option ℕ). is_old s.opened n c.args.committed c.args.min d) c.newest-newest.ensures ∙ ap p there in
    elim c.if-is_old.branch [
      | then-is_old w ↦
          let own : name_cost d.accepted ≡ cost_of c.args.cut gs (Remove (get_or gs i d).start) =
          ap (λ (g : Segment). name_cost g.accepted) there ∙ sym (removal_cost c.args.cut gs i d c.as_slice-segment-items.ensures.sound l) in
          let spent : SpendsTo c.loop-segment.left (cost_of c.args.cut gs (Remove (get_or gs i d).start) ∷ []) w.spend-left.result =
          subst (λ (k : Cost). SpendsTo c.loop-segment.left (k ∷ []) w.spend-left.result) (w.name_cost.ensures ∙ own) w.spend-left.ensures in
          subst (λ (b : Budget). SpendsTo c.args.budget (purge_costs c.args.cut gs (filter p (take (i + 1) gs))) b) (sym w.left-is)
          (purge_more c.args.cut gs gs p i d c.args.budget c.loop-segment.left w.spend-left.result c.loop-segment.invariant l (sym old ∙ w.if-is_old.true) spent)
      | else-is_old w ↦
          subst (λ (b : Budget). SpendsTo c.args.budget (purge_costs c.args.cut gs (filter p (take (i + 1) gs))) b) (sym w.left-is)
          (purge_skip c.args.cut gs gs p i d c.args.budget c.loop-segment.left c.loop-segment.invariant l (sym old ∙ w.if-is_old.false))
    ]
