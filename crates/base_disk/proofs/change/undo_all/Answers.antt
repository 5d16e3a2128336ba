use Rattle.std.proofs.Common.{◌≡◌, ◌∙◌, ◌++◌, ◌∷◌, [], ℕ, List, ap, sym, subst}
use Rattle.base_disk.specs.Change.{Stage, undo, undone, CanUndo, AllUndo}
use Rattle.base_disk.specs.declared.change.Change.{Change}
use Rattle.base_disk.proofs.MemFileLemmas.{undone-push, AllUndo-pop, CanUndo-last, undo-end, CanUndo-end, undo_ends}
use Rattle.base_disk.proofs.change.undo_all.Goals as goal

-- one change less
step : (all rest : List Change) (c : Change) (bytes : List ℕ) (end : ℕ) (t first : Stage) → all ≡ rest ++ c ∷ [] → t ≡ undo c (record { bytes = bytes; end = 0 })
    → undone all (record { bytes = bytes; end = end }) ≡ first → AllUndo all (record { bytes = bytes; end = end }) → (undone rest t ≡ first) × AllUndo rest t
step all rest c bytes end t first items is same can =
    let s : Stage = record { bytes = bytes; end = end } in
    let e : t ≡ undo c s = is ∙ undo-end c bytes 0 end in
    let can' : AllUndo (rest ++ c ∷ []) s = subst (λ (cs : List Change). AllUndo cs s) items can in
    let last : CanUndo c s = CanUndo-last rest c s can' in (
      ap (λ (u : Stage). undone rest u) e ∙ sym (undone-push rest c s) ∙ ap (λ (cs : List Change). undone cs s) (sym items) ∙ same,
      subst (λ (u : Stage). AllUndo rest u) (sym e) (AllUndo-pop rest c s can' last (undo_ends c s last)),
    )

pub undo-end-requires : goal.undo-end-requires
undo-end-requires c =
    CanUndo-end c.in-Some.change c.loop-change.buffer.items c.loop-change.end 0
    (CanUndo-last c.pop.new.self.items c.in-Some.change (record { bytes = c.loop-change.buffer.items; end = c.loop-change.end })
    (subst (λ (cs : List Change). AllUndo cs (record { bytes = c.loop-change.buffer.items; end = c.loop-change.end })) c.in-Some.ensures.items c.loop-change.invariant.1))

pub loop-change-preserved-in-Some : goal.loop-change-preserved-in-Some
loop-change-preserved-in-Some c =
    step c.loop-change.changes.items c.pop.new.self.items c.in-Some.change c.loop-change.buffer.items c.loop-change.end (record { bytes = c.undo-end.new.buffer.items; end = c.undo-end.result })
    (undone c.args.changes.now.items (record { bytes = c.args.buffer.now.items; end = c.args.end })) c.in-Some.ensures.items c.undo-end.ensures c.loop-change.invariant.0 c.loop-change.invariant.1

pub loop-change-preserved : goal.loop-change-preserved
loop-change-preserved c =
    step c.loop-change.changes.items c.pop.new.self.items c.in-Some.change c.loop-change.buffer.items c.loop-change.end (record { bytes = c.undo-end.new.buffer.items; end = c.undo-end.result })
    (undone c.args.changes.now.items (record { bytes = c.args.buffer.now.items; end = c.args.end })) c.in-Some.ensures.items c.undo-end.ensures c.loop-change.invariant.0 c.loop-change.invariant.1
