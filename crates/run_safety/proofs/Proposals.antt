-- What a proposal is told where a lower epoch has a chosen body; and how a segment goes from a
-- node.
use Rattle.std.proofs.Common.{◌≡◌, ℕ, ◌<◌, ◌≤◌, true, List, ◌∷◌, Option, None, Some, refl, inl, inr, arith, sym, ap, ◌∙◌}
use Rattle.journal_core.specs.Segments.{find_segment, newest, has_edit, HasAt}
use Rattle.journal_core.specs.Step.{last_or_start}
use Rattle.journal_core.specs.Views.{HeadView}
use Rattle.journal_core.specs.declared.node_state.NodeState.{NodeState}
use Rattle.journal_core.specs.declared.reply.Reply.TheVariants.{NewEpoch as EpochTaken}
use Rattle.journal_core.specs.declared.request.Request.{Request}
use Rattle.journal_core.specs.declared.request.Request.TheVariants.{NewEpoch, Purge}
use Rattle.journal_core.specs.declared.segment.Segment.{Segment}
use Rattle.journal_core.proofs.SegmentLists.{newest-above}
use Rattle.journal_core.proofs.Changes.{Change, same, created, grown, made_final, replaced, removed}
use Rattle.run_safety.specs.Majority.{Member, IsMajority}
use Rattle.journal_history.specs.Entries.{Heard, Answer, Entry, Earlier, after_move, node_after}
use Rattle.run_safety.specs.Run.{Story, Follows, IsNext}
use Rattle.run_safety.specs.Safe.{IsHeld, IsChosen, IsOf}
use Rattle.run_safety.specs.Parts.{ToldNewest}
use Rattle.run_safety.proofs.Places.{Earlier-tail, next_of}
use Rattle.run_safety.proofs.Majorities.{majorities_share}
use Rattle.run_safety.proofs.Along.{node_here, entry_change}
use Rattle.run_safety.proofs.Slots.{none≢some}
use Rattle.run_safety.proofs.Sent.{Taken, taken, to}
use Rattle.run_safety.proofs.Values.{edit_of}
use Rattle.run_safety.proofs.Oks.{newest_rises}
use Rattle.run_safety.proofs.Shapes.{HeldAt}
use Rattle.run_safety.proofs.Between.{asking_entry, held_before}

module _ (n : ℕ) (story : Story) (past : List Entry) (run : Follows n story past) where
  -- the answer of one node
  told_at : (old : List Entry) (x : Entry) (caller f : ℕ) (told : Option ℕ) → Earlier (x ∷ old) past → x.move ≡ Answer caller Heard (NewEpoch f) (EpochTaken told)
      → (e t : ℕ) (body : List ℕ) (g : Segment) → IsHeld past x.node g → g.epoch ≡ e → HasAt g t body → e < f → (k : ℕ) × (told ≡ Some k) × (g.start ≤ k)
  told_at old x caller f told p is e t body g held header has lt =
      let said = to (λ m. IsNext n story old x.node (node_after x.node old) m) is (next_of n story p run).is_next in
      let y : Taken (node_after x.node old) f told = taken (node_after x.node old) f told said.1 in
      let after : (node_after x.node (x ∷ old)).promised ≡ f = ap (λ s. s.promised) (node_here x.node x old refl ∙ ap (λ m. after_move (node_after x.node old) m) is) ∙ y.promise in
      let h : HeldAt past x.node e g.start t body = record { old = held.0; within = held.1; segment = g; found = held.2; header = header; has = has } in
      let b = held_before x.node e g.start t body x old past h p (omega arith) (asking_entry x.node g.start x old caller Heard (NewEpoch f) (EpochTaken told) is tt) in
      let top = newest-above g.start (node_after x.node b.0).segments b.1 b.3 (edit_of b.1 t body b.5) in
      let risen = newest_rises n story past run x.node top.0 b.2 (Earlier-tail p) top.1 in
      (risen.0, sym y.newest_is ∙ risen.1, omega (arith, top.2, risen.2))

  pub proposals_told : (e f t : ℕ) (body nodes : List ℕ) → IsChosen n past e t body → e < f → IsMajority n nodes → ((i : ℕ) → Member i nodes → (told : Option ℕ) × ToldNewest past i f told)
      → (i : ℕ) × (k : ℕ) × (g : Segment) × IsHeld past i g × (g.epoch ≡ e) × HasAt g t body × (g.start ≤ k) × ToldNewest past i f (Some k)
  proposals_told e f t body nodes chosen lt majority each = by (chosen.2 shared.0 shared.1) (each shared.0 shared.2)
    where
      shared : (i : ℕ) × Member i chosen.0 × Member i nodes
      shared = majorities_share n chosen.0 nodes chosen.1 majority

      by : (g : Segment) × IsHeld past shared.0 g × (g.epoch ≡ e) × HasAt g t body → (told : Option ℕ) × ToldNewest past shared.0 f told
          → (i : ℕ) × (k : ℕ) × (g : Segment) × IsHeld past i g × (g.epoch ≡ e) × HasAt g t body × (g.start ≤ k) × ToldNewest past i f (Some k)
      by h v =
          let y = told_at v.1.0 v.1.1 v.1.4.0 f v.0 v.1.2 v.1.4.1 e t body h.0 (to (λ i. IsHeld past i h.0) (sym v.1.3) h.1) h.2 h.3 lt in
          (shared.0, y.0, h.0, h.1, h.2, h.3, y.2, to (λ o. ToldNewest past shared.0 f o) y.1 v.1)

  -- ## How a segment goes
  pub only_removed : (s : NodeState) (r : Request) (m : ℕ) (g : Segment) (o new : Option Segment) → Change s r m o new → o ≡ Some g → new ≡ None
      → (h : HeadView) × (min : ℕ) × (r ≡ Purge h min) × (last_or_start g ≤ h.committed) × (has_edit g ≡ true → newest s.segments ≡ Some m → ⊥)
  only_removed s r m g o new same a b = none≢some g (sym b ∙ a)
  only_removed s r m g o new (created h q none) a b = none≢some _ (sym b)
  only_removed s r m g (Some x) new (grown h l q header f first) a b = none≢some _ (sym b)
  only_removed s r m g (Some x) new (made_final h l q edit f header ends) a b = none≢some _ (sym b)
  only_removed s r m g o new (replaced h l q first f) a b = none≢some _ (sym b)
  only_removed s r m g (Some x) new (removed h l q newer le shut) a b =
      let is : x ≡ g = cc in (h, l, q, to (λ z. last_or_start z ≤ h.committed) is le, to (λ z. has_edit z ≡ true → newest s.segments ≡ Some m → ⊥) is newer)

  pub only_purges : (old : List Entry) (e : Entry) (i m : ℕ) (g : Segment) → find_segment m (node_after i old).segments ≡ Some g → find_segment m (node_after i (e ∷ old)).segments ≡ None
      → (h : HeadView) × (min : ℕ) × IsOf e (Purge h min) × (last_or_start g ≤ h.committed) × (has_edit g ≡ true → newest (node_after i old).segments ≡ Some m → ⊥)
  only_purges old e i m g there gone = elim (entry_change i e old m) [
    | inl unchanged ↦ none≢some g (sym gone ∙ (unchanged ∙ there))
    | inr c ↦ (let y = only_removed (node_after i old) c.by.request m g _ _ c.by.change there gone in (y.0, y.1, to (λ q. IsOf e q) y.2 c.by.asked, y.3, y.4))
  ]
