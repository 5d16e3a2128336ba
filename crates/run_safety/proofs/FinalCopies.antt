-- A final copy of a segment has all that was held of it under its epoch, and is what is held of it
-- under each higher epoch.
use Rattle.std.proofs.Common.{◌≡◌, ℕ, suc, ◌+◌, ◌<◌, ◌≤◌, true, List, length, Some, refl, inl, inr, arith, sym, ap, ◌∙◌}
use Rattle.std.specs.Prelude.{slice_get}
use Rattle.journal_core.specs.Segments.{find_segment, end_of, HasAt}
use Rattle.journal_core.specs.Views.{last_txid}
use Rattle.journal_core.specs.declared.segment.Segment.{Segment}
use Rattle.journal_history.specs.Entries.{Entry, node_after}
use Rattle.run_safety.specs.Run.{Story, Follows}
use Rattle.run_safety.specs.Safe.{IsHeld}
use Rattle.run_safety.proofs.Places.{Follows-earlier}
use Rattle.run_safety.proofs.Shapes.{Shape, by_recovery, by_opening, shaped, Shaped-later, Maj}
use Rattle.run_safety.proofs.Epochs.{Fin, held_wrote, same_epoch, higher_epoch}
use Rattle.run_safety.proofs.Finals.{Sealed, sealed}
use Rattle.run_safety.proofs.ToldLaws.{final_fin, fin_le, fin_covers, has_chosen}
use Rattle.run_safety.proofs.Induction.{good}
use Rattle.run_safety.proofs.Safety.{all_good, same_lists, body_at}

module _ (n : ℕ) (story : Story) (past : List Entry) (run : Follows n story past) where
  finalised : (i : ℕ) (g : Segment) → IsHeld past i g → g.is_final ≡ true → Fin n story past run g.epoch g.start (end_of g)
  finalised i g held final = final_fin n story past run i g.start held.0 g held.1 held.2 final

  found_at : (i m : ℕ) (g : Segment) → (h : IsHeld past i g) → g.start ≡ m → find_segment m (node_after i h.0).segments ≡ Some g
  found_at i m g h is = ap (λ z. find_segment z (node_after i h.0).segments) (sym is) ∙ h.2

  pub final_has_all : (i j : ℕ) (g h : Segment) (t : ℕ) (x : List ℕ) → IsHeld past i g → IsHeld past j h → g.is_final ≡ true → h.start ≡ g.start → h.epoch ≡ g.epoch → HasAt h t x → HasAt g t x
  final_has_all i j g h t x hg hh final start epoch has =
      let w = held_wrote n story past run j g.epoch g.start t x (record { old = hh.0; within = hh.1; segment = h; found = found_at j g.start h hh start; header = epoch; has = has }) in
      let fin = finalised i g hg final in
      let le = fin_le n story past run g.epoch g.start (end_of g) fin in
      let upto : t ≤ end_of g = fin_covers n story past run g.epoch g.start (end_of g) t x fin w in
      same_epoch n story past run i g.epoch g.start t x hg.0 g hg.1 hg.2 refl w (omega (arith, upto, le.0, le.1))

  pub final_is_kept : (i j : ℕ) (g h : Segment) → IsHeld past i g → IsHeld past j h → g.is_final ≡ true → h.start ≡ g.start → g.epoch < h.epoch → h.bodies ≡ g.bodies
  final_is_kept i j g h hg hh final start lt =
      by (Shaped-later n story h.start h hh.1 (shaped n story hh.0 (Follows-earlier n story hh.1 run) j h.start h hh.2)).shape
    where
      fin : Fin n story past run g.epoch g.start (end_of g)
      fin = finalised i g hg final

      le : (1 ≤ g.start) × (g.start ≤ end_of g)
      le = fin_le n story past run g.epoch g.start (end_of g) fin

      s : Sealed n story past run g.epoch g.start (end_of g)
      s = sealed n story past run g.epoch g.start (end_of g) fin

      both : (d : ℕ) → (y : (body : List ℕ) × Maj n past s.epoch g.start (g.start + d) body) → (body : List ℕ) × (slice_get h.bodies d ≡ Some body) × (slice_get g.bodies d ≡ Some body)
      both d y = (
        y.0,
        body_at h g.start d y.0 start (higher_epoch n story past run j s.epoch g.start (g.start + d) y.0 hh.0 h hh.1 (found_at j g.start h hh start)
            (omega (arith, s.le, lt)) (good n story past run h.epoch) y.1),
        body_at g g.start d y.0 refl (has_chosen n story past run (suc g.epoch) i s.epoch g.start (g.start + d) y.0 hg.0 g
            (all_good n story past run (suc g.epoch)) (omega (arith, s.le)) (omega arith) hg.1 hg.2 (inl final) y.1),
      )

      same_ends : length h.bodies ≡ length g.bodies → h.bodies ≡ g.bodies
      same_ends even = same_lists h.bodies g.bodies even (λ d less. both d (s.all (g.start + d) (omega arith) (let up : d < length g.bodies = omega (arith, less, even) in omega (arith, le.0, le.1))))

      by : Shape n story past h.start h.epoch h.bodies → h.bodies ≡ g.bodies
      by (by_opening o) = (let below : end_of g < h.start = (good n story past run h.epoch).opened_end h.start o g.epoch g.start (end_of g) lt fin in absurd (omega (arith, le.1, start)))
      by (by_recovery b first r bodies) = elim ((good n story past run h.epoch).recovered_end b r g.epoch g.start (end_of g) lt fin) [
        | inl below ↦ absurd (omega (arith, le.1, first, start))
        | inr ends ↦ same_ends (let even : length h.bodies ≡ length b.bodies = ap (λ bs. length bs) bodies in let last : last_txid b ≡ end_of g = ends.1 in omega (arith, even, ends.0, le.0, le.1))
      ]
