-- The newest edits of the cached segment stay those that are held, whatever is done to the
-- segments.
use Rattle.std.proofs.Common.{inl, inr, ℕ, ◌≡◌, ◌≢◌, ◌+◌, true, false, List, [], ◌++◌, length, Option, Some, None, refl, sym, ap, subst, ◌∙◌}
use Rattle.std.proofs.lemmas.Bool.Decides.{eqb_tells}
use Rattle.journal_core.specs.declared.segment.Segment.{Segment}
use Rattle.journal_core.specs.Segments.{find_segment, put_segment, remove_segment}
use Rattle.journal_core.specs.Effects.{empty_segment, appended, finalized}
use Rattle.journal_core.proofs.SegmentLists.{find-start, find-put_same, find-put_other, find-remove_other}
use Rattle.disk_recent.specs.Edits.{Edit, Follows, kept_edits, number_edits}
use Rattle.disk_recent.proofs.Kept.{follows_numbered}
use Rattle.disk_recent.proofs.Numbered.{numbered-append}
use Rattle.disk_recent.specs.Recent.{Recent, IsRecent, newest_of, newest_in, nothing, most_stored}

-- ## One segment is put, begun or final
pub begun : (start epoch : ℕ) (gs : List Segment) → IsRecent (record { start = Some start; edits = [] }) (put_segment (empty_segment start epoch) gs)
begun start epoch gs = sym (ap newest_of (find-put_same (empty_segment start epoch) gs))

put_beside : (start : ℕ) (g : Segment) (gs : List Segment) → g.start ≢ start → newest_in (Some start) (put_segment g gs) ≡ newest_in (Some start) gs
put_beside start g gs other = ap newest_of (find-put_other start g gs other)

other_start : (start cached : ℕ) → (start ≡ cached → ⊥) → Some cached ≢ Some start
other_start start cached other e = other (cc)

-- ## The cached segment is forgotten where another is put in its place, or none
module _ (r new : Recent) (gs after : List Segment) (start : ℕ) (same : r.start ≢ Some start → new ≡ r) (gone : r.start ≡ Some start → new ≡ nothing)
    (beside : (cached : ℕ) → start ≢ cached → newest_in (Some cached) after ≡ newest_in (Some cached) gs) (recent : IsRecent r gs) where
  none_held : r.start ≡ None → IsRecent r after
  none_held none = recent ∙ ap (λ (o : Option ℕ). newest_in o gs) none ∙ sym (ap (λ (o : Option ℕ). newest_in o after) none)

  held_beside : (cached : ℕ) → r.start ≡ Some cached → start ≢ cached → IsRecent r after
  held_beside cached is other = recent ∙ ap (λ (o : Option ℕ). newest_in o gs) is ∙ sym (beside cached other) ∙ sym (ap (λ (o : Option ℕ). newest_in o after) is)

  is_kept : IsRecent r after → r.start ≢ Some start → IsRecent new after
  is_kept held other = subst (λ (x : Recent). IsRecent x after) (sym (same other)) held

  by_start : (o : Option ℕ) → r.start ≡ o → IsRecent new after
  by_start None is = is_kept (none_held is) (λ e. cc)
  by_start (Some cached) is =
      elim (eqb_tells start cached) [
        | inl p ↦ subst (λ (x : Recent). IsRecent x after) (sym (gone (is ∙ ap (λ (n : ℕ). Some n) (sym p.1)))) refl
        | inr p ↦ is_kept (held_beside cached is p.1) (λ e. other_start start cached p.1 (sym is ∙ e))
      ]

  pub forgotten : IsRecent new after
  forgotten = by_start r.start refl

pub replaced : (r new : Recent) (gs : List Segment) (g : Segment) → (r.start ≢ Some g.start → new ≡ r) → (r.start ≡ Some g.start → new ≡ nothing) → IsRecent r gs → IsRecent new (put_segment g gs)
replaced r new gs g same gone recent = forgotten r new gs (put_segment g gs) g.start same gone (λ cached other. put_beside cached g gs other) recent

pub removed : (r new : Recent) (gs : List Segment) (start : ℕ) → (r.start ≢ Some start → new ≡ r) → (r.start ≡ Some start → new ≡ nothing) → IsRecent r gs → IsRecent new (remove_segment start gs)
removed r new gs start same gone recent = forgotten r new gs (remove_segment start gs) start same gone (λ cached other. ap newest_of (find-remove_other cached start gs other)) recent

-- ## Edits are appended
module _ (r new : Recent) (gs : List Segment) (start first : ℕ) (bodies : List (List ℕ)) (g : Segment) (known : find_segment start gs ≡ Some g)
    (next : first ≡ start + length g.bodies) (start_is : new.start ≡ r.start) (same : r.start ≢ Some start → new ≡ r)
    (pushed : (before : List Edit) → r.start ≡ Some start → r.edits ≡ kept_edits most_stored before → Follows r.edits first
    → new.edits ≡ kept_edits most_stored (before ++ number_edits first bodies)) (recent : IsRecent r gs) where
  abbrev longer : Segment
  longer = record g { bodies = g.bodies ++ bodies }

  at : g.start ≡ start
  at = find-start start gs g known

  held_all : r.start ≡ Some start → IsRecent new (put_segment longer gs)
  held_all is =
      let before : r.edits ≡ kept_edits most_stored (number_edits g.start g.bodies) = recent ∙ ap (λ (o : Option ℕ). newest_in o gs) is ∙ ap newest_of known in
      let ends : first ≡ g.start + length g.bodies = next ∙ ap (λ (n : ℕ). n + length g.bodies) (sym at) in
      pushed (number_edits g.start g.bodies) is before (subst (λ (n : ℕ). Follows r.edits n) (sym ends)
      (subst (λ (es : List Edit). Follows es (g.start + length g.bodies)) (sym before) (follows_numbered most_stored g.start g.bodies)))
      ∙ ap (λ (n : ℕ). kept_edits most_stored (number_edits g.start g.bodies ++ number_edits n bodies)) ends ∙ ap (kept_edits most_stored) (sym (numbered-append g.start g.bodies bodies))
      ∙ sym (ap newest_of (ap (λ (n : ℕ). find_segment n (put_segment longer gs)) (sym at) ∙ find-put_same longer gs))
      ∙ sym (ap (λ (o : Option ℕ). newest_in o (put_segment longer gs)) (start_is ∙ is))

  pub appended_put : IsRecent new (put_segment longer gs)
  appended_put = by r.start refl
    where
      kept_so : r.start ≢ Some start → IsRecent r (put_segment longer gs) → IsRecent new (put_segment longer gs)
      kept_so other held = subst (λ (x : Recent). IsRecent x (put_segment longer gs)) (sym (same other)) held

      by : (o : Option ℕ) → r.start ≡ o → IsRecent new (put_segment longer gs)
      by None is = kept_so (λ e. cc) (recent ∙ ap (λ (o : Option ℕ). newest_in o gs) is ∙ sym (ap (λ (o : Option ℕ). newest_in o (put_segment longer gs)) is))
      by (Some cached) is =
          elim (eqb_tells start cached) [
            | inl p ↦ held_all (is ∙ ap (λ (n : ℕ). Some n) (sym p.1))
            | inr p ↦ kept_so (λ e. other_start start cached p.1 (sym is ∙ e))
                (recent ∙ ap (λ (o : Option ℕ). newest_in o gs) is ∙ sym (put_beside cached longer gs (λ e. p.1 (sym at ∙ e))) ∙ sym (ap (λ (o : Option ℕ). newest_in o (put_segment longer gs)) is))
          ]

  pub appended_to : IsRecent new (appended bodies (find_segment start gs) gs)
  appended_to = subst (λ (o : Option Segment). IsRecent new (appended bodies o gs)) (sym known) appended_put

-- ## A segment is final
module _ (r : Recent) (gs : List Segment) (start : ℕ) (recent : IsRecent r gs) where
  final_put : (g final : Segment) → find_segment start gs ≡ Some g → final ≡ record g { is_final = true; accepted = false } → IsRecent r (put_segment final gs)
  final_put g final known made = by r.start refl
    where
      at : final.start ≡ start
      at = ap (λ (x : Segment). x.start) made ∙ find-start start gs g known

      same : newest_of (Some g) ≡ newest_of (Some final)
      same = ap (λ (x : Segment). newest_of (Some x)) (sym made)

      by : (o : Option ℕ) → r.start ≡ o → IsRecent r (put_segment final gs)
      by None is = recent ∙ ap (λ (o : Option ℕ). newest_in o gs) is ∙ sym (ap (λ (o : Option ℕ). newest_in o (put_segment final gs)) is)
      by (Some cached) is =
          elim (eqb_tells start cached) [
            | inl p ↦ recent ∙ ap (λ (o : Option ℕ). newest_in o gs) (is ∙ ap (λ (n : ℕ). Some n) (sym p.1)) ∙ ap newest_of known ∙ same
                ∙ sym (ap newest_of (ap (λ (n : ℕ). find_segment n (put_segment final gs)) (sym at) ∙ find-put_same final gs))
                ∙ sym (ap (λ (o : Option ℕ). newest_in o (put_segment final gs)) (is ∙ ap (λ (n : ℕ). Some n) (sym p.1)))
            | inr p ↦ recent ∙ ap (λ (o : Option ℕ). newest_in o gs) is ∙ sym (put_beside cached final gs (λ e. p.1 (sym at ∙ e))) ∙ sym (ap (λ (o : Option ℕ). newest_in o (put_segment final gs)) is)
          ]

  by_found : (o : Option Segment) → find_segment start gs ≡ o → IsRecent r (finalized o gs)
  by_found None known = recent
  by_found (Some g) known = final_put g (record g { is_final = true; accepted = false }) known refl

  pub finalized_too : IsRecent r (finalized (find_segment start gs) gs)
  finalized_too = by_found (find_segment start gs) refl
