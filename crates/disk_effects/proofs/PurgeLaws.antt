-- Laws of the loop of a purge.
use Rattle.std.proofs.Common.{ℕ, ◌≡◌, ◌≤◌, ◌<◌, ◌+◌, List, [], ◌∷◌, length, drop, get_or, map, filter, Bool, true, false, cond, ap, ◌∙◌}
use Rattle.std.proofs.lemmas.List.{drop_more, drop_all}
use Rattle.disk_segment.specs.declared.segment_row.SegmentRow.{SegmentRow}
use Rattle.journal_step.specs.declared.durable_effect.DurableEffect.{DurableEffect}
use Rattle.journal_step.specs.declared.durable_effect.DurableEffect.TheVariants.{Remove}

abbrev pub removes : (SegmentRow → Bool) → List SegmentRow → List DurableEffect
removes p rows = map (λ row. Remove row.info) (filter p rows)

pub removes_one : (p : SegmentRow → Bool) (rows : List SegmentRow) (i : ℕ) (d : SegmentRow) → i < length rows → p (get_or rows i d) ≡ true
    → removes p (drop i rows) ≡ Remove (get_or rows i d).info ∷ removes p (drop (i + 1) rows)
removes_one p rows i d l h =
    ap (removes p) (drop_more rows i d l)
    ∙ ap (λ b. map (λ row. Remove row.info) (cond b (get_or rows i d ∷ filter p (drop (i + 1) rows)) (filter p (drop (i + 1) rows)))) h

pub removes_other : (p : SegmentRow → Bool) (rows : List SegmentRow) (i : ℕ) (d : SegmentRow) → i < length rows → p (get_or rows i d) ≡ false
    → removes p (drop i rows) ≡ removes p (drop (i + 1) rows)
removes_other p rows i d l h =
    ap (removes p) (drop_more rows i d l)
    ∙ ap (λ b. map (λ row. Remove row.info) (cond b (get_or rows i d ∷ filter p (drop (i + 1) rows)) (filter p (drop (i + 1) rows)))) h

pub removes_none : (p : SegmentRow → Bool) (rows : List SegmentRow) (i : ℕ) → length rows ≤ i → removes p (drop i rows) ≡ []
removes_none p rows i l = ap (removes p) (drop_all i rows l)

pub ruleset purged = (removes_one, removes_other, removes_none)
