use Rattle.std.proofs.Common.{ℕ, ◌≡◌, ◌<◌, ◌+◌, List, length, drop, get_or, max, Option, arith, ap, subst}
use Rattle.disk_segment.specs.declared.segment_row.SegmentRow.{SegmentRow}
use Rattle.disk_effects.specs.Served.{row_last, last_row}
use Rattle.disk_effects.proofs.ServedLaws.{last_at}
use Rattle.disk_effects.proofs.serving.last_row.Goals as goal

kept : (o : Option ℕ) (k from : ℕ) (items rows : List SegmentRow) (i : ℕ) (d : SegmentRow) (last here next : ℕ) → items ≡ rows → i < length items
    → max last (last_row o k from (drop i rows)) ≡ last_row o k from rows → here ≡ row_last o k from (get_or items i d) → next ≡ max last here
    → max next (last_row o k from (drop (i + 1) rows)) ≡ last_row o k from rows
kept o k from items rows i d last here next same l h e n =
    let read : here ≡ row_last o k from (get_or rows i d) = subst (λ (xs : List SegmentRow). here ≡ row_last o k from (get_or xs i d)) same e in
    omega (arith, last_at o k from rows i d (omega (arith, ap length same)))

pub loop-row-preserved : goal.loop-row-preserved
loop-row-preserved c =
    kept _ _ _ _ _ _ _ _ _ _ c.as_slice-row-items.ensures.rows c.loop-row-test.true c.loop-row.invariant c.row_last.ensures c.max-last.ensures
