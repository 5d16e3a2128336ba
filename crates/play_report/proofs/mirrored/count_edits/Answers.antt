use Rattle.std.proofs.Common.{◌≡◌, ◌<◌, ◌+◌, ◌-◌, ℕ, List, length, take, get_or, sum_by, sym, ap, ◌∙◌, arith}
use Rattle.std.proofs.lemmas.List.Sums.{sum_by_more}
use Rattle.journal_core.specs.declared.segment_line.SegmentLine.{SegmentLine}
use Rattle.play_report.proofs.mirrored.count_edits.Goals as goal

abbrev edits_at : SegmentLine → ℕ
edits_at x = x.end + 1 - x.start

one_more : (lines : List SegmentLine) (i : ℕ) (d : SegmentLine) (sum more : ℕ) → i < length lines → sum ≡ sum_by edits_at (take i lines) → more ≡ edits_at (get_or lines i d)
    → sum + more ≡ sum_by edits_at (take (i + 1) lines)
one_more lines i d sum more lt is next =
    ap (λ (n : ℕ). n + more) is ∙ ap (λ (n : ℕ). sum_by edits_at (take i lines) + n) next ∙ sym (sum_by_more edits_at lines i d lt)

pub overflow_add-sum : goal.overflow_add-sum
overflow_add-sum c = let i = c.loop-line.invariant in omega (arith, i.small, i.few, c.loop-line-test.true, c.edits_of-sum.ensures.small)

pub loop-line-preserved : goal.loop-line-preserved
loop-line-preserved c =
    let i = c.loop-line.invariant in
    record {
      so_far = one_more c.args.lines.now c.loop-line.line-index _ c.loop-line.sum c.edits_of-sum.result c.loop-line-test.true i.so_far c.edits_of-sum.ensures.count;
      small = omega (arith, i.small, c.edits_of-sum.ensures.small);
      few = i.few;
    }
