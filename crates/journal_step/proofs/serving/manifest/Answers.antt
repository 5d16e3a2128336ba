use Rattle.std.proofs.Common.{arith, ap, sym, ◌∙◌, ◌++◌, List, append-nil, ◌≡◌, length}
use Rattle.std.proofs.lemmas.Grind.{common_steps}
use Rattle.journal_core.specs.declared.segment_line.SegmentLine.{SegmentLine}
use Rattle.journal_core.specs.declared.reply.Reply.{Reply}
use Rattle.journal_core.specs.declared.reply.Reply.TheVariants.{Segments}
use Rattle.journal_core.specs.Reads.{manifest_of}
use Rattle.journal_core.proofs.ServingLaws.{lines, line_none}
use Rattle.journal_step.proofs.serving.manifest.Goals as goal
use Rattle.journal_step.proofs.serving.manifest.Goals.{then-has_edit+in_ok-push, else-has_edit}

pub loop-segment-preserved : goal.loop-segment-preserved
loop-segment-preserved c =
    elim c.if-has_edit.branch [ then-has_edit+in_ok-push w ↦ grind (arith, common_steps, lines) | else-has_edit w ↦ grind (arith, common_steps, lines) ]

pub returns : goal.returns
returns c =
    let gs = c.args.state.now.segments in
    let none = line_none gs c.loop-segment.segment-index (omega (arith, ap length c.as_slice-segment-items.ensures.segments)) in
    let e : c.loop-segment.lines ≡ manifest_of gs = sym (append-nil c.loop-segment.lines) ∙ ap (λ (xs : List SegmentLine). c.loop-segment.lines ++ xs) (sym none) ∙ c.loop-segment.invariant in
    ap (λ (xs : List SegmentLine). let r : Reply = Segments xs in r) e
