use Rattle.std.proofs.Common.{arith, ◌≡◌, ◌<◌, ap, ◌∙◌, List, length, get_or}
use Rattle.journal_core.specs.declared.segment.Segment.{Segment}
use Rattle.journal_core.specs.Answers.{last_of}
use Rattle.journal_core.proofs.ServingLaws.{last_at}
use Rattle.journal_step.proofs.serving.last_below.Goals as goal

pub loop-segment-preserved : goal.loop-segment-preserved
loop-segment-preserved c =
    let s = c.args.state.now in
    let i = c.loop-segment.segment-index in
    let same = c.as_slice-segment-items.ensures.segments in
    let there : c.segment-item.result ≡ get_or s.segments i c.segment-item.result = c.segment-item.is ∙ ap (λ (gs : List Segment). get_or gs i c.segment-item.result) same in
    let e = ap (λ (g : Segment). last_of s c.args.from g) there in
    let l : i < length s.segments = omega (arith, ap length same) in
    omega (arith, last_at s c.args.from s.segments i c.segment-item.result l, e, c.last_of.ensures, c.max-last.ensures, c.loop-segment.invariant)
