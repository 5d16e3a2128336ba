use Rattle.std.proofs.Common.{take, sym, subst, Contains, inl, inr, ◌⊎◌, ◌≡◌}
use Rattle.std.proofs.lemmas.List.{take_all}
use Rattle.std.proofs.lemmas.List.Elements.{Contains-push_cases}
use Rattle.mesh.specs.Marks.{AreCopied}
use Rattle.mesh_judge.specs.Marking.{LineIsCopied}
use Rattle.mesh_judge.proofs.Deciding.{no, yes, fails, holds}
use Rattle.mesh_judge.proofs.MarkLaws.{one_line, line_copied, copied_ends}
use Rattle.mesh_judge.proofs.marking.are_copied.Goals as goal

pub returns-then-not-is_copied : goal.returns-then-not-is_copied
returns-then-not-is_copied c nodes plan known =
    no (AreCopied plan c.args.lines.now)
    (λ all. fails (LineIsCopied plan c.args.lines.now c.line-item.result) c.in_ok-is_copied.is_copied c.if-not-is_copied.true
    (c.in_ok-is_copied.ensures nodes plan c.args.lines.now known) (line_copied plan c.args.lines.now c.line-item.result all))

pub loop-line-preserved : goal.loop-line-preserved
loop-line-preserved c nodes plan known r has =
    by (Contains-push_cases (take c.loop-line.line-index c.args.lines.now) c.line-item.result r
    (subst (λ rs. Contains rs r) (one_line c.loop-line.line-index c.args.lines.now c.line-item.result c.loop-line-test.true c.line-item.is) has))
  where
    by : Contains (take c.loop-line.line-index c.args.lines.now) r ⊎ (c.line-item.result ≡ r) → LineIsCopied plan c.args.lines.now r
    by (inl g) = c.loop-line.invariant nodes plan known r g
    by (inr e) = subst (λ x. LineIsCopied plan c.args.lines.now x) e
        (holds (LineIsCopied plan c.args.lines.now c.line-item.result) c.in_ok-is_copied.is_copied c.if-not-is_copied.false (c.in_ok-is_copied.ensures nodes plan c.args.lines.now known))

pub returns : goal.returns
returns c nodes plan known =
    yes (AreCopied plan c.args.lines.now) (copied_ends plan c.args.lines.now
    (λ r has. c.loop-line.invariant nodes plan known r (subst (λ rs. Contains rs r) (sym (take_all c.loop-line.line-index c.args.lines.now c.loop-line-test.false)) has)))
