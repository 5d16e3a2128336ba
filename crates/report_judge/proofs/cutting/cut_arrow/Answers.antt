use Rattle.std.proofs.Common.{◌≤◌, ◌+◌, length, sym, ap, ◌∙◌, arith}
use Rattle.std.specs.Str.{bytes_eq}
use Rattle.std.proofs.lemmas.Bool.Decides.{nat_tests}
use Rattle.report_judge.proofs.CutLaws.{arrow_unlike}
use Rattle.report_judge.proofs.cutting.cut_arrow.Goals as goal

pub returns-else-eq : goal.returns-else-eq
returns-else-eq c =
    let l : 2 ≤ c.in_ok-at.at = grind (arith, nat_tests, c.if-at-lt2.false) in
    let m : c.in_ok-at.at + 2 ≤ length c.args.line.now = grind (arith, nat_tests, c.if-line-at.false) in
    arrow_unlike c.args.line.now c.split_at-2.result.0.now c.split_at.result.1.now c.in_ok-at.at c.in_ok-at.ensures l m c.split_at.ensures.back c.split_at-2.ensures.front
    (ap (bytes_eq c.split_at-2.result.0.now) (sym c.as_slice.ensures) ∙ sym c.if-eq.ensures)
