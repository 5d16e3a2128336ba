use Rattle.std.proofs.Common.{◌+◌, refl}
use Rattle.std.proofs.lemmas.List.{take_rest}
use Rattle.report_judge.proofs.CutLaws.{cut_parts}
use Rattle.report_judge.proofs.cutting.cut_at.Goals as goal

pub returns-in-Some : goal.returns-in-Some
returns-in-Some c = cut_parts c.args.byte c.args.text.now c.in-Some.at _ _ c.in-Some.ensures refl (take_rest c.args.text.now (c.in-Some.at + 1))
