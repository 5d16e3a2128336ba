use Rattle.play_script.proofs.LineLaws.{cut_first, cut_none}
use Rattle.play_script.proofs.lines.split_line.Goals as goal

pub returns-in-Some-clause-first : goal.returns-in-Some-clause-first
returns-in-Some-clause-first c = cut_first 10 c.args.text.now c.in-Some.at c.in-Some.ensures.0.high c.in-Some.ensures.0.before

pub returns-in-None-clause-none : goal.returns-in-None-clause-none
returns-in-None-clause-none c = cut_none 10 c.args.text.now c.in-None.ensures
