use Rattle.std.proofs.Common.{take}
use Rattle.journal_text.specs.Texts.{lines_text}
use Rattle.play_report.proofs.replies.put_lines.Given as goal

-- those so far were given
abbrev pub invariant-loop-line : goal.invariant-loop-line
invariant-loop-line g l = g.T.Taker.adds l.fn.out l.out (lines_text (take l.line-index l.lines))
