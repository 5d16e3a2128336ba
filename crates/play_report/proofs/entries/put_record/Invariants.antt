use Rattle.std.proofs.Common.{take}
use Rattle.play_report.specs.Text.{record_text}
use Rattle.play_report.proofs.entries.put_record.Given as goal

-- those so far were given
abbrev pub invariant-loop-line : goal.invariant-loop-line
invariant-loop-line g l = g.T.Taker.adds l.fn.out l.out (record_text (take l.line-index l.lines))
