use Rattle.std.proofs.Common.{take}
use Rattle.play_report.specs.Text.{rows_text}
use Rattle.play_report.proofs.rows.put_rows.Given as goal

-- those so far were given
abbrev pub invariant-loop-row : goal.invariant-loop-row
invariant-loop-row g l = g.T.Taker.adds l.fn.out l.out (rows_text (take l.row-index l.rows))
