use Rattle.std.proofs.Common.{take}
use Rattle.journal_text.specs.Texts.{bodies_text}
use Rattle.play_report.proofs.pieces.put_bodies.Given as goal

-- those so far were given
abbrev pub invariant-loop-body : goal.invariant-loop-body
invariant-loop-body g l = g.T.Taker.adds l.fn.out l.out (bodies_text (take l.body-index l.bodies))
