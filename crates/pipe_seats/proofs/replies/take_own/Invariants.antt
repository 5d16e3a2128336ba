use Rattle.journal_session.specs.Reader.{to_come}
use Rattle.pipe_seats.specs.Calls.{PassesStale}
use Rattle.pipe_seats.proofs.replies.take_own.Given as goal

-- so far replies to other calls were passed over
abbrev pub invariant-loop : goal.invariant-loop
invariant-loop g l =
    PassesStale l.life l.call (to_come l.initial.reader (g.S.Source.left l.initial.source)) (to_come l.reader (g.S.Source.left l.source))
