use Rattle.std.proofs.Common.{◌≡◌}
use Rattle.play_threads.proofs.gate.call.Given as goal

-- the call that was answered
abbrev pub ghosts-note : goal.ghosts-note
ghosts-note g a = record { is = λ x. x ≡ (a.ask.now, a.answer.now) }
