use Rattle.std.proofs.Common.{ℕ, List, ◌≡◌, ◌++◌, drop}
use Rattle.play_report.specs.Text.{actors_text}
use Rattle.play_report.proofs.report.put_actors.Given as goal

-- the text of the actors so far was given, and those to come follow
abbrev pub invariant-loop-end : goal.invariant-loop-end
invariant-loop-end g l = (text : List ℕ) × g.T.Taker.adds l.fn.out l.out text × (text ++ actors_text (drop l.end-index l.ends) l.rest ≡ actors_text l.ends l.records)
