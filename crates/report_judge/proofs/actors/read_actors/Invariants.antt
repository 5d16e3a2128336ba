use Rattle.std.proofs.Common.{◌≡◌, drop}
use Rattle.report_judge.specs.Pieces.{pieces}
use Rattle.report_judge.specs.Reading.{actors_in}
use Rattle.report_judge.proofs.actors.read_actors.Given as goal

-- the actors so far, and those to come
abbrev pub invariant-loop-index : goal.invariant-loop-index
invariant-loop-index l = actors_in l.nodes (drop l.index l.names) l.callers (pieces l.rest) ≡ actors_in l.nodes l.names l.fn.callers (pieces l.text)
