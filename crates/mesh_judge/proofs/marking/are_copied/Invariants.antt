use Rattle.std.proofs.Common.{ℕ, List, take, Contains}
use Rattle.journal_history.specs.declared.record.Record.{Record}
use Rattle.journal_history.specs.declared.mark.Mark.{Mark}
use Rattle.mesh_judge.specs.Marking.{KnowsCalls, LineIsCopied}
use Rattle.mesh_judge.proofs.marking.are_copied.Given as goal

abbrev pub invariant-loop-line : goal.invariant-loop-line
invariant-loop-line l =
    (nodes : ℕ) (plan : List Mark) → KnowsCalls nodes plan l.lines l.calls → (r : Record) → Contains (take l.line-index l.lines) r → LineIsCopied plan l.lines r
