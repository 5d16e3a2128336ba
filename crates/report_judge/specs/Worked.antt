-- A worked report, and the lists in it.
use Rattle.std.specs.Prelude.{ℕ, List, [], ◌∷◌, codes}
use Rattle.journal_history.specs.declared.record.Record.TheVariants as record_
use Rattle.report_judge.specs.Callers.{bare}
use Rattle.report_judge.specs.Reading.{ListsView}

-- one node, which nobody called, and one actor, who lists a result
abbrev pub worked_report : List ℕ
worked_report = codes "nodes 1\nnode 1\nactor a\n= closed\nend\n"

-- the same with another number at the node
abbrev pub other_report : List ℕ
other_report = codes "nodes 1\nnode 2\nactor a\n= closed\nend\n"

abbrev pub worked_lists : ListsView
worked_lists = record {
  nodes = 1;
  histories = [] ∷ [];
  callers = record { ends = bare (codes "a") ∷ []; records = (record_.Outcome (codes "closed") ∷ []) ∷ [] ∷ [] };
}
