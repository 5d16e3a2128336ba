-- Where lists break a part of agreement, and how that is told.
use Rattle.std.specs.Prelude.{ℕ, ◌≡◌, ◌+◌, ◌-◌, ◌^◌, ◌<◌, List, [], ◌∷◌, ◌++◌, take, drop, length, min, sum_by, slice_get, Option, Some, None, codes, decimal}
use Rattle.journal_history.specs.declared.history_line.HistoryLine.{HistoryLine}
use Rattle.journal_history.specs.declared.record.Record.{Record}
use Rattle.journal_history.specs.Cell.{fresh_cell, IsLocalRun}
use Rattle.mesh.specs.declared.whole.Mesh.{Mesh}
use Rattle.mesh.specs.Agree.{operator_of, history_at, record_of}
use Rattle.mesh.specs.Makers.{IsOperators, IsOfChores}
use Rattle.mesh.specs.Matches.{AreWithin}
use Rattle.mesh_judge.specs.declared.part.Part.{Part}
use Rattle.mesh_judge.specs.declared.part.Part.TheVariants as part
use Rattle.mesh_judge.specs.Fronts.{KeepsUpTo}
use Rattle.mesh_judge.specs.Plans.{AreCalled}
use Rattle.mesh_judge.specs.declared.matching.Unlike.TheVariants as unlike
use Rattle.mesh_judge.specs.Matching.{IsUnlike}
use Rattle.ns_tree.specs.declared.end.LastSpace.{LastSpace}
use Rattle.ns_tree.specs.declared.end.End.{End}
use Rattle.play_report.specs.Text.{caller_name}
use Rattle.report_judge.specs.declared.answer.Lists.{Lists}
use Rattle.report_judge.specs.declared.judgement.Finding.{Finding}
use Rattle.report_judge.specs.declared.place.ListOf.{ListOf}
use Rattle.report_judge.specs.declared.place.ListOf.TheVariants as list
use Rattle.report_judge.specs.declared.place.Place.{Place}
use Rattle.report_judge.specs.declared.fronts.Caller.{Caller}
use Rattle.report_judge.specs.declared.fronts.Caller.TheVariants as caller

-- ## Where a part is broken
-- they are an operator's, or calls of some chores to so many nodes
abbrev pub AreOf : Caller → ℕ → List Record → Type 0
AreOf caller.Operator nodes lines = IsOperators lines
AreOf caller.Actor nodes lines = AreWithin nodes lines × IsOfChores nodes lines

-- the first line of the first node
abbrev pub IsFirstLine : ListOf → ℕ → Type 0
IsFirstLine of line = (of ≡ list.Node 0) × (line ≡ 0)

-- In this list and with this line the part is broken first. Of `Calls` it is where the first node
-- of which both don't list the same and a caller first list otherwise, and of `Marks` the first late
-- copy of no call before it. Of `Sizes`, `Nodes` and `Callers` the first line of the first node is
-- told.
abbrev pub IsBrokenAt : Part → Mesh → ListOf → ℕ → Type 0
IsBrokenAt part.Operator m (list.Node i) line = ⊥
IsBrokenAt part.Operator m (list.Caller c) line = (c ≡ operator_of m) × KeepsUpTo (AreOf caller.Operator m.nodes) (record_of m c) line
IsBrokenAt part.Histories m (list.Node i) line = ((j : ℕ) → j < i → IsLocalRun fresh_cell (history_at m j)) × KeepsUpTo (IsLocalRun fresh_cell) (history_at m i) line
IsBrokenAt part.Histories m (list.Caller c) line = ⊥
IsBrokenAt part.Rounds m (list.Node i) line = ⊥
IsBrokenAt part.Rounds m (list.Caller c) line = ((d : ℕ) → d < c → AreOf caller.Actor m.nodes (record_of m d)) × KeepsUpTo (AreOf caller.Actor m.nodes) (record_of m c) line
IsBrokenAt part.Marks m (list.Node i) line = ⊥
IsBrokenAt part.Marks m (list.Caller c) line = (c < operator_of m) × ((d : ℕ) → d < c → AreCalled [] (record_of m d)) × KeepsUpTo (AreCalled []) (record_of m c) line
IsBrokenAt part.Sizes m of line = IsFirstLine of line
IsBrokenAt part.Nodes m of line = IsFirstLine of line
IsBrokenAt part.Callers m of line = IsFirstLine of line
IsBrokenAt part.Calls m (list.Node i) line = IsUnlike m (unlike.AtNode i line)
IsBrokenAt part.Calls m (list.Caller c) line = IsUnlike m (unlike.AtCaller c line)

-- ## How it is told
abbrev pub saturated : ℕ → ℕ
saturated n = min n (2 ^ 64 - 1)

-- how many lines a report has of these histories, of what an actor holds, and of these records
abbrev pub node_lines : List (List HistoryLine) → ℕ
node_lines histories = sum_by (λ h. length h + 1) histories

abbrev pub last_lines : Option LastSpace → ℕ
last_lines (Some last) = length last.rows + 1
last_lines None = 0

abbrev pub space_lines : Option End → ℕ
space_lines (Some end) = last_lines end.last
space_lines None = 0

unfoldable pub caller_lines : List End → List (List Record) → ℕ
caller_lines ends [] = 0
caller_lines ends (r ∷ rs) = (length r + space_lines (slice_get ends 0) + 1) + caller_lines (drop 1 ends) rs

-- how many lines of a report stand above the lines of a list
abbrev pub lines_above : Lists → ListOf → ℕ
lines_above lists (list.Node i) = node_lines (take i lists.mesh.histories) + 2
lines_above lists (list.Caller c) = node_lines lists.mesh.histories + caller_lines lists.ends (take c lists.mesh.records) + 2

-- the words that a report has above a list
abbrev pub list_words : Lists → ListOf → List ℕ
list_words lists (list.Node i) = codes "node " ++ decimal (saturated (i + 1))
list_words lists (list.Caller c) = codes "actor " ++ caller_name lists.ends c

-- what is told is the place, by the words of its list and by its line in the report
pub record TellsPlace (lists : Lists) (found : Finding) : Type 0 where
  pub place : Place
  pub broken : IsBrokenAt found.part lists.mesh place.list place.line
  pub list : found.list ≡ list_words lists place.list
  pub line : found.line ≡ saturated (lines_above lists place.list + place.line + 1)
