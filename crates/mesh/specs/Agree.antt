-- When the lists of all nodes and of all callers are of one play.
use Rattle.std.specs.Prelude.{◌≡◌, ℕ, ◌+◌, ◌<◌, ◌≤◌, List, [], length, slice_index_or}
use Rattle.journal_history.specs.declared.history_line.HistoryLine.{HistoryLine}
use Rattle.journal_history.specs.declared.record.Record.{Record}
use Rattle.journal_history.specs.declared.mark.Mark.{Mark}
use Rattle.journal_history.specs.Cell.{fresh_cell, IsLocalRun}
use Rattle.mesh.specs.declared.whole.Mesh.{Mesh}
use Rattle.mesh.specs.Marks.{IsMarked, AreCopied}
use Rattle.mesh.specs.Makers.{IsOfChores, IsOperators}
use Rattle.mesh.specs.Matches.{reached, lines_of, AreSame, AreWithin, CallersWithin}

-- Actors are the callers from 0 on, in order of declaration; the operator comes after the last.
abbrev pub operator_of : Mesh → ℕ
operator_of m = length m.plan

-- what node `index + 1` lists, and what a caller lists
abbrev pub history_at : Mesh → ℕ → List HistoryLine
history_at m index = slice_index_or m.histories index []

abbrev pub record_of : Mesh → ℕ → List Record
record_of m caller = slice_index_or m.records caller []

abbrev pub plan_of : Mesh → ℕ → List Mark
plan_of m actor = slice_index_or m.plan actor []

-- The lists of all nodes and of all callers fit one another, whatever made the calls.
pub record ListsAgree (m : Mesh) : Type 0 where
  -- each history is what one node answers from its beginning on, with its armings
  pub local : (i : ℕ) → i < m.nodes → IsLocalRun fresh_cell (history_at m i)
  -- the operator operates
  pub operated : IsOperators (record_of m (operator_of m))
  -- of each node and each caller, both list the same, each once and in order
  pub same : (i c : ℕ) → i < m.nodes → c ≤ operator_of m → AreSame (reached (i + 1) (record_of m c)) (lines_of c (history_at m i))
  -- the calls are dropped, muted and copied as the plan marks them
  pub marked : (c : ℕ) → c < operator_of m → IsMarked (plan_of m c) [] (record_of m c)
  pub copied : (c : ℕ) → c < operator_of m → AreCopied (plan_of m c) (record_of m c)
  -- they speak of the nodes, the actors and the operator alone
  pub callers : (i : ℕ) → i < m.nodes → CallersWithin (operator_of m) (history_at m i)
  pub within : (c : ℕ) → c ≤ operator_of m → AreWithin m.nodes (record_of m c)

pub record Agrees (m : Mesh) : Type 0 where
  pub lists : ListsAgree m
  -- each actor's calls are those of some tasks and tails, by the answers that it lists
  pub made : (c : ℕ) → c < operator_of m → IsOfChores m.nodes (record_of m c)
  -- there is a history for each node and a record for each actor and the operator
  pub histories : length m.histories ≡ m.nodes
  pub records : length m.records ≡ operator_of m + 1
