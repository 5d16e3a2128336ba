-- How a mirror passes over nodes, line by line and node by node.
use Rattle.std.specs.Prelude.{◌≡◌, ℕ, List, [], ◌∷◌, map, Option, Some, None}
use Rattle.journal_core.specs.declared.peer_call.PeerCall.{PeerCall}
use Rattle.journal_core.specs.declared.segment.Segment.{Segment}
use Rattle.writer_calls.specs.declared.synced.Missing.{Missing}
use Rattle.writer_calls.specs.declared.told.NodeTold.{NodeTold}
use Rattle.writer_calls.specs.declared.told.ToldLine.{ToldLine}
use Rattle.writer_calls.specs.Told.{lines_told, nodes_told}
use Rattle.writer_calls.specs.Fetching.{MakesReads}
use Rattle.writer_calls.specs.Mirrors.{LineOutcome, lines_stopped, Takes, Passes}

-- ## Lines
-- some of these lines were taken, by reads alone
pub record LinesBegun (lines : List ToldLine) (before after : List PeerCall) (old new : List Segment) : Type 0 where
  pub made : MakesReads before after
  pub outcomes : List LineOutcome
  pub takes : Takes lines made.added outcomes old new

-- all of them were, and these are those at which the node stopped
pub record LinesTaken (lines : List ToldLine) (before after : List PeerCall) (old new : List Segment) (stopped : List Missing) : Type 0 where
  pub begun : LinesBegun lines before after old new
  pub each_line : map (λ o. o.told) begun.outcomes ≡ lines
  pub stops : stopped ≡ lines_stopped begun.outcomes

-- the line at which the node stopped, if it did
abbrev pub one_or_none : Option Missing → List Missing
one_or_none None = []
one_or_none (Some missing) = missing ∷ []

-- ## Nodes
-- these nodes were asked, and all final lines that they told were taken
pub record NodesTaken (asked : List (ℕ × NodeTold)) (before after : List PeerCall) (old new : List Segment) (stopped : List Missing) : Type 0 where
  pub passes : Passes before after old new
  pub asked_are : nodes_told passes.added ≡ asked
  pub each_line : map (λ o. o.told) passes.outcomes ≡ lines_told passes.added
  pub stops : stopped ≡ lines_stopped passes.outcomes
