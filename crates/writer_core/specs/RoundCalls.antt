-- The calls that a round still makes.
use Rattle.std.specs.Prelude.{ℕ, ◌+◌, ◌≡◌, List, [], ◌∷◌, Option, Some, None}
use Rattle.journal_core.specs.declared.heard.Heard.{Heard}
use Rattle.writer_core.specs.declared.round.Round.{Round}
use Rattle.writer_core.specs.declared.round.Round.TheVariants as round
use Rattle.writer_core.specs.declared.phase.Phase.{Phase}
use Rattle.writer_core.specs.declared.phase.Phase.TheVariants as phase
use Rattle.writer_core.specs.declared.slot.Slot.{Slot}
use Rattle.writer_core.specs.declared.slot.Slot.TheVariants.{Waiting, LeftOut, Told}
use Rattle.writer_core.specs.Views.{WriterView}
use Rattle.writer_core.specs.Rounds.{request_in}
use Rattle.writer_core.specs.Writer.{next_call, writer_heard}
use Rattle.writer_core.specs.CallsView.{CallsView}

-- the nodes that wait, counted from this one on
unfoldable pub waiting_from : ℕ → List Slot → List ℕ
waiting_from node [] = []
waiting_from node (Waiting ∷ slots) = node ∷ waiting_from (node + 1) slots
waiting_from node (LeftOut ∷ slots) = waiting_from (node + 1) slots
waiting_from node (Told heard ∷ slots) = waiting_from (node + 1) slots

abbrev pub nodes_of : Round → List Slot → List ℕ
nodes_of (round.Fetch node start end bodies) slots = node ∷ []
nodes_of r slots = waiting_from 1 slots

abbrev pub nodes_in : Phase → List Slot → Option (List ℕ)
nodes_in (phase.InRound r) slots = Some (nodes_of r slots)
nodes_in _ slots = None

abbrev pub calls_in : Phase → WriterView → Option CallsView
calls_in (phase.InRound r) w = Some (record { nodes = nodes_of r w.slots; request = request_in w r })
calls_in _ w = None

-- the nodes that the round still calls, and its request
abbrev pub round_calls : WriterView → Option CallsView
round_calls w = calls_in w.phase w

-- what `next` names of these calls: the first of them, and once it was heard, whatever was heard,
-- the others with the same request
pub record NamesInOrder (w : WriterView) (r : Round) (node : ℕ) (others : List ℕ) : Type 0 where
  pub first : next_call w ≡ Some (node, request_in w r)
  pub then : (h : Heard) (second : ℕ) (more : List ℕ) → others ≡ second ∷ more
      → round_calls (writer_heard w node h).writer ≡ Some (record { nodes = others; request = request_in w r })

abbrev pub CallsAreNamed : Type 0
CallsAreNamed =
    (w : WriterView) (r : Round) (node : ℕ) (others : List ℕ) → w.phase ≡ phase.InRound r → nodes_of r w.slots ≡ node ∷ others
    → NamesInOrder w r node others
