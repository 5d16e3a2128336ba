-- A worked session, computed by the check.
use Rattle.std.specs.Prelude.{ℕ, List, [], ◌∷◌, ◌++◌, codes}
use Rattle.journal_core.specs.declared.node_state.NodeState.{NodeState}
use Rattle.journal_core.specs.declared.request.Request.TheVariants as request
use Rattle.journal_core.specs.Examples.{by, state_after}
use Rattle.journal_core.specs.Step.{fresh_state}
use Rattle.journal_session.specs.Lines.{lines_text}

-- an epoch is taken and a segment begun
abbrev pub two_lines : List (List ℕ)
two_lines = codes "new 1" ∷ codes "start 1 1 0 1" ∷ []

-- an epoch is taken and a segment begun, in a text whose last line has no LF
abbrev pub two_lines_open : List ℕ
two_lines_open = codes "new 1" ++ 10 ∷ codes "start 1 1 0 1"

abbrev pub two_replies : List ℕ
two_replies = lines_text (codes "new none" ∷ codes "ok" ∷ [])

abbrev pub after_two : NodeState
after_two = state_after fresh_state (request.NewEpoch 1 ∷ request.Start (by 1 1 0) 1 ∷ [])
