-- Worked examples: what a standby begins with, and where its tail ends.
use Rattle.std.specs.Prelude.{ℕ, List, [], ◌∷◌, Option, Some}
use Rattle.journal_core.specs.Examples.{by, state_after}
use Rattle.journal_core.specs.declared.node_state.NodeState.{NodeState}
use Rattle.journal_core.specs.declared.request.Request.TheVariants as request
use Rattle.writer_calls.specs.Examples.{written_on}
use Rattle.ns_edits.specs.Replay.{Image}
use Rattle.ns_tree.specs.Space.{empty_space}
use Rattle.play_standby.specs.Standbys.{StandbyView}

-- empty namespaces at these txids
abbrev pub image_at : ℕ → Image
image_at txid = record { space = empty_space; txid = txid }

abbrev pub standby_at : ℕ → StandbyView
standby_at position = record { space = empty_space; position = position }

abbrev pub two_images : List Image
two_images = image_at 9 ∷ image_at 5 ∷ []

-- one node, whose log begins at 4 since what ends below was purged
abbrev pub trimmed : List (Option NodeState)
trimmed = Some (state_after written_on (request.Purge (by 1 12 5) 4 ∷ [])) ∷ []
