-- The lines of a record that reached a node, by place.
use Rattle.std.specs.Prelude.{ℕ, ◌+◌, List, [], ◌∷◌, Option, Some, None, if◌then◌else◌}
use Rattle.journal_history.specs.declared.record.Record.{Record}
use Rattle.journal_history.specs.declared.record.Record.TheVariants.{Call, Late, Operator, Outcome}
use Rattle.journal_history.specs.declared.record.Told.TheVariants as told
use Rattle.mesh.specs.Matches.{reaches}
use Rattle.mesh.specs.Order.{is_muted}
use Rattle.mesh_judge.specs.declared.reached.Reach.{Reach}

-- the node that a line reached
abbrev pub node_reached : Record → Option ℕ
node_reached (Call node r told.Dropped) = None
node_reached (Call node r t) = Some node
node_reached (Late node r) = Some node
node_reached (Operator node ask done) = Some node
node_reached (Outcome text) = None

-- the lines that reached the node, the first of them all at this place
unfoldable pub places : ℕ → ℕ → List Record → List Reach
places node place [] = []
places node place (r ∷ rs) = if reaches node r then record { place = place; is_muted = is_muted (Some r) } ∷ places node (place + 1) rs else places node (place + 1) rs
