-- A mesh that follows a script with names is safe, with what its actors end with.
use Rattle.std.proofs.Common.{◌≡◌, ℕ, List, reverse, length, sym, ◌∙◌, subst}
use Rattle.std.specs.Prelude.{Some}
use Rattle.ns_edits.specs.Replay.{IsReplay}
use Rattle.ns_edits.proofs.Splits.{some_is}
use Rattle.journal_history.specs.Entries.{Entry}
use Rattle.run_safety.specs.Safe.{IsOnLine}
use Rattle.run_safety.proofs.Safety.{run_safe}
use Rattle.mesh.specs.declared.whole.Mesh.{Mesh}
use Rattle.mesh.specs.Order.{epoch_order}
use Rattle.mesh.proofs.Cutting.{order_at_nodes}
use Rattle.mesh.proofs.OrderRuns.{order_runs}
use Rattle.play_model.specs.Lines.{Line}
use Rattle.ns_tree.specs.declared.end.End.{End}
use Rattle.ns_tree.specs.declared.end.LastSpace.{LastSpace}
use Rattle.mesh.specs.Agree.{ListsAgree}
use Rattle.play_laws.specs.Linear.{IsOfLine, IsLinear, IsNamed}
use Rattle.play_model.specs.Safe.{AllOn, EndsReplay}
use Rattle.play_laws.specs.Laws.{EpochOrderIsLinear, NamesAreSafe, EpochOrderIsSafe}
use Rattle.play_laws.proofs.Replays.{ends_are_replays}

ends_replay : (m : Mesh) (entries : List Entry) (lines : List Line) (ends : List End) → ListsAgree m → IsLinear m entries → IsNamed lines m ends → EndsReplay m.nodes (reverse entries) ends
ends_replay m entries lines ends lists lin named c e last there is =
    subst (λ (l : LastSpace). (log : List (List ℕ)) × AllOn (IsOnLine m.nodes (reverse entries)) 0 log × (length log ≡ l.position)
    × IsReplay log l.rows) same r.2
  where
    r : (l : LastSpace) × (e.last ≡ Some l) × ((log : List (List ℕ)) × IsOfLine m entries log × (length log ≡ l.position) × IsReplay log l.rows)
    r = ends_are_replays m entries lines ends c e lists lin named there

    same : r.0 ≡ last
    same = some_is r.0 last (sym r.1 ∙ is)

pub names_are_safe : NamesAreSafe
names_are_safe m entries lines ends lists lin named = record { run = run_safe m.nodes entries lin.run; ends_replay = ends_replay m entries lines ends lists lin named }

pub epoch_order_linear : EpochOrderIsLinear
epoch_order_linear m a = record { run = order_runs m a; at_nodes = λ i in_. order_at_nodes m i a in_ }

pub epoch_order_is_safe : EpochOrderIsSafe
epoch_order_is_safe m lines ends a named = names_are_safe m (epoch_order m) lines ends a.lists (epoch_order_linear m a) named
