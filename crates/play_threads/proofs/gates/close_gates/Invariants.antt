use Rattle.std.proofs.Common.{◌≡◌, [], length, map, drop, get_or}
use Rattle.std.specs.List.{All}
use Rattle.std.specs.Prelude.{Some}
use Rattle.play_threads.specs.Board.{AllAt}
use Rattle.journal_history.specs.Cell.{fresh_cell, cell_after}
use Rattle.play_threads.specs.Seated.{seat_of}
use Rattle.play_threads.specs.Gates.{IsLeft}
use Rattle.play_threads.proofs.gates.close_gates.Given as goal

abbrev pub invariant-loop : goal.invariant-loop
invariant-loop g l =
    (l.gates.items ≡ drop l.counter l.initial.gates.items)
    × (l.keepers.items ≡ drop l.counter l.initial.keepers.items)
    × (l.rows.items ≡ drop l.counter l.initial.rows.items)
    × (length l.histories.items ≡ l.counter)
    × AllAt (λ i h. IsLeft (get_or (map (λ v. map (λ t. seat_of t.seat.table_id t.caller t.seat.me.0.seen) v.items) l.initial.rows.items) i []) h) l.histories.items
    × (map (λ n. g.N.Node.state n) l.nodes.items ≡ map (λ h. Some (cell_after fresh_cell h).state) l.histories.items)
    × All (λ n. g.N.Node.steady n) l.nodes.items
