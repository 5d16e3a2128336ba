use Rattle.std.proofs.Common.{◌≡◌, ◌≤◌, vec_capacity, List, length, map, false}
use Rattle.std.specs.Prelude.{Ok}
use Rattle.std.specs.List.{All}
use Rattle.journal_core.specs.Peers.{FitsHeard}
use Rattle.play_pipes.specs.Calls.{Answer}
use Rattle.play_pipes.specs.Desks.{HasHeard}
use Rattle.play_pipes.proofs.desk.hear_all.Given as goal

abbrev pub invariant-loop-k : goal.invariant-loop-k
invariant-loop-k g l =
    (answers : List Answer) × (length answers ≡ l.k) × HasHeard l.asked.nodes.now l.asked.request.now l.asked.count answers l.initial.ends.items l.ends.items
    × (l.lacking ≡ false → answers ≡ map (λ h. Ok h) l.heards.items) × (length l.heards.items ≤ l.k)
    × (l.asked.count ≤ vec_capacity l.heards) × All (λ h. FitsHeard l.asked.request.now h) l.heards.items
