use Rattle.std.proofs.Common.{List, ℕ, subst, take}
use Rattle.std.specs.Prelude.{map, string_bytes}
use Rattle.disk_opening.specs.Completing.{AddsStart}
use Rattle.disk_opening.proofs.SyncLemmas.{next_done}
use Rattle.disk_opening.proofs.StartLemmas.{one_more}
use Rattle.disk_opening.proofs.starts.starts_in.Goals as goal

pub loop-name-preserved : goal.loop-name-preserved
loop-name-preserved c =
    one_more (map string_bytes (take c.loop-name.name-index c.args.names.now)) _ (string_bytes c.name-item.result) c.loop-name.starts.items c.push_start.new.starts.items
    (next_done string_bytes c.args.names.now c.loop-name.name-index c.name-item.result c.loop-name-test.true c.name-item.is) c.loop-name.invariant
    (subst (λ (n : List ℕ). AddsStart n c.loop-name.starts.items c.push_start.new.starts.items) c.as_bytes.ensures.value c.in_ok-push_start.ensures)
