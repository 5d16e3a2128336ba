use Rattle.std.proofs.Common.{◌≡◌, ◌∙◌, ap, subst, List, [], ℕ, ◌==◌, length}
use Rattle.std.specs.Prelude.{◌≢◌}
use Rattle.play_standby.specs.Actives.{ActiveView}
use Rattle.writer_calls.proofs.TaskBegins.{not_empty}
use Rattle.play_standby.proofs.active.Active.sync.Goals as goal

pub log_pending-requires-clause-some : goal.log_pending-requires-clause-some
log_pending-requires-clause-some g c =
    let bodies : List (List ℕ) = c.self.inside.pending.bodies in
    let empty : c.is_empty.result ≡ (length bodies == 0) = c.is_empty.ensures ∙ ap (λ (l : List (List ℕ)). length l == 0) c.bodies.ensures in
    subst (λ (v : ActiveView). v.bodies ≢ []) c.self.view_is (not_empty bodies c.is_empty.result empty c.if-is_empty.false)
