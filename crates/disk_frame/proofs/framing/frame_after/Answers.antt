use Rattle.std.proofs.Common.{ℕ, List, [], subst, ltb, length, ap, sym, ◌∙◌, ◌≡◌, ◌≤◌, false, arith}
use Rattle.std.specs.Prelude.{◌≢◌}
use Rattle.std.specs.List.{list_any, AllByRecursion}
use Rattle.journal_core.specs.Limits.{max_body}
use Rattle.disk_frame.proofs.RuleLaws.{within_limits}
use Rattle.disk_frame.proofs.framing.frame_after.Goals as goal

pub returns-in-Ok-clause-good : goal.returns-in-Ok-clause-good
returns-in-Ok-clause-good c =
    let short : list_any (λ body. ltb max_body (length body)) c.args.batch.now.bodies ≡ false =
    ap (λ (x : List (List ℕ)). list_any (λ body. ltb max_body (length body)) x) (sym c.bodies.ensures.bodies) ∙ sym c.any_longer.ensures
    ∙ c.if-any_longer.false in
    let most : length c.args.batch.now.bodies ≤ 16384 = omega (arith, c.if-len-gt-MAX_SEGMENT.false, c.len.ensures, ap length c.bodies-2.ensures.bodies) in
    within_limits c.args.batch.now (λ e. c.bodies.ensures.some (c.bodies.ensures.bodies ∙ e))
    (subst (AllByRecursion (λ body. body ≢ [])) (c.as_slice.ensures ∙ c.bodies-3.ensures.bodies) c.in-Ok.ensures.some) c.requires short most
