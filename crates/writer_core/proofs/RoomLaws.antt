-- What fits an open segment.
use Rattle.std.proofs.Common.{◌≡◌, ℕ, ◌+◌, ◌-◌, ◌<◌, ◌≤◌, List, length, Bool, true, false, refl, arith, Some, None, cond, nat_lt, nat_le}
use Rattle.std.specs.Prelude.{◌↔◌}
use Rattle.std.specs.List.{list_any}
use Rattle.std.proofs.lemmas.Bool.Decides.{nat_tests}
use Rattle.journal_core.specs.Limits.{max_body, max_batch, max_segment}
use Rattle.writer_core.specs.Views.{WriterView}
use Rattle.writer_core.specs.Writer.{log_limit}
use Rattle.writer_core.specs.Room.{room_of, RoomIsExact}

limit_is : (w : WriterView) (bodies : List (List ℕ)) → length bodies ≤ max_batch → list_any (λ body. nat_lt max_body (length body)) bodies ≡ false
    → log_limit w bodies ≡ cond (nat_le (w.start + 16383) (w.next + length bodies - 1)) (Some max_segment) None
unfolding log_limit
limit_is w bodies few short =
    let n : nat_lt max_batch (length bodies) ≡ false = grind (arith, nat_tests) in
    rw (short, n) refl

fits : (b : Bool) (start next count : ℕ) → 0 < count → nat_le (start + 16383) (next + count - 1) ≡ b
    → (cond b (Some max_segment) None ≡ None) ↔ (count ≤ start + 16383 - next)
fits true start next count some e = (λ no. absurd (cc no), λ h. absurd (grind (arith, nat_tests)))
fits false start next count some e = (λ no. grind (arith, nat_tests), λ h. refl)

pub room_exact : RoomIsExact
room_exact w bodies writing some few short =
    let e = limit_is w bodies few short in
    let r : room_of w ≡ w.start + 16383 - w.next = rw writing refl in
    rw (e, r) (fits (nat_le (w.start + 16383) (w.next + length bodies - 1)) w.start w.next (length bodies) some refl)
