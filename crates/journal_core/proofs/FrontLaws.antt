-- Laws of the tests before all else.
use Rattle.std.proofs.Common.{ℕ, ◌≡◌, ◌≤◌, Option, Some, None, refl, arith}
use Rattle.std.proofs.lemmas.Bool.Decides.{nat_tests}
use Rattle.journal_core.specs.declared.refusal.Refusal.{Refusal}
use Rattle.journal_core.specs.declared.request.Request.TheVariants.{Start, Journal, Accept}
use Rattle.journal_core.specs.Views.{HeadView, BatchView, last_txid}
use Rattle.journal_core.specs.Limits.{max_number, limit_of}
use Rattle.journal_core.specs.Step.{unless_limited}

-- what isn't refused passes no limit
pub limit_passed : (limit : Option ℕ) (other : Option Refusal) → unless_limited limit other ≡ None → limit ≡ None
limit_passed (Some number) other h = cc
limit_passed None other h = refl

pub start_fits : (h : HeadView) (start : ℕ) → limit_of (Start h start) ≡ None → start ≤ max_number
unfolding limit_of
start_fits h start none = grind (arith, nat_tests)

pub journal_fits : (h : HeadView) (start : ℕ) (batch : BatchView) → limit_of (Journal h start batch) ≡ None
    → (start ≤ max_number) × (last_txid batch ≤ max_number)
unfolding limit_of
journal_fits h start batch none = grind (arith, nat_tests)

pub accept_fits : (h : HeadView) (batch : BatchView) → limit_of (Accept h batch) ≡ None → last_txid batch ≤ max_number
unfolding limit_of
accept_fits h batch none = grind (arith, nat_tests)

pub ruleset within_limits = (start_fits, journal_fits, accept_fits)
