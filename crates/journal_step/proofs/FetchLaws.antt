-- What a fetch that isn't refused asks for.
use Rattle.std.proofs.Common.{ℕ, ◌≡◌, ◌≤◌, ◌<◌, ◌-◌, length, Some, None, true, arith}
use Rattle.std.proofs.lemmas.Bool.Decides.{nat_tests}
use Rattle.journal_core.specs.declared.segment.Segment.{Segment}
use Rattle.journal_core.specs.Segments.{has_edit, end_of}
use Rattle.journal_core.specs.Step.{fetch_refused}
use Rattle.journal_core.proofs.ServingLaws.{edit_some}

holds : (g : Segment) (from : ℕ) → fetch_refused from (Some g) ≡ None → has_edit g ≡ true
holds g from none = grind (arith, nat_tests)

low : (g : Segment) (from : ℕ) → fetch_refused from (Some g) ≡ None → g.start ≤ from
low g from none = grind (arith, nat_tests)

high : (g : Segment) (from : ℕ) → fetch_refused from (Some g) ≡ None → from ≤ end_of g
high g from none = grind (arith, nat_tests)

-- the txid lies in the segment
pub fetch_range : (g : Segment) (from : ℕ) → fetch_refused from (Some g) ≡ None → (g.start ≤ from) × (from - g.start < length g.bodies)
fetch_range g from none =
    let some : 0 < length g.bodies = edit_some g (holds g from none) in
    let most = high g from none in
    let least = low g from none in
    (least, omega arith)

pub ruleset ranges = (fetch_range)
