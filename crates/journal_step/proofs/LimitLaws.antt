-- What a request that passes no limit tells.
use Rattle.std.proofs.Common.{ℕ, ◌≡◌, ◌≤◌, Option, Some, None, arith}
use Rattle.std.proofs.lemmas.Bool.Decides.{nat_tests}
use Rattle.journal_core.specs.declared.request.Request.{Request}
use Rattle.journal_core.specs.declared.request.Request.TheVariants.{State, NewEpoch, Start, Journal, Finalize, Prepare, Fetch, Accept, Purge, Read, Manifest}
use Rattle.journal_core.specs.Views.{HeadView, BatchView, last_txid}
use Rattle.journal_core.specs.Limits.{max_number, limit_of, head_of}

abbrev pub IsHeadWithin : Option HeadView → Type 0
IsHeadWithin None = Unit {0}
IsHeadWithin (Some h) = (h.epoch ≤ max_number) × (h.committed ≤ max_number)

pub epoch_fits : (epoch : ℕ) → limit_of (NewEpoch epoch) ≡ None → epoch ≤ max_number
unfolding limit_of
epoch_fits epoch none = grind (arith, nat_tests)

pub start_fits : (h : HeadView) (start : ℕ) → limit_of (Start h start) ≡ None → (start ≤ max_number) × (h.epoch ≤ max_number) × (h.committed ≤ max_number)
unfolding limit_of
start_fits h start none = grind (arith, nat_tests)

pub journal_fits : (h : HeadView) (start : ℕ) (b : BatchView) → limit_of (Journal h start b) ≡ None
    → (start ≤ max_number) × (last_txid b ≤ max_number) × (h.epoch ≤ max_number) × (h.committed ≤ max_number)
unfolding limit_of
journal_fits h start b none = grind (arith, nat_tests)

pub finalize_fits : (h : HeadView) (start end : ℕ) → limit_of (Finalize h start end) ≡ None
    → (start ≤ max_number) × (end ≤ max_number) × (h.epoch ≤ max_number) × (h.committed ≤ max_number)
unfolding limit_of
finalize_fits h start end none = grind (arith, nat_tests)

pub accept_fits : (h : HeadView) (b : BatchView) → limit_of (Accept h b) ≡ None
    → (b.first ≤ max_number) × (last_txid b ≤ max_number) × (h.epoch ≤ max_number) × (h.committed ≤ max_number)
unfolding limit_of
accept_fits h b none = grind (arith, nat_tests)

prepare_fits : (h : HeadView) (start : ℕ) → limit_of (Prepare h start) ≡ None → (h.epoch ≤ max_number) × (h.committed ≤ max_number)
unfolding limit_of
prepare_fits h start none = grind (arith, nat_tests)

fetch_fits : (h : HeadView) (start from : ℕ) → limit_of (Fetch h start from) ≡ None → (h.epoch ≤ max_number) × (h.committed ≤ max_number)
unfolding limit_of
fetch_fits h start from none = grind (arith, nat_tests)

purge_fits : (h : HeadView) (least : ℕ) → limit_of (Purge h least) ≡ None → (h.epoch ≤ max_number) × (h.committed ≤ max_number)
unfolding limit_of
purge_fits h least none = grind (arith, nat_tests)

pub head_fits : (r : Request) → limit_of r ≡ None → IsHeadWithin (head_of r)
head_fits State none = tt
head_fits (NewEpoch epoch) none = tt
head_fits (Start h start) none = let f = start_fits h start none in (f.1, f.2)
head_fits (Journal h start b) none = let f = journal_fits h start b none in (f.2, f.3)
head_fits (Finalize h start end) none = let f = finalize_fits h start end none in (f.2, f.3)
head_fits (Prepare h start) none = prepare_fits h start none
head_fits (Fetch h start from) none = fetch_fits h start from none
head_fits (Accept h b) none = let f = accept_fits h b none in (f.2, f.3)
head_fits (Purge h least) none = purge_fits h least none
head_fits (Read from) none = tt
head_fits Manifest none = tt

pub ruleset within_limits = (accept_fits, journal_fits, start_fits, finalize_fits)
