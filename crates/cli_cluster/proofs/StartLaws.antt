-- A start is counted.
use Rattle.std.proofs.Common.{ℕ, ◌≡◌, ◌+◌, ◌≤◌, ◌^◌, List, Option, Some, refl, sym, subst}
use Rattle.std.specs.Prelude.{codes, Result, Ok, Err, OnOk}
use Rattle.base_disk.specs.View.{View}
use Rattle.base_disk.specs.declared.disk.DiskFail.{DiskFail}
use Rattle.base_files.specs.Puts.{temporary, IsPut}
use Rattle.base_files.specs.Records.{number_bytes, IsNumber}
use Rattle.cli_cluster.specs.Starts.{HoldsStarts, CountsStart}

is_put : (file : Option (List ℕ)) (n : ℕ) → n ≤ 2 ^ 62 → file ≡ Some (number_bytes n) → IsNumber file n
is_put file n small is = subst (λ (f : Option (List ℕ)). IsNumber f n) (sym is) (small, refl)

pub start_put : {T : Type 0} (result : Result T DiskFail) (n : ℕ) (old new : View) → n ≤ 2 ^ 62 → IsPut (codes "starts") (temporary (codes "starts")) (number_bytes n) result old new
    → OnOk result (HoldsStarts n new)
start_put (Ok done) n old new small h = record {
  now = is_put (new.seen (codes "starts")) n small h.done.seen.here;
  lasting = λ c l. is_put (c (codes "starts")) n small (h.done.crash c l).2.here;
}
start_put (Err fail) n old new small h = tt

pub ruleset puts = (start_put)

pub start_counted : {T : Type 0} (result : Result T DiskFail) (n life : ℕ) (old new : View) → IsNumber (old.seen (codes "starts")) n → life ≡ n + 1 → OnOk result (HoldsStarts life new)
    → OnOk result (CountsStart life old new)
start_counted (Ok done) n life old new held next h = record { earlier = n; held = held; next = next; holds = h }
start_counted (Err fail) n life old new held next h = tt

pub ruleset counts = (start_counted)
