-- The loop that scans the windows of a segment's file.
use Rattle.std.proofs.Common.{◌≡◌, ◌≢◌, ◌↔◌, ℕ, ◌+◌, ◌-◌, ◌*◌, ◌<◌, ◌≤◌, ◌==◌, Bool, true, false, List, [], length, drop, refl, ap, ◌∙◌, arith}
use Rattle.std.proofs.lemmas.Bool.Decides.{nat_tests}
use Rattle.base_disk.specs.Files.{Files}
use Rattle.std.specs.Prelude.{Some, Result, IsOk}
use Rattle.base_disk.specs.View.{View, IsSound}
use Rattle.base_disk.specs.Calls.{Rests, HasCause}
use Rattle.base_disk.specs.declared.disk.DiskFail.{DiskFail}
use Rattle.disk_frame.specs.declared.scanned.Scan.{Scan}
use Rattle.disk_frame.specs.Answers.{IsScan}
use Rattle.disk_frame.proofs.PieceLaws.{scan_from}
use Rattle.base_disk.proofs.Keeping.{rests_same, rests_then}
use Rattle.base_disk.proofs.Causes.{none_at_ok}

-- how many windows may come, where so many bytes are left
abbrev pub windows_left : ℕ → Bool → ℕ
windows_left rest true = 2 * rest
windows_left rest false = 2 * rest + 1

-- a scan so far, over a disk on which nothing changed and of which no fault came
pub record IsScanning (told tells : Type 0) (v0 v : View) (f0 f n0 n : ℕ) (was_steady is_steady : Type 0) (name : List ℕ) (first skip most size : ℕ) (s : Scan) : Type 0 where
  pub tells_on : told ↔ tells
  pub rests : told → Rests v0 v
  pub same : f ≡ f0
  pub shortages : n0 ≤ n
  pub steady : was_steady → is_steady
  pub limit : first + s.count ≤ 4611686018427387905
  pub places : 24 + s.whole_length ≤ size
  pub scans : told → (bytes : List ℕ) → v0.seen name ≡ Some bytes → length bytes ≡ size → IsScan first (drop 24 bytes) skip most s

pub begun : (told : Type 0) (v0 : View) (f0 n0 : ℕ) (was_steady : Type 0) (name : List ℕ) (first skip most size : ℕ) (s : Scan)
    → s ≡ record { bodies = []; count = 0; whole_length = 0 } → first ≤ 4611686018427387904 → 24 ≤ size
    → IsScanning told told v0 v0 f0 f0 n0 n0 was_steady was_steady name first skip most size s
begun told v0 f0 n0 was_steady name first skip most size s is small header = record {
  tells_on = (λ t. t, λ t. t);
  rests = λ t. rests_same v0;
  same = refl;
  shortages = omega arith;
  steady = λ s. s;
  limit = omega (arith, small, ap (λ (x : Scan). x.count) is);
  places = omega (arith, header, ap (λ (x : Scan). x.whole_length) is);
  scans = λ t bytes there long. scan_from first (drop 24 bytes) skip most s is;
}

module _ (told : Type 0) (v0 : View) (sound : told → IsSound v0) (f0 n0 : ℕ) (was_steady : Type 0) (name : List ℕ) (first skip most size : ℕ)
    (tells : Type 0) (v : View) (f n : ℕ) (is_steady : Type 0) (s : Scan) (so_far : IsScanning told tells v0 v f0 f n0 n was_steady is_steady name first skip most size s) where
  -- what a window's frames are is told of the file as it was at first
  pub told_at_first : (X : List ℕ → Type 0) → (tells → (bytes : List ℕ) → v.seen name ≡ Some bytes
      → length bytes ≡ 24 + s.whole_length + (size - 24 - s.whole_length) → IsScan first (drop 24 bytes) skip most s → X bytes)
      → told → (bytes : List ℕ) → v0.seen name ≡ Some bytes → length bytes ≡ size → X bytes
  told_at_first X window t bytes there long =
      window (so_far.tells_on.0 t) bytes (ap (λ (files : Files). files name) (so_far.rests t).keeps.seen ∙ there) (omega (arith, long, so_far.places)) (so_far.scans t bytes there long)

  module _ {T : Type 0} (tells1 : Type 0) (v1 : View) (f1 n1 : ℕ) (steady1 : Type 0) (r : Result T DiskFail) (on : tells ↔ tells1)
      (rests : tells → Rests v v1) (cause : HasCause f f1 is_steady steady1 r) (more : n ≤ n1) where
    pub still_tells : told ↔ tells1
    still_tells = (λ t. on.0 (so_far.tells_on.0 t), λ t. so_far.tells_on.1 (on.1 t))

    pub still_rests : told → Rests v0 v1
    still_rests t = rests_then v0 v v1 (sound t) (so_far.rests t) (rests (so_far.tells_on.0 t))

    pub goes_on : IsOk r → (new : Scan) → (tells → (bytes : List ℕ) → v.seen name ≡ Some bytes
        → length bytes ≡ 24 + s.whole_length + (size - 24 - s.whole_length) → IsScan first (drop 24 bytes) skip most s
        → IsScan first (drop 24 bytes) skip most new)
        → first + new.count ≤ 4611686018427387905 → new.whole_length ≤ s.whole_length + (size - 24 - s.whole_length)
        → IsScanning told tells1 v0 v1 f0 f1 n0 n1 was_steady steady1 name first skip most size new
    goes_on ok new window limit places = record {
      tells_on = still_tells;
      rests = still_rests;
      same = none_at_ok f f1 is_steady steady1 r cause ok ∙ so_far.same;
      shortages = omega (arith, so_far.shortages, more);
      steady = λ s. cause.steady (so_far.steady s);
      limit = limit;
      places = omega (arith, places, so_far.places);
      scans = told_at_first (λ bytes. IsScan first (drop 24 bytes) skip most new) window;
    }

-- each window takes frames, or is followed by one of all that is left
pub fewer : (size w new : ℕ) (is_long : Bool) → (is_long ≡ true → ⊥) → w ≤ new → new ≤ size → windows_left (size - new) (new == w) < windows_left (size - w) is_long
fewer size w new true short later within = absurd (short refl)
fewer size w new false short later within = by (new == w) (λ e. grind (arith, nat_tests, e)) (λ e. grind (arith, nat_tests, e))
  where
    by : (b : Bool) → (b ≡ true → new ≡ w) → (b ≡ false → new ≢ w) → windows_left (size - new) b < windows_left (size - w) false
    by true same other = let e : new ≡ w = same refl in omega (arith, e, within)
    by false same other = let lt : w < new = omega (arith, later, other refl) in omega (arith, lt, within)
