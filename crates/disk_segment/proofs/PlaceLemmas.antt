-- What the calls leave that put a content in the place of a file by way of a temporary one that may
-- be there.
use Rattle.std.proofs.Common.{inl, inr, ◌⊎◌, ◌≡◌, ◌≢◌, ℕ, List, ◌++◌, ap, sym, ◌∙◌, refl, ◌+◌, drop, length}
use Rattle.std.specs.Prelude.{Option, Some, Result, Ok, Err, OnOk}
use Rattle.base_disk.specs.Files.{Files, Moves, Holds, bytes_of}
use Rattle.base_disk.specs.View.{View, IsSound, IsStable}
use Rattle.base_disk.specs.Calls.{Writes, Atomic, Effect, Happens, Keeps}
use Rattle.base_disk.specs.Moments.{goes_on}
use Rattle.base_disk.specs.Runs.{Quiet, quiet_start, quiet_call, weaker}
use Rattle.base_disk.specs.declared.disk.DiskFail.{DiskFail}
use Rattle.base_files.specs.Puts.{Disturbs}
use Rattle.disk_segment.specs.Places.{Places}

pub record StartsWith (bytes : List ℕ) (file : Option (List ℕ)) : Type 0 where
  pub behind : List ℕ
  pub is : file ≡ Some (bytes ++ behind)

pub starts_with : (bytes : List ℕ) (old new : Option (List ℕ)) → Holds 0 bytes old new → StartsWith bytes new
starts_with bytes old new holds = record { behind = drop (0 + length bytes) (bytes_of old); is = holds }

module _ (name tmp bytes : List ℕ) (apart : tmp ≢ name) (v0 : View) (sound : IsSound v0) where
  abbrev Noise : Files → Files → Type 0
  Noise = Disturbs tmp

  abbrev Deed : Files → Files → Type 0
  Deed = Places name tmp bytes

  start : Quiet (Disturbs tmp) v0 v0
  start = quiet_start (Disturbs tmp) v0 sound (λ c now. record { here = tt; others = λ m ne. refl })

  pub written : (v1 : View) (r1 : Result (Unit {0}) DiskFail) → Writes tmp 0 bytes r1 v0 v1 → Quiet (Disturbs tmp) v0 v1
  written v1 r1 writes = quiet_call (Disturbs tmp) v0 v0 v1 _ sound sound start writes.time writes.crash writes.failed
      (λ d e c old mid noise torn. record { here = tt; others = λ m ne. torn.others m ne ∙ noise.others m ne })

  module _ (v2 : View) (sound2 : IsSound v2) (quiet : Quiet (Disturbs tmp) v0 v2) (whole : StartsWith bytes (v2.seen tmp)) (stable : IsStable tmp v2) where
    places_of : (d e c : Files) → Disturbs tmp d e → v2.may_leave e → Moves tmp name e c → Places name tmp bytes d c
    places_of d e c dist left moves = record {
      behind = whole.behind;
      here = moves.moved ∙ stable e left ∙ whole.is;
      gone = moves.gone apart;
      others = λ m other_name other_tmp. moves.others m other_tmp other_name ∙ dist.others m other_tmp;
    }

    happened : (v3 : View) → Happens (Moves tmp name) v2 v3 → Happens (Places name tmp bytes) v0 v3
    happened v3 h = record {
      seen = places_of v0.seen v2.seen v3.seen quiet.seen sound2.seen_now h.seen;
      crash = λ c now. let from = h.crash c now in let old = quiet.now from.0 from.1 in (old.0, old.1, places_of old.0 from.0 c old.2 from.1 from.2);
    }

    pub moved : (v3 : View) (r3 : Result (Unit {0}) DiskFail) → Atomic (Moves tmp name) r3 v2 v3 → Effect (Disturbs tmp) (Places name tmp bytes) r3 v0 v3
    moved v3 r3 atomic = record {
      any_moment = goes_on v0 v2 v3 (λ c. (d : Files) × v0.may_leave d × (Disturbs tmp d c ⊎ Places name tmp bytes d c))
          (weaker v0 v2 (λ c. (d : Files) × v0.may_leave d × Disturbs tmp d c)
          (λ c. (d : Files) × v0.may_leave d × (Disturbs tmp d c ⊎ Places name tmp bytes d c)) (λ c from. (from.0, from.1, inl from.2))
          quiet.moments)
          atomic.time (λ c now. after c now atomic.failed);
      done = done r3 atomic.done;
      failed = failed atomic.failed;
    }
      where
        after : (c : Files) → v3.may_leave c → Happens (Moves tmp name) v2 v3 ⊎ Keeps v2 v3 → (d : Files) × v0.may_leave d × (Disturbs tmp d c ⊎ Places name tmp bytes d c)
        after c now (inl h) = let from = (happened v3 h).crash c now in (from.0, from.1, inr from.2)
        after c now (inr k) = let from = quiet.now c (k.crash c now) in (from.0, from.1, inl from.2)

        failed : Happens (Moves tmp name) v2 v3 ⊎ Keeps v2 v3 → Disturbs tmp v0.seen v3.seen ⊎ Places name tmp bytes v0.seen v3.seen
        failed (inl h) = inr (happened v3 h).seen
        failed (inr k) = inl record { here = tt; others = λ m ne. ap (λ (f : Files). f m) k.seen ∙ quiet.seen.others m ne }

        done : (r : Result (Unit {0}) DiskFail) → OnOk r (Happens (Moves tmp name) v2 v3) → OnOk r (Happens (Places name tmp bytes) v0 v3)
        done (Ok x) h = happened v3 h
        done (Err e) h = tt

    pub stays : (v3 : View) (r3 : Result (Unit {0}) DiskFail) → Atomic (Moves tmp name) r3 v2 v3 → OnOk r3 (IsStable name v3)
    stays v3 r3 atomic = by r3 atomic.done
      where
        by : (r : Result (Unit {0}) DiskFail) → OnOk r (Happens (Moves tmp name) v2 v3) → OnOk r (IsStable name v3)
        by (Ok x) h = λ c now. let from = h.crash c now in from.2.moved ∙ stable from.0 from.1 ∙ sym h.seen.moved
        by (Err e) h = tt

-- the first write to a temporary file, and its sync
pub disturbed : (tmp bytes : List ℕ) (v0 : View) → IsSound v0 → (v1 : View) (r1 : Result (Unit {0}) DiskFail) → Writes tmp 0 bytes r1 v0 v1 → Quiet (Disturbs tmp) v0 v1
disturbed tmp bytes v0 sound v1 r1 writes = quiet_call (Disturbs tmp) v0 v0 v1 _ sound sound
    (quiet_start (Disturbs tmp) v0 sound (λ c now. record { here = tt; others = λ m ne. refl })) writes.time writes.crash writes.failed
    (λ d e c old mid noise torn. record { here = tt; others = λ m ne. torn.others m ne ∙ noise.others m ne })
