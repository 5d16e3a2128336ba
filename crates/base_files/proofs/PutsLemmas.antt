-- What the calls of a put leave.
use Rattle.std.proofs.Common.{inl, inr, ⊎_elim, ◌⊎◌, ◌≡◌, ◌≢◌, ℕ, zero, suc, ◌<◌, List, [], ◌++◌, ap, ◌∙◌, refl, sym, subst, arith, ◌+◌}
use Rattle.std.specs.Prelude.{Option, Some, None, Result, Ok, Err, OnOk, IsOk, IsErr, IsErrOf, length}
use Rattle.std.proofs.lemmas.List.{append-nil, drop_all}
use Rattle.std.proofs.lemmas.Result.{IfOk-from_err}
use Rattle.base_disk.specs.Files.{Files, Moves, Holds, Follows}
use Rattle.base_disk.specs.View.{View, IsSound, LeavesOnly, AllLeave, IsStable}
use Rattle.base_disk.specs.Calls.{Writes, Syncs, Atomic, Effect, Happens, Keeps, Budget}
use Rattle.base_disk.specs.Moments.{started, goes_on}
use Rattle.base_disk.specs.declared.disk.DiskFail.{DiskFail}
use Rattle.base_disk.specs.declared.disk.DiskFail.TheVariants.{Failed}
use Rattle.base_files.specs.Puts.{Disturbs, Puts, PutCut, OneCut}

-- what a crash may leave while the put is under way
abbrev pub Under : View → List ℕ → List ℕ → List ℕ → Files → Type 0
Under v0 name tmp bytes c = (d : Files) × v0.may_leave d × (Disturbs tmp d c ⊎ Puts name tmp bytes d c)

same : (tmp : List ℕ) (c : Files) → Disturbs tmp c c
same tmp c = record { here = tt; others = λ m ne. refl }

-- an outcome that differs at the temporary file alone
abbrev Disturbed : View → List ℕ → Files → Type 0
Disturbed v0 tmp c = (d : Files) × v0.may_leave d × Disturbs tmp d c

-- a call that gave up with only noise after it
pub gave_up : {T E : Type 0} (noise step : Files → Files → Type 0) (result : Result T E) (v0 v1 : View) → IsErr result
    → LeavesOnly v0 v1 (λ c. (d : Files) × v0.may_leave d × (noise d c ⊎ step d c)) → noise v0.seen v1.seen → Effect noise step result v0 v1
gave_up noise step result v0 v1 err moments seen = record { any_moment = moments; done = IfOk-from_err result (λ _. Happens step v0 v1) err; failed = inl seen }

module _ (name tmp bytes : List ℕ) (apart : tmp ≢ name) where
  module _ (v0 : View) (sound : IsSound v0) (absent : v0.seen tmp ≡ None) where
    pub at_first : LeavesOnly v0 v0 (Under v0 name tmp bytes)
    at_first = started v0 (Under v0 name tmp bytes) sound (λ c now. (c, now, inl (same tmp c)))

    module _ (v1 : View) (r1 : Result (Unit {0}) DiskFail) (writes : Writes tmp 0 bytes r1 v0 v1) where
      pub now_written : AllLeave v1 (Disturbed v0 tmp)
      now_written c now =
          let from = writes.crash c now in
          (from.0, from.1, record { here = tt; others = from.2.others })

      pub written : LeavesOnly v0 v1 (Under v0 name tmp bytes)
      written = goes_on v0 v0 v1 (Under v0 name tmp bytes) at_first writes.time (λ c now. let from = now_written c now in (from.0, from.1, inl from.2))

      pub seen_written : Disturbs tmp v0.seen v1.seen
      seen_written = record { here = tt; others = writes.failed.others }

      module _ (v2 : View) (r2 : Result (Unit {0}) DiskFail) (syncs : Syncs tmp r2 v1 v2) where
        pub now_synced : AllLeave v2 (Disturbed v0 tmp)
        now_synced c now = now_written c (syncs.keeps.crash c now)

        pub synced : LeavesOnly v0 v2 (Under v0 name tmp bytes)
        synced = goes_on v0 v1 v2 (Under v0 name tmp bytes) written syncs.keeps.time (λ c now. let from = now_synced c now in (from.0, from.1, inl from.2))

        pub seen_synced : Disturbs tmp v0.seen v2.seen
        seen_synced = record { here = tt; others = λ m ne. ap (λ (f : Files). f m) syncs.keeps.seen ∙ writes.failed.others m ne }

        module _ (whole : v2.seen tmp ≡ Some bytes) (stable : IsStable tmp v2) where
          puts_of : (d e c : Files) → Disturbs tmp d e → e tmp ≡ Some bytes → Moves tmp name e c → Puts name tmp bytes d c
          puts_of d e c dist is moves = record {
            here = moves.moved ∙ is;
            gone = moves.gone apart;
            others = λ m other_name other_tmp. moves.others m other_tmp other_name ∙ dist.others m other_tmp;
          }

          pub moved : (v3 : View) (r3 : Result (Unit {0}) DiskFail) → Atomic (Moves tmp name) r3 v2 v3 → Effect (Disturbs tmp) (Puts name tmp bytes) r3 v0 v3
          moved v3 r3 atomic = record {
            any_moment = goes_on v0 v2 v3 (Under v0 name tmp bytes) synced atomic.time (λ c now. after c now atomic.failed);
            done = done r3 atomic.done;
            failed = failed atomic.failed;
          }
            where
              happened : Happens (Moves tmp name) v2 v3 → Happens (Puts name tmp bytes) v0 v3
              happened h = record {
                seen = puts_of v0.seen v2.seen v3.seen seen_synced whole h.seen;
                crash = λ c now.
                    let from = h.crash c now in
                    let old = now_synced from.0 from.1 in
                    (old.0, old.1, puts_of old.0 from.0 c old.2 (stable from.0 from.1 ∙ whole) from.2);
              }

              after : (c : Files) → v3.may_leave c → Happens (Moves tmp name) v2 v3 ⊎ Keeps v2 v3 → Under v0 name tmp bytes c
              after c now (inl h) = let from = (happened h).crash c now in (from.0, from.1, inr from.2)
              after c now (inr k) = let from = now_synced c (k.crash c now) in (from.0, from.1, inl from.2)

              failed : Happens (Moves tmp name) v2 v3 ⊎ Keeps v2 v3 → Disturbs tmp v0.seen v3.seen ⊎ Puts name tmp bytes v0.seen v3.seen
              failed (inl h) = inr (happened h).seen
              failed (inr k) = inl record { here = tt; others = λ m ne. ap (λ (f : Files). f m) k.seen ∙ seen_synced.others m ne }

              done : (r : Result (Unit {0}) DiskFail) → OnOk r (Happens (Moves tmp name) v2 v3) → OnOk r (Happens (Puts name tmp bytes) v0 v3)
              done (Ok x) h = happened h
              done (Err e) h = tt

pub put_whole : (old new : Option (List ℕ)) (bytes : List ℕ) → old ≡ None → Holds 0 bytes old new → new ≡ Some bytes
put_whole None new bytes is holds = holds ∙ ap (λ (l : List ℕ). Some (bytes ++ l)) (drop_all (0 + length bytes) [] (omega arith)) ∙ ap (λ (l : List ℕ). Some l) (append-nil bytes)
put_whole (Some x) new bytes is holds = absurd (cc)

-- where the number of calls that are left is known
below_three : (k : ℕ) → k < 3 → (k ≡ 0) ⊎ ((k ≡ 1) ⊎ (k ≡ 2))
below_three zero lt = inl refl
below_three (suc zero) lt = inr (inl refl)
below_three (suc (suc zero)) lt = inr (inr refl)
below_three (suc (suc (suc k))) lt = absurd (omega arith)

on_ok_absurd : {T E : Type 0} (r : Result T E) (P : Type 0) → IsErr r → OnOk r P
on_ok_absurd (Ok x) P err = absurd (cc)
on_ok_absurd (Err e) P err = tt

module _ (tmp : List ℕ) (tells : Type 0) (v0 : View) where
  -- given up before the last call
  pub cut_early : (b0 b1 : Option ℕ) (v1 : View) (r : Result (Unit {0}) DiskFail) → IsErr r
      → (tells → Follows (Disturbs tmp) v0.may_leave v1.may_leave) → ((k : ℕ) → b0 ≡ Some (3 + k) → IsErrOf r Failed → ⊥)
      → PutCut b0 b1 tells tmp r v0 v1
  cut_early b0 b1 v1 r err quiet goes = record { stops = λ k left lt. (err, quiet); counts = λ k left. (goes k left, on_ok_absurd r (b1 ≡ Some k) err) }

  -- at the last call
  pub cut_last : (b0 b1 b2 b3 : Option ℕ) (t1 t2 : Type 0) (v1 v2 v3 : View) (r1 r2 r3 : Result (Unit {0}) DiskFail) → Budget b0 b1 tells r1 v0 v1
      → Budget b1 b2 t1 r2 v1 v2 → Budget b2 b3 t2 r3 v2 v3 → (tells → t2)
      → IsOk r1 → IsOk r2 → (tells → Follows (Disturbs tmp) v0.may_leave v2.may_leave) → PutCut b0 b3 tells tmp r3 v0 v3
  cut_last b0 b1 b2 b3 t1 t2 v1 v2 v3 r1 r2 r3 budget1 budget2 budget3 tells2 ok1 ok2 quiet = record {
    stops = λ k left lt. ⊎_elim (λ zero_left. absurd (ok_err r1 ok1 (budget1.stops (left ∙ ap (λ (n : ℕ). Some n) zero_left)).0))
        (λ more. ⊎_elim
        (λ one_left. absurd (ok_err r2 ok2 (budget2.stops (budget1.counts 0 (left ∙ ap (λ (n : ℕ). Some n) one_left)).1).0))
        (λ two_left. let at_end = budget3.stops (budget2.counts 0 (budget1.counts 1 (left ∙ ap (λ (n : ℕ). Some n) two_left)).1).1 in
        (failed_err r3 at_end.0, λ told. λ c now. quiet told c ((at_end.2 (tells2 told)).keeps.crash c now)))
        more)
        (below_three k lt);
    counts = λ k left. let last = budget3.counts k (budget2.counts (suc k) (budget1.counts (suc (suc k)) (left ∙ ap (λ (n : ℕ). Some n) (let e : 3 + k ≡ suc (suc (suc k)) = omega arith in e))).1).1 in
        (last.0, always r3 (b3 ≡ Some k) last.1);
  }
    where
      failed_err : (r : Result (Unit {0}) DiskFail) → IsErrOf r Failed → IsErr r
      failed_err (Ok x) is = absurd (cc)
      failed_err (Err e) is = refl

      ok_err : (r : Result (Unit {0}) DiskFail) → IsOk r → IsErrOf r Failed → ⊥
      ok_err (Ok x) ok is = absurd (cc)
      ok_err (Err e) ok is = absurd (cc)

      always : (r : Result (Unit {0}) DiskFail) (P : Type 0) → P → OnOk r P
      always (Ok x) P fact = fact
      always (Err e) P fact = tt

failed_is_err : {T : Type 0} (r : Result T DiskFail) → IsErrOf r Failed → IsErr r
failed_is_err (Ok x) is = absurd (cc)
failed_is_err (Err e) is = refl

holds_on_ok : {T : Type 0} (r : Result T DiskFail) (P : Type 0) → P → OnOk r P
holds_on_ok (Ok x) P fact = fact
holds_on_ok (Err e) P fact = tt

-- a single disk call
pub one_cut : {T : Type 0} (b0 b1 : Option ℕ) (tells : Type 0) (outer : Result T DiskFail) (v0 v1 : View) (inner : Result T DiskFail) → outer ≡ inner
    → Budget b0 b1 tells inner v0 v1 → OneCut b0 b1 tells outer v0 v1
one_cut {T} b0 b1 tells outer v0 v1 inner same budget = subst (λ (r : Result T DiskFail). OneCut b0 b1 tells r v0 v1) (sym same) record {
  stops = λ left. let at_end = budget.stops left in (failed_is_err inner at_end.0, λ t c now. (at_end.2 t).keeps.crash c now);
  counts = λ k left. let last = budget.counts k (left ∙ ap (λ (n : ℕ). Some n) (let e : 1 + k ≡ suc k = omega arith in e)) in (last.0, holds_on_ok inner (b1 ≡ Some k) last.1);
}
