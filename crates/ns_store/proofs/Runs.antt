-- Runs of disk calls, one after the other.
use Rattle.std.proofs.Common.{inl, inr, ⊎_elim, ◌⊎◌, ℕ, List, refl, ◌∙◌, subst}
use Rattle.std.specs.Prelude.{Result, Ok, Err, OnOk}
use Rattle.base_disk.specs.Files.{Files, Follows, ChangesOnly, IsGone}
use Rattle.base_disk.specs.View.{View, IsSound, LeavesOnly}
use Rattle.base_disk.specs.Calls.{Effect, Happens, Keeps, Atomic}
use Rattle.base_disk.specs.declared.disk.DiskFail.{DiskFail}
use Rattle.base_disk.specs.Runs.{Quiet, weaker, joined, quiet_start, quiet_call, quiet_keeps}
use Rattle.ns_store.specs.Saves.{MayGo}

-- each crash leaves what an old outcome is after this
abbrev pub From : View → (Files → Files → Type 0) → Files → Type 0
From u N c = (d : Files) × u.may_leave d × N d c

-- a quiet run after calls that only read
pub keeps_then : (K : Files → Files → Type 0) (u v w : View) → IsSound u → ((d : Files) → K d d) → Keeps u v → Quiet K v w → Quiet K u w
keeps_then K u v w sound same keeps quiet = record {
  moments = weaker u w (λ c. From u K c ⊎ From v K c) (From u K) by (joined u v w (From u K) (From v K) (quiet_keeps K u u v (quiet_start K u sound (λ c left. same c)) keeps).moments quiet.moments);
  now = λ c left. by c (inr (quiet.now c left));
  seen = subst (λ (f : Files). K f w.seen) keeps.seen quiet.seen;
}
  where
    by : (c : Files) → From u K c ⊎ From v K c → From u K c
    by c (inl from) = from
    by c (inr from) = (from.0, keeps.crash from.0 from.1, from.2)

-- a file is removed by one call that is all or nothing
pub removal_quiet : {T : Type 0} (name : List ℕ) (r : Result T DiskFail) (u v : View) → IsSound u → Atomic (ChangesOnly name IsGone) r u v → Quiet (MayGo name) u v
removal_quiet name r u v sound atomic = ⊎_elim by (λ k. quiet_keeps (MayGo name) u u v start k) atomic.failed
  where
    start : Quiet (MayGo name) u u
    start = quiet_start (MayGo name) u sound (λ c left. record { here = inl refl; others = λ n ne. refl })

    by : Happens (ChangesOnly name IsGone) u v → Quiet (MayGo name) u v
    by h = quiet_call (MayGo name) u u v (ChangesOnly name IsGone) sound sound start atomic.time h.crash h.seen
        (λ d e c left_d left_e may gone. record { here = inr gone.here; others = λ n ne. gone.others n ne ∙ may.others n ne })

pub quiet_weaker : (N K : Files → Files → Type 0) (u v : View) → ((d c : Files) → N d c → K d c) → Quiet N u v → Quiet K u v
quiet_weaker N K u v more quiet = record {
  moments = weaker u v (From u N) (From u K) (λ c from. (from.0, from.1, more from.0 c from.2)) quiet.moments;
  now = λ c left. let from = quiet.now c left in (from.0, from.1, more from.0 c from.2);
  seen = more u.seen v.seen quiet.seen;
}

-- an effect whose step is more
pub effect_by : (N S T : Files → Files → Type 0) {X E : Type 0} (r : Result X E) (u v : View) → ((d c : Files) → S d c → T d c) → Effect N S r u v → Effect N T r u v
effect_by N S T {X = X} {E = E} r u v more effect = record {
  any_moment = weaker u v (λ c. (d : Files) × u.may_leave d × (N d c ⊎ S d c)) (λ c. (d : Files) × u.may_leave d × (N d c ⊎ T d c))
      (λ c from. (from.0, from.1, ⊎_elim (λ n. inl n) (λ s. inr (more from.0 c s)) from.2)) effect.any_moment;
  done = done r effect.done;
  failed = ⊎_elim (λ n. inl n) (λ s. inr (more u.seen v.seen s)) effect.failed;
}
  where
    done : (s : Result X E) → OnOk s (Happens S u v) → OnOk s (Happens T u v)
    done (Ok x) h = record { seen = more u.seen v.seen h.seen; crash = λ c left. let from = h.crash c left in (from.0, from.1, more from.0 c from.2) }
    done (Err e) h = tt

module _ (N M K : Files → Files → Type 0) (u v w : View) (sound_u : IsSound u) (sound_v : IsSound v) where
  -- one quiet run after another
  pub quiet_then : ((d c : Files) → N d c → K d c) → ((d e c : Files) → u.may_leave d → v.may_leave e → N d e → M e c → K d c) → Quiet N u v → Quiet M v w → Quiet K u w
  quiet_then more both one two = record {
    moments = weaker u w (λ c. From u N c ⊎ From v M c) (From u K) by (joined u v w (From u N) (From v M) one.moments two.moments);
    now = λ c left. by c (inr (two.now c left));
    seen = both u.seen v.seen w.seen sound_u.seen_now sound_v.seen_now one.seen two.seen;
  }
    where
      by : (c : Files) → From u N c ⊎ From v M c → From u K c
      by c (inl from) = (from.0, from.1, more from.0 c from.2)
      by c (inr from) = let old = one.now from.0 from.1 in (old.0, old.1, both old.0 from.0 c old.1 from.1 old.2 from.2)

  -- an effect after calls that left no more than noise, and led to N
  pub effect_then : (S T : Files → Files → Type 0) {X E : Type 0} (r : Result X E) → LeavesOnly u v (From u K) → Follows N u.may_leave v.may_leave → N u.seen v.seen
      → ((d e c : Files) → u.may_leave d → v.may_leave e → N d e → M e c → K d c) → ((d e c : Files) → u.may_leave d → v.may_leave e → N d e → S e c → T d c) → Effect M S r v w → Effect K T r u w
  effect_then S T {X = X} {E = E} r moments now seen noise deed effect = record {
    any_moment = weaker u w (λ c. From u K c ⊎ ((e : Files) × v.may_leave e × (M e c ⊎ S e c))) (λ c. (d : Files) × u.may_leave d × (K d c ⊎ T d c)) by
        (joined u v w (From u K) (λ c. (e : Files) × v.may_leave e × (M e c ⊎ S e c)) moments effect.any_moment);
    done = done r effect.done;
    failed = either u.seen v.seen w.seen sound_u.seen_now sound_v.seen_now seen effect.failed;
  }
    where
      either : (d e c : Files) → u.may_leave d → v.may_leave e → N d e → M e c ⊎ S e c → K d c ⊎ T d c
      either d e c left_d left_e first (inl noisy) = inl (noise d e c left_d left_e first noisy)
      either d e c left_d left_e first (inr done) = inr (deed d e c left_d left_e first done)

      by : (c : Files) → From u K c ⊎ ((e : Files) × v.may_leave e × (M e c ⊎ S e c)) → (d : Files) × u.may_leave d × (K d c ⊎ T d c)
      by c (inl from) = (from.0, from.1, inl from.2)
      by c (inr from) = let old = now from.0 from.1 in (old.0, old.1, either old.0 from.0 c old.1 from.1 old.2 from.2)

      happened : Happens S v w → Happens T u w
      happened h = record {
        seen = deed u.seen v.seen w.seen sound_u.seen_now sound_v.seen_now seen h.seen;
        crash = λ c left. let from = h.crash c left in let old = now from.0 from.1 in (old.0, old.1, deed old.0 from.0 c old.1 from.1 old.2 from.2);
      }

      done : (s : Result X E) → OnOk s (Happens S v w) → OnOk s (Happens T u w)
      done (Ok x) h = happened h
      done (Err e) h = tt
