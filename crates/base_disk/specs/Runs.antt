-- How a call made of several disk calls goes on: noise up to one call that decides, and nothing
-- after it.
use Rattle.std.proofs.Common.{refl}
use Rattle.base_disk.specs.declared.disk.DiskFail.{DiskFail}
use Rattle.std.proofs.Common.{inl, inr, ⊎_elim, ◌⊎◌, sym, subst, arith}
use Rattle.std.specs.Prelude.{Result, OnOk, IsErr}
use Rattle.std.proofs.lemmas.Result.{IfOk-from_err}
use Rattle.base_disk.specs.Files.{Files, Follows, IsSame}
use Rattle.base_disk.specs.View.{View, IsSound, LeavesOnly, Elapses}
use Rattle.base_disk.specs.Calls.{Atomic, Effect, Happens, Keeps}
use Rattle.base_disk.specs.Moments.{started, goes_on}

-- each crash since old leaves an old outcome after the noise, and so does a read
pub record Quiet (noise : Files → Files → Type 0) (old new : View) : Type 0 where
  pub moments : LeavesOnly old new (λ c. (d : Files) × old.may_leave d × noise d c)
  pub now : Follows noise old.may_leave new.may_leave
  pub seen : noise old.seen new.seen

abbrev pub Or : (Files → Files → Type 0) → (Files → Files → Type 0) → Files → Files → Type 0
Or noise step d c = noise d c ⊎ step d c

pub record Decided (noise step : Files → Files → Type 0) (old new : View) : Type 0 where
  pub moments : LeavesOnly old new (λ c. (d : Files) × old.may_leave d × (noise d c ⊎ step d c))
  pub now : Follows (Or noise step) old.may_leave new.may_leave
  pub seen : Or noise step old.seen new.seen

pub weaker : (old new : View) (P Q : Files → Type 0) → ((c : Files) → P c → Q c) → LeavesOnly old new P → LeavesOnly old new Q
weaker old new P Q f leaves = record {
  later = leaves.later;
  each = λ c left. f c (leaves.each c left);
  before = λ t c le left. ⊎_elim (λ l. inl l) (λ p. inr (f c p)) (leaves.before t c le left);
}

-- one run after another
pub joined : (a b c : View) (P Q : Files → Type 0) → LeavesOnly a b P → LeavesOnly b c Q → LeavesOnly a c (λ f. P f ⊎ Q f)
joined a b c P Q first second = record {
  later = omega (arith, first.later, second.later);
  each = λ f left. ⊎_elim (λ l. inl (first.each f l)) (λ q. inr q) (second.before a.moment f first.later left);
  before = λ t f le left. ⊎_elim (λ l. ⊎_elim (λ m. inl m) (λ p. inr (inl p)) (first.before t f le l)) (λ q. inr (inr q)) (second.before t f (omega (arith, le, first.later)) left);
}

module _ (noise : Files → Files → Type 0) where
  pub quiet_start : (v : View) → IsSound v → ((c : Files) → v.may_leave c → noise c c) → Quiet noise v v
  quiet_start v sound same = record {
    moments = started v (λ c. (d : Files) × v.may_leave d × noise d c) sound (λ c now. (c, now, same c now));
    now = λ c now. (c, now, same c now);
    seen = same v.seen sound.seen_now;
  }

  -- a call that adds to the noise
  pub quiet_call : (v0 v1 v2 : View) (step : Files → Files → Type 0) → IsSound v0 → IsSound v1 → Quiet noise v0 v1 → Elapses v1 v2 → Follows step v1.may_leave v2.may_leave → step v1.seen v2.seen
      → ((d e c : Files) → v0.may_leave d → v1.may_leave e → noise d e → step e c → noise d c) → Quiet noise v0 v2
  quiet_call v0 v1 v2 step sound0 sound1 quiet time crash seen stays =
      let next : Follows noise v0.may_leave v2.may_leave = λ c now. let e = crash c now in let d = quiet.now e.0 e.1 in (d.0, d.1, stays d.0 e.0 c d.1 e.1 d.2 e.2) in
      record {
        moments = goes_on v0 v1 v2 (λ c. (d : Files) × v0.may_leave d × noise d c) quiet.moments time next;
        now = next;
        seen = stays v0.seen v1.seen v2.seen sound0.seen_now sound1.seen_now quiet.seen seen;
      }

  pub quiet_keeps : (v0 v1 v2 : View) → Quiet noise v0 v1 → Keeps v1 v2 → Quiet noise v0 v2
  quiet_keeps v0 v1 v2 quiet keeps =
      let next : Follows noise v0.may_leave v2.may_leave = λ c now. quiet.now c (keeps.crash c now) in
      record {
        moments = goes_on v0 v1 v2 (λ c. (d : Files) × v0.may_leave d × noise d c) quiet.moments keeps.time next;
        now = next;
        seen = subst (λ (f : Files). noise v0.seen f) (sym keeps.seen) quiet.seen;
      }

  module _ (deed : Files → Files → Type 0) where
    pub gave_up : {T E : Type 0} (result : Result T E) (v0 v1 : View) → IsErr result → Quiet noise v0 v1 → Effect noise deed result v0 v1
    gave_up result v0 v1 err quiet = record {
      any_moment = weaker v0 v1 (λ c. (d : Files) × v0.may_leave d × noise d c) (λ c. (d : Files) × v0.may_leave d × (noise d c ⊎ deed d c)) (λ c from. (from.0, from.1, inl from.2)) quiet.moments;
      done = IfOk-from_err result (λ _. Happens deed v0 v1) err;
      failed = inl quiet.seen;
    }

    -- the call that decides
    pub decides : (v0 v1 v2 : View) (step : Files → Files → Type 0) → IsSound v0 → IsSound v1 → Quiet noise v0 v1 → Elapses v1 v2 → Follows step v1.may_leave v2.may_leave → step v1.seen v2.seen
        → ((d e c : Files) → v0.may_leave d → v1.may_leave e → noise d e → step e c → noise d c ⊎ deed d c) → Decided noise deed v0 v2
    decides v0 v1 v2 step sound0 sound1 quiet time crash seen stays =
        let next : Follows (Or noise deed) v0.may_leave v2.may_leave = λ c now. let e = crash c now in let d = quiet.now e.0 e.1 in (d.0, d.1, stays d.0 e.0 c d.1 e.1 d.2 e.2) in
        let so_far : LeavesOnly v0 v1 (λ c. (d : Files) × v0.may_leave d × (noise d c ⊎ deed d c)) =
        weaker v0 v1 (λ c. (d : Files) × v0.may_leave d × noise d c) (λ c. (d : Files) × v0.may_leave d × (noise d c ⊎ deed d c)) (λ c from. (from.0, from.1, inl from.2)) quiet.moments in
        record {
          moments = goes_on v0 v1 v2 (λ c. (d : Files) × v0.may_leave d × (noise d c ⊎ deed d c)) so_far time next;
          now = next;
          seen = stays v0.seen v1.seen v2.seen sound0.seen_now sound1.seen_now quiet.seen seen;
        }

    pub decided_keeps : (v0 v1 v2 : View) → Decided noise deed v0 v1 → Keeps v1 v2 → Decided noise deed v0 v2
    decided_keeps v0 v1 v2 decided keeps =
        let next : Follows (Or noise deed) v0.may_leave v2.may_leave = λ c now. decided.now c (keeps.crash c now) in
        record {
          moments = goes_on v0 v1 v2 (λ c. (d : Files) × v0.may_leave d × (noise d c ⊎ deed d c)) decided.moments keeps.time next;
          now = next;
          seen = subst (λ (f : Files). Or noise deed v0.seen f) (sym keeps.seen) decided.seen;
        }

    pub effect : {T E : Type 0} (result : Result T E) (v0 v1 : View) → Decided noise deed v0 v1 → OnOk result (Happens deed v0 v1) → Effect noise deed result v0 v1
    effect result v0 v1 decided done = record { any_moment = decided.moments; done = done; failed = decided.seen }

    -- given up after the call that decides
    pub stopped : {T E : Type 0} (result : Result T E) (v0 v1 : View) → IsErr result → Decided noise deed v0 v1 → Effect noise deed result v0 v1
    stopped result v0 v1 err decided = record { any_moment = decided.moments; done = IfOk-from_err result (λ _. Happens deed v0 v1) err; failed = decided.seen }

-- a single call that is all or nothing
pub atomic_effect : {T : Type 0} (deed : Files → Files → Type 0) (result : Result T DiskFail) (v0 v1 : View) → IsSound v0 → Atomic deed result v0 v1 → Effect IsSame deed result v0 v1
atomic_effect deed result v0 v1 sound atomic = record {
  any_moment = goes_on v0 v0 v1 (λ c. (d : Files) × v0.may_leave d × (IsSame d c ⊎ deed d c))
      (started v0 (λ c. (d : Files) × v0.may_leave d × (IsSame d c ⊎ deed d c)) sound (λ c now. (c, now, inl record { files = λ n. refl }))) atomic.time (λ c now. by c now atomic.failed);
  done = atomic.done;
  failed = ⊎_elim (λ h. inr h.seen) (λ k. inl record { files = λ n i. k.seen i n }) atomic.failed;
}
  where
    by : (c : Files) → v1.may_leave c → Happens deed v0 v1 ⊎ Keeps v0 v1 → (d : Files) × v0.may_leave d × (IsSame d c ⊎ deed d c)
    by c now (inl h) = let from = h.crash c now in (from.0, from.1, inr from.2)
    by c now (inr k) = (c, k.crash c now, inl record { files = λ n. refl })
