-- A request at a node: where it moves, promise or serial change, and the promise never falls; where
-- it doesn't, all stays.
use Rattle.std.proofs.Common.{◌≡◌, ◌≢◌, ℕ, ◌<◌, ◌≤◌, max, Bool, true, false, cond, refl, ap, ◌∙◌, arith, ◌⊎◌, inl, inr}
use Rattle.std.specs.Prelude.{Option, Some, None, is_some, ◌&&◌, ◌==◌, nat_lt, nat_le}
use Rattle.std.proofs.lemmas.Bool.Decides.{nat_tests}
use Rattle.journal_core.specs.Views.{HeadView}
use Rattle.journal_core.specs.declared.node_state.NodeState.{NodeState}
use Rattle.journal_core.specs.declared.request.Request.{Request}
use Rattle.journal_core.specs.declared.request.Request.TheVariants as request
use Rattle.journal_core.specs.declared.refusal.Refusal.{Refusal}
use Rattle.journal_core.specs.declared.refusal.Refusal.TheVariants as refusal
use Rattle.journal_core.specs.Limits.{head_of}
use Rattle.journal_core.specs.Effects.{after_effects}
use Rattle.journal_core.specs.Step.{Stepped, front_refused, refused_at_once, fronted, row_refused, row_effects, serial_then, row_reply, step_after_front, unless_refused, node_step}
use Rattle.journal_core.proofs.Steps.{front_passed}
use Rattle.journal_history.specs.Moving.{epoch_of, is_refused_at_once, moves}
use Rattle.journal_history.proofs.Fronts.{quiet_promise, same_serial, quiet_row, at_once, row_late}

-- a request is without an epoch, a proposal, or has a head
pub data Sort : Request → Type 0 where
  Reads : (r : Request) → epoch_of r ≡ None → ((s : NodeState) (o : Option Refusal) → (step_after_front (fronted s r) r o).state ≡ s) → Sort r
  Proposes : (epoch : ℕ) → Sort (request.NewEpoch epoch)
  Heads : (r : Request) (h : HeadView) → head_of r ≡ Some h → epoch_of r ≡ Some h.epoch → ((n : ℕ) → serial_then n r ≡ n) → ((s : NodeState) → is_refused_at_once (row_reply s r) ≡ false) → Sort r

state_reads : (s : NodeState) (o : Option Refusal) → (step_after_front (fronted s request.State) request.State o).state ≡ s
unfolding after_effects
state_reads s None = refl
state_reads s (Some f) = refl

read_reads : (from : ℕ) (s : NodeState) (o : Option Refusal) → (step_after_front (fronted s (request.Read from)) (request.Read from) o).state ≡ s
unfolding after_effects
read_reads from s None = refl
read_reads from s (Some f) = refl

manifest_reads : (s : NodeState) (o : Option Refusal) → (step_after_front (fronted s request.Manifest) request.Manifest o).state ≡ s
unfolding after_effects
manifest_reads s None = refl
manifest_reads s (Some f) = refl

pub sort_of : (r : Request) → Sort r
unfolding epoch_of
sort_of request.State = Reads request.State refl state_reads
sort_of (request.NewEpoch epoch) = Proposes epoch
sort_of (request.Start head start) = Heads (request.Start head start) head refl refl (λ n. refl) (λ s. refl)
sort_of (request.Journal head start batch) = Heads (request.Journal head start batch) head refl refl (λ n. refl) (λ s. refl)
sort_of (request.Finalize head start end) = Heads (request.Finalize head start end) head refl refl (λ n. refl) (λ s. refl)
sort_of (request.Prepare head start) = Heads (request.Prepare head start) head refl refl (λ n. refl) (λ s. refl)
sort_of (request.Fetch head start from) = Heads (request.Fetch head start from) head refl refl (λ n. refl) (λ s. refl)
sort_of (request.Accept head batch) = Heads (request.Accept head batch) head refl refl (λ n. refl) (λ s. refl)
sort_of (request.Purge head min) = Heads (request.Purge head min) head refl refl (λ n. refl) (λ s. refl)
sort_of (request.Read from) = Reads (request.Read from) refl (read_reads from)
sort_of request.Manifest = Reads request.Manifest refl manifest_reads

-- ## After the front of a request with a head
pub record Fronted (s : NodeState) (h : HeadView) (after : NodeState) : Type 0 where
  pub promised : after.promised ≡ max s.promised h.epoch
  pub serial : after.serial ≡ h.serial

pub front_promise : (s : NodeState) (r : Request) (h : HeadView) → head_of r ≡ Some h → ((fronted s r).promised ≡ max s.promised h.epoch) × ((fronted s r).serial ≡ h.serial)
front_promise s r h e = (rw e refl, rw e refl)

pub behind : (s : NodeState) (r : Request) (h : HeadView) (o : Option Refusal) → head_of r ≡ Some h → ((n : ℕ) → serial_then n r ≡ n) → Fronted s h (step_after_front (fronted s r) r o).state
behind s r h (Some f) e then = record { promised = (front_promise s r h e).0; serial = (front_promise s r h e).1 }
behind s r h None e then = record {
  promised = quiet_promise (row_effects (fronted s r) r) (fronted s r) (quiet_row (fronted s r) r h e) ∙ (front_promise s r h e).0;
  serial = then (after_effects (fronted s r) (row_effects (fronted s r) r)).serial ∙ (same_serial (row_effects (fronted s r) r) (fronted s r) ∙ (front_promise s r h e).1);
}

tests_none : (b c : Bool) (x y : Refusal) → cond b (Some x) (cond c (Some y) None) ≡ None → (b ≡ false) × (c ≡ false)
tests_none true c x y e = absurd (cc e)
tests_none false true x y e = absurd (cc e)
tests_none false false x y e = (refl, refl)

passes : (s : NodeState) (h : HeadView) → front_refused s (Some h) ≡ None → (s.promised < h.epoch) ⊎ ((s.promised ≡ h.epoch) × (s.serial < h.serial))
passes s h e =
    let t : (nat_lt h.epoch s.promised ≡ false) × (((h.epoch == s.promised) && nat_le h.serial s.serial) ≡ false) =
    tests_none (nat_lt h.epoch s.promised) ((h.epoch == s.promised) && nat_le h.serial s.serial) (refusal.EpochRefused s.promised) (refusal.OldSerial s.serial) e in
    grind (arith, nat_tests, t.0, t.1)

pub front_passes : (s : NodeState) (r : Request) (h : HeadView) → head_of r ≡ Some h → refused_at_once s r ≡ None → (s.promised < h.epoch) ⊎ ((s.promised ≡ h.epoch) × (s.serial < h.serial))
front_passes s r h e f =
    let p : front_refused s (head_of r) ≡ None = front_passed s r f in
    passes s h (rw e at p)

-- ## Promise and serial after any request
-- what a request that wasn't refused at once did
unfoldable pub Did : NodeState → Stepped → Type 0
Did s x = ((is_refused_at_once x.reply ≡ false) × ((s.promised < x.state.promised) ⊎ ((s.promised ≡ x.state.promised) × (s.serial < x.state.serial))))
    ⊎ ((is_refused_at_once x.reply ≡ true) × (x.state ≡ s))

fronted_moves : (s : NodeState) (h : HeadView) (after : NodeState) → Fronted s h after → (s.promised < h.epoch) ⊎ ((s.promised ≡ h.epoch) × (s.serial < h.serial))
    → (s.promised < after.promised) ⊎ ((s.promised ≡ after.promised) × (s.serial < after.serial))
fronted_moves s h after f (inl l) = inl (omega (arith, f.promised, l))
fronted_moves s h after f (inr e) = inr (omega (arith, f.promised, e.0), omega (arith, f.serial, e.1))

late_reply : (s : NodeState) (r : Request) (h : HeadView) (o : Option Refusal) → head_of r ≡ Some h
    → ((s : NodeState) → is_refused_at_once (row_reply s r) ≡ false) → row_refused (fronted s r) r ≡ o
    → is_refused_at_once (step_after_front (fronted s r) r o).reply ≡ false
late_reply s r h None e replies is = replies (fronted s r)
late_reply s r h (Some f) e replies is = row_late (fronted s r) r h f e is

propose_by : (b : Bool) (s : NodeState) (epoch : ℕ) → nat_le epoch s.promised ≡ b
    → Did s (step_after_front (fronted s (request.NewEpoch epoch)) (request.NewEpoch epoch) (cond b (Some (refusal.EpochRefused s.promised)) None))
unfolding Did after_effects
propose_by true s epoch is = inr (refl, refl)
propose_by false s epoch is = inl (refl, inl (grind (arith, nat_tests, is)))

did_by : (s : NodeState) (r : Request) (o : Option Refusal) → Sort r → refused_at_once s r ≡ o → is_some (epoch_of r) ≡ true → Did s (unless_refused s r o)
unfolding Did
did_by s r (Some f) x is e = inr (at_once s r f is, refl)
did_by s _ None (Reads r none same) is e = absurd (cc (rw none at e))
did_by s _ None (Proposes epoch) is e = unfold Did in propose_by (nat_le epoch s.promised) s epoch refl
did_by s _ None (Heads r h head epoch then replies) is e =
    inl (
      late_reply s r h (row_refused (fronted s r) r) head replies refl,
      fronted_moves s h (step_after_front (fronted s r) r (row_refused (fronted s r) r)).state
          (behind s r h (row_refused (fronted s r) r) head then) (front_passes s r h head is),
    )

pub did : (s : NodeState) (r : Request) → is_some (epoch_of r) ≡ true → Did s (node_step s r)
unfolding node_step
did s r e = did_by s r (refused_at_once s r) (sort_of r) refl e

reads_by : (s : NodeState) (r : Request) (o : Option Refusal) → Sort r → is_some (epoch_of r) ≡ false → (unless_refused s r o).state ≡ s
unfolding epoch_of
reads_by s r (Some f) x e = refl
reads_by s _ None (Reads r none same) e = same s (row_refused (fronted s r) r)
reads_by s _ None (Proposes epoch) e = absurd (cc e)
reads_by s _ None (Heads r h head epoch then replies) e = absurd (cc (rw epoch at e))

pub reads : (s : NodeState) (r : Request) → is_some (epoch_of r) ≡ false → (node_step s r).state ≡ s
unfolding node_step
reads s r e = reads_by s r (refused_at_once s r) (sort_of r) e

-- ## The reply tells
split : (b : Bool) → (b ≡ true) ⊎ (b ≡ false)
split true = inl refl
split false = inr refl

pub still : (s : NodeState) (r : Request) → moves r (node_step s r).reply ≡ false → (node_step s r).state ≡ s
unfolding moves Did
still s r e = by (split (is_some (epoch_of r)))
  where
    by : (is_some (epoch_of r) ≡ true) ⊎ (is_some (epoch_of r) ≡ false) → (node_step s r).state ≡ s
    by (inl f) = told (did s r f)
      where
        told : ((is_refused_at_once (node_step s r).reply ≡ false) ×
            ((s.promised < (node_step s r).state.promised) ⊎ ((s.promised ≡ (node_step s r).state.promised)
            × (s.serial < (node_step s r).state.serial))))
            ⊎ ((is_refused_at_once (node_step s r).reply ≡ true) × ((node_step s r).state ≡ s)) → (node_step s r).state ≡ s
        told (inl g) = absurd (cc (rw (f, g.0) at e))
        told (inr g) = g.1
    by (inr f) = reads s r f

pub changes : (s : NodeState) (r : Request) → moves r (node_step s r).reply ≡ true → (node_step s r).state ≢ s
unfolding moves Did
changes s r e = by (split (is_some (epoch_of r)))
  where
    by : (is_some (epoch_of r) ≡ true) ⊎ (is_some (epoch_of r) ≡ false) → (node_step s r).state ≢ s
    by (inl f) = told (did s r f)
      where
        told : ((is_refused_at_once (node_step s r).reply ≡ false) ×
            ((s.promised < (node_step s r).state.promised) ⊎ ((s.promised ≡ (node_step s r).state.promised)
            × (s.serial < (node_step s r).state.serial))))
            ⊎ ((is_refused_at_once (node_step s r).reply ≡ true) × ((node_step s r).state ≡ s)) → (node_step s r).state ≢ s
        told (inl g) same = more g.1
          where
            more : (s.promised < (node_step s r).state.promised) ⊎ ((s.promised ≡ (node_step s r).state.promised) × (s.serial < (node_step s r).state.serial)) → ⊥
            more (inl l) = omega (arith, l, ap (λ (x : NodeState). x.promised) same)
            more (inr l) = omega (arith, l.1, ap (λ (x : NodeState). x.serial) same)
        told (inr g) same = absurd (cc (rw (f, g.0) at e))
    by (inr f) = λ (same : (node_step s r).state ≡ s). absurd (cc (rw f at e))

pub rises : (s : NodeState) (r : Request) → s.promised ≤ (node_step s r).state.promised
unfolding Did
rises s r = by (split (is_some (epoch_of r)))
  where
    by : (is_some (epoch_of r) ≡ true) ⊎ (is_some (epoch_of r) ≡ false) → s.promised ≤ (node_step s r).state.promised
    by (inl f) = told (did s r f)
      where
        told : ((is_refused_at_once (node_step s r).reply ≡ false) ×
            ((s.promised < (node_step s r).state.promised) ⊎ ((s.promised ≡ (node_step s r).state.promised)
            × (s.serial < (node_step s r).state.serial))))
            ⊎ ((is_refused_at_once (node_step s r).reply ≡ true) × ((node_step s r).state ≡ s)) → s.promised ≤ (node_step s r).state.promised
        told (inl g) = more g.1
          where
            more : (s.promised < (node_step s r).state.promised) ⊎ ((s.promised ≡ (node_step s r).state.promised)
                × (s.serial < (node_step s r).state.serial)) → s.promised ≤ (node_step s r).state.promised
            more (inl l) = omega (arith, l)
            more (inr l) = omega (arith, l.0)
        told (inr g) = omega (arith, ap (λ (x : NodeState). x.promised) g.1)
    by (inr f) = omega (arith, ap (λ (x : NodeState). x.promised) (reads s r f))
