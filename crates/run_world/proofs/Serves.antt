-- A node that serves a takeover answers its next call with the Ok kind.
use Rattle.std.proofs.Common.{◌≡◌, ℕ, ◌<◌, ◌≤◌, ◌==◌, inl, inr, List, [], ◌∷◌, ◌++◌, Bool, true, false, cond, refl, sym, ap, ◌∙◌, subst, arith, length, Option, Some, None, nat_lt, nat_le}
use Rattle.std.proofs.lemmas.Bool.{eq-eqb, lt-ltb, and_from}
use Rattle.std.proofs.lemmas.Bool.Decides.{nat_tests}
use Rattle.journal_core.specs.Laws.{IsStored, OpenIsLed}
use Rattle.journal_core.specs.Views.{HeadView, last_txid}
use Rattle.journal_core.specs.Limits.{head_of, max_number}
use Rattle.journal_core.specs.Reads.{told_of}
use Rattle.journal_core.specs.Segments.{find_segment, newest, has_edit, any_body, end_of, info_of}
use Rattle.journal_core.specs.Step.{node_step}
use Rattle.journal_core.specs.declared.segment.Segment.{Segment}
use Rattle.journal_core.specs.declared.node_state.NodeState.{NodeState}
use Rattle.journal_core.specs.declared.request.Request.{Request}
use Rattle.journal_core.specs.declared.request.Request.TheVariants.{Start, Journal, Finalize, Prepare, Accept}
use Rattle.journal_core.specs.declared.reply.Reply.TheVariants as reply
use Rattle.writer_core.specs.declared.round.Round.{Round}
use Rattle.writer_core.specs.declared.round.Round.TheVariants as round
use Rattle.writer_core.specs.Views.{WriterView}
use Rattle.writer_core.specs.Answers.{fits, fits_newest, fits_told, fits_prepare, fits_round}
use Rattle.writer_core.specs.Rounds.{request_in, head_now, batch_from, start_record}
use Rattle.run_world.specs.Complete.{IsHeeded}
use Rattle.run_safety.specs.Actings.{CallMade}
use Rattle.journal_core.proofs.SegmentLists.{find-start, newest-found}
use Rattle.journal_core.proofs.Stored.{some_body}
use Rattle.run_safety.proofs.Slots.{some_same, true≢false}
use Rattle.run_safety.proofs.Oks.{AcceptHeld, accept_held}
use Rattle.run_world.proofs.Ranges.{Small, EndSmall}
use Rattle.run_world.proofs.Heeding.{Fresh, Left, up_to_kept, HasPrepared, prepared, accepts, HoldsTo, finalizes, HasStarted, starts, opens}
use Rattle.run_world.proofs.Duties.{AreOld, Ready, After}

-- what holds of every node of a run
pub record Sane (s : NodeState) : Type 0 where
  pub sound : OpenIsLed s
  pub durable : IsStored s
  pub small : Small s
  pub ends : (t : ℕ) → EndSmall (find_segment t s.segments)
  pub starts : (t : ℕ) (g : Segment) → find_segment t s.segments ≡ Some g → has_edit g ≡ true → 1 ≤ t

-- ## Numbers in range
fits_le : (k : ℕ) → k ≤ max_number → fits k ≡ true
fits_le k l = grind (arith, nat_tests, l)

told_fits : (m : ℕ) (s : NodeState) (o : Option Segment) → find_segment m s.segments ≡ o → Sane s → fits_told m (told_of o) ≡ true
told_fits m s None e sane = refl
told_fits m s (Some g) e sane = by (has_edit g) refl
  where
    by : (b : Bool) → has_edit g ≡ b → fits_told m (cond b (Some (info_of g)) None) ≡ true
    by false f = refl
    by true f =
        let start : g.start ≡ m = find-start m s.segments g e in
        let len : 1 ≤ length g.bodies = omega (arith, some_body g.bodies f) in
        let end : end_of g ≤ max_number = (subst EndSmall e (sane.ends m)) f in
        let header : g.epoch ≤ s.promised = (sane.durable.segments m g e).header in
        let low : nat_le m (end_of g) ≡ true = (let l : m ≤ end_of g = omega (arith, start, len) in grind (arith, nat_tests, l)) in
        and_from (g.start == m) _ (eq-eqb g.start m start) (and_from (nat_le m (end_of g)) _ low
        (and_from (fits (end_of g)) (fits g.epoch) (fits_le (end_of g) end) (fits_le g.epoch (omega (arith, header, sane.small.0)))))

pub newest_fits : (s : NodeState) → Sane s → fits_newest (newest s.segments) ≡ true
newest_fits s sane = by (newest s.segments) refl
  where
    by : (o : Option ℕ) → newest s.segments ≡ o → fits_newest o ≡ true
    by None e = refl
    by (Some k) e =
        let f : (g : Segment) × (find_segment k s.segments ≡ Some g) × (has_edit g ≡ true) = newest-found k s.segments sane.durable.rising e in
        let low : 1 ≤ k = sane.starts k f.0 f.1 f.2 in
        let start : f.0.start ≡ k = find-start k s.segments f.0 f.1 in
        let len : 1 ≤ length f.0.bodies = omega (arith, some_body f.0.bodies f.2) in
        let end : end_of f.0 ≤ max_number = (subst EndSmall f.1 (sane.ends k)) f.2 in
        and_from (nat_lt 0 k) (fits k) (lt-ltb 0 k low) (fits_le k (omega (arith, end, start, len)))

-- ## The calls so far are old
old_more : (i epoch top up : ℕ) (calls : List CallMade) (x : CallMade) → top ≤ up → AreOld i epoch top calls
    → ((h : HeadView) → head_of x.request ≡ Some h → h.serial ≤ up) → AreOld i epoch up (calls ++ x ∷ [])
old_more i epoch top up [] x le a f = (λ at h is e. f h is, tt)
old_more i epoch top up (y ∷ calls) x le a f = (λ at h is e. let l : h.serial ≤ top = a.0 at h is e in omega (arith, l, le), old_more i epoch top up calls x le a.1 f)

pub old_other : (i epoch top : ℕ) (calls : List CallMade) (x : CallMade) → (x.node ≡ i → ⊥) → AreOld i epoch top calls → AreOld i epoch top (calls ++ x ∷ [])
old_other i epoch top [] x off a = (λ at h is e. absurd (off at), tt)
old_other i epoch top (y ∷ calls) x off a = (a.0, old_other i epoch top calls x off a.1)

-- ## An answer
pub record Answers (r : Round) (v : WriterView) (s : NodeState) (calls : List CallMade) (i : ℕ) : Type 0 where
  pub kind : fits_round r (node_step s (request_in v r)).reply ≡ true
  pub after : After r v (node_step s (request_in v r)).state (calls ++ record { node = i; request = request_in v r } ∷ []) i (node_step s (request_in v r)).reply

fresh_of : (r : Round) (v : WriterView) (s : NodeState) (calls : List CallMade) (i : ℕ) → s.up ≡ true → Ready r v s calls i → Fresh s (head_now v)
fresh_of r v s calls i up k = record { up = up; promise = k.bound; serial = k.serial }

-- the calls after it
old_after : (v : WriterView) (s t : NodeState) (calls : List CallMade) (i : ℕ) (q : Request) → head_of q ≡ Some (head_now v) → s.serial < v.serial
    → t.serial ≡ v.serial → AreOld i v.epoch s.serial calls
    → AreOld i v.epoch t.serial (calls ++ record { node = i; request = q } ∷ [])
old_after v s t calls i q is lt e a = old_more i v.epoch s.serial t.serial calls (record { node = i; request = q }) (omega (arith, lt, e)) a by
  where
    by : (h : HeadView) → head_of q ≡ Some h → h.serial ≤ t.serial
    by h f = let same : head_now v ≡ h = some_same (sym is ∙ f) in let at : v.serial ≡ h.serial = ap (λ (z : HeadView). z.serial) same in omega (arith, at, e)

pub serves : (r : Round) (v : WriterView) (s : NodeState) (calls : List CallMade) (i : ℕ) → s.up ≡ true → Sane s → Sane (node_step s (request_in v r)).state → Ready r v s calls i
    → IsHeeded (node_step s (request_in v r)).reply → Answers r v s calls i
serves round.State v s calls i up sane then k heeded = absurd k.due
serves round.Propose v s calls i up sane then k heeded = absurd k.due
serves (round.Fetch node m end bodies) v s calls i up sane then k heeded = absurd k.due
serves (round.Write bodies) v s calls i up sane then k heeded = absurd k.due
serves (round.Purge min) v s calls i up sane then k heeded = absurd k.due
serves (round.Prepare m) v s calls i up sane then k heeded =
    let q : Request = Prepare (head_now v) m in
    let p : HasPrepared s (head_now v) m = prepared s (head_now v) m (fresh_of (round.Prepare m) v s calls i up k) heeded in
    let known : ℕ = (node_step s q).state.known in
    let writer : s.writer ≤ s.promised = sane.durable.writer in
    let kind : fits_prepare m (reply.Prepared s.writer (node_step s (Prepare (head_now v) m)).state.known (told_of (find_segment m s.segments))) ≡ true =
    and_from (fits s.writer) _ (fits_le s.writer (omega (arith, writer, sane.small.0)))
    (and_from (fits (node_step s (Prepare (head_now v) m)).state.known) _
    (fits_le (node_step s (Prepare (head_now v) m)).state.known then.small.1) (told_fits m s (find_segment m s.segments) refl sane)) in
    record {
      kind = ap (fits_prepare m) p.tells ∙ kind;
      after = record {
        bound = p.left.promise;
        serial = omega (arith, p.left.serial);
        had = (
          λ t g is e. k.due t g (ap (find_segment t) (sym p.segments) ∙ is) e,
          (
            s.writer,
            (node_step s (Prepare (head_now v) m)).state.known,
            p.tells ∙ ap (λ (z : List Segment). reply.Prepared s.writer (node_step s (Prepare (head_now v) m)).state.known
                (told_of (find_segment m z))) (sym p.segments),
          ),
        );
        old = old_after v s (node_step s (Prepare (head_now v) m)).state calls i (Prepare (head_now v) m) refl k.serial p.left.serial k.old;
      };
    }
serves (round.Accept b) v s calls i up sane then k heeded =
    let l : Left s (Accept (head_now v) b) (head_now v) = accepts s (head_now v) b (fresh_of (round.Accept b) v s calls i up k) heeded k.due.1 in
    record {
      kind = ap (fits_round (round.Accept b)) l.passed.reply;
      after = record {
        bound = l.promise;
        serial = omega (arith, l.serial);
        had = (up_to_kept s (Accept (head_now v) b) b.first sane.sound sane.durable (omega arith) k.due.0, holds (accept_held s (head_now v) b l.passed));
        old = old_after v s (node_step s (Accept (head_now v) b)).state calls i (Accept (head_now v) b) refl k.serial l.serial k.old;
      };
    }
  where
    holds : AcceptHeld s (head_now v) b → HoldsTo v.epoch b.first (last_txid b) (node_step s (Accept (head_now v) b)).state
    holds a =
        let start : a.held.start ≡ b.first = find-start b.first (node_step s (Accept (head_now v) b)).state.segments a.held a.found in
        elim a.as_sent [
          | inl x ↦ record {
            held = a.held;
            found = a.found;
            edit = ap any_body x.1 ∙ k.due.2;
            header = λ f. x.0;
            ends = (let len : length a.held.bodies ≡ length b.bodies = ap length x.1 in omega (arith, start, len));
          }
          | inr x ↦ record {
            held = a.held;
            found = a.found;
            edit = (then.durable.segments b.first a.held a.found).final_edit x.0;
            header = λ f. true≢false (sym x.0 ∙ f);
            ends = x.1;
          }
        ]
serves (round.Finalize m l) v s calls i up sane then k heeded =
    let f : Left s (Finalize (head_now v) m l) (head_now v) = finalizes s (head_now v) m l (fresh_of (round.Finalize m l) v s calls i up k) heeded k.due.1 in
    record {
      kind = ap (fits_round (round.Finalize m l)) f.passed.reply;
      after = record {
        bound = f.promise;
        serial = omega (arith, f.serial);
        had = up_to_kept s (Finalize (head_now v) m l) m sane.sound sane.durable tt k.due.0;
        old = old_after v s (node_step s (Finalize (head_now v) m l)).state calls i (Finalize (head_now v) m l) refl k.serial f.serial k.old;
      };
    }
serves round.Start v s calls i up sane then k heeded =
    let f : HasStarted s (head_now v) v.start = starts s (head_now v) v.start (fresh_of round.Start v s calls i up k) heeded k.due (λ g is e. (sane.durable.segments v.start g is).final_edit e) in
    record {
      kind = ap (fits_round round.Start) f.left.passed.reply;
      after = record {
        bound = f.left.promise;
        serial = omega (arith, f.left.serial);
        had = f.opened;
        old = old_after v s (node_step s (Start (head_now v) v.start)).state calls i (Start (head_now v) v.start) refl k.serial f.left.serial k.old;
      };
    }
serves round.Open v s calls i up sane then k heeded =
    let f : Left s (Journal (head_now v) v.start (batch_from v.start start_record)) (head_now v) =
    opens s (head_now v) v.start (batch_from v.start start_record) (fresh_of round.Open v s calls i up k) heeded refl k.due in
    record {
      kind = ap (fits_round round.Open) f.passed.reply;
      after = record {
        bound = f.promise;
        serial = omega (arith, f.serial);
        had = tt;
        old = old_after v s (node_step s (Journal (head_now v) v.start (batch_from v.start start_record))).state calls i
            (Journal (head_now v) v.start (batch_from v.start start_record)) refl k.serial f.serial k.old;
      };
    }
