-- A request that moved a node, and did more than stop it, leaves the node with the request's epoch
-- as its promise.
use Rattle.std.proofs.Common.{◌≡◌, ℕ, zero, suc, ◌<◌, ◌≤◌, max, List, [], ◌∷◌, ◌++◌, Bool, true, false, not, cond, refl, sym, ap, ◌∙◌, subst, arith, length, take, ◌⊎◌, inl, inr}
use Rattle.std.specs.Prelude.{Option, Some, None, is_some, ◌&&◌, nat_lt, nat_le}
use Rattle.std.proofs.lemmas.Bool.Decides.{nat_tests}
use Rattle.journal_core.specs.Views.{HeadView}
use Rattle.journal_core.specs.declared.node_state.NodeState.{NodeState}
use Rattle.journal_core.specs.declared.request.Request.{Request}
use Rattle.journal_core.specs.declared.request.Request.TheVariants as request
use Rattle.journal_core.specs.declared.refusal.Refusal.{Refusal}
use Rattle.journal_core.specs.declared.refusal.Refusal.TheVariants as refusal
use Rattle.journal_core.specs.Limits.{head_of}
use Rattle.journal_core.specs.Effects.{Effect, Promise, after_effect, after_effects}
use Rattle.journal_core.specs.Step.{refused_at_once, front_effects, fronted, row_refused, step_after_front, unless_refused, node_step, effects_after, effects_unless, effects_of, stopped}
use Rattle.journal_history.specs.declared.node_ask.NodeAsk.{NodeAsk}
use Rattle.journal_history.specs.declared.node_ask.NodeAsk.TheVariants.{Act, Kill, Restart, Arm}
use Rattle.journal_history.specs.declared.node_ask.NodeAnswer.{NodeAnswer}
use Rattle.journal_history.specs.declared.node_ask.NodeAnswer.TheVariants as answer
use Rattle.journal_history.specs.Cell.{Cell, Taken, kept_by, replies, stops, take_kill, started_again, take_arming, take_request, cell_takes}
use Rattle.journal_history.specs.Entries as entry
use Rattle.journal_history.specs.Entries.{Move}
use Rattle.journal_history.specs.Moving.{epoch_of, is_refused_at_once, is_proposal, moves, way_of, move_of, falls}
use Rattle.journal_history.proofs.Fronts.{IsQuiet, quiet_promise, at_once}
use Rattle.journal_history.proofs.Requests.{Sort, Reads, Proposes, Heads, sort_of, Fronted, behind, front_passes}
use Rattle.journal_history.proofs.Stops.{quiet_take, after_quiet, read_by, kept_within}
use Rattle.journal_history.proofs.CellLaws.{CallIs, call_is}

-- the promise afterwards is the request's epoch, and a proposal's was above the promise before
pub record Raised (before after : ℕ) (r : Request) : Type 0 where
  pub epoch : ℕ
  pub of : epoch_of r ≡ Some epoch
  pub is : after ≡ epoch
  pub rises : is_proposal r ≡ true → before < epoch

-- ## By a reply
propose_by : (b : Bool) (s : NodeState) (epoch : ℕ) → nat_le epoch s.promised ≡ b
    → is_refused_at_once (step_after_front (fronted s (request.NewEpoch epoch)) (request.NewEpoch epoch) (cond b (Some (refusal.EpochRefused s.promised)) None)).reply ≡ false
    → Raised s.promised (step_after_front (fronted s (request.NewEpoch epoch)) (request.NewEpoch epoch) (cond b (Some (refusal.EpochRefused s.promised)) None)).state.promised (request.NewEpoch epoch)
unfolding after_effects epoch_of
propose_by true s epoch is e = absurd (cc e)
propose_by false s epoch is e = record { epoch = epoch; of = refl; is = refl; rises = λ p. grind (arith, nat_tests, is) }

heads_no_proposal : (r : Request) (h : HeadView) → head_of r ≡ Some h → is_proposal r ≡ false
heads_no_proposal request.State h e = refl
heads_no_proposal (request.NewEpoch epoch) h e = absurd (cc e)
heads_no_proposal (request.Start head start) h e = refl
heads_no_proposal (request.Journal head start batch) h e = refl
heads_no_proposal (request.Finalize head start end) h e = refl
heads_no_proposal (request.Prepare head start) h e = refl
heads_no_proposal (request.Fetch head start from) h e = refl
heads_no_proposal (request.Accept head batch) h e = refl
heads_no_proposal (request.Purge head min) h e = refl
heads_no_proposal (request.Read from) h e = refl
heads_no_proposal request.Manifest h e = refl

passed : (s : NodeState) (h : HeadView) → (s.promised < h.epoch) ⊎ ((s.promised ≡ h.epoch) × (s.serial < h.serial)) → max s.promised h.epoch ≡ h.epoch
passed s h (inl l) = omega (arith, l)
passed s h (inr e) = omega (arith, e.0)

reply_by : (s : NodeState) (r : Request) (o : Option Refusal) → Sort r → refused_at_once s r ≡ o → moves r (unless_refused s r o).reply ≡ true
    → Raised s.promised (unless_refused s r o).state.promised r
unfolding moves
reply_by s r (Some f) x is e = absurd (cc (rw (at_once s r f is) at (and_right (is_some (epoch_of r)) _ e)))
  where
    and_right : (b c : Bool) → (b && c) ≡ true → c ≡ true
    and_right true c e = e
    and_right false c e = absurd (cc e)
reply_by s _ None (Reads r none same) is e = absurd (cc (rw none at e))
reply_by s _ None (Proposes epoch) is e = unfold epoch_of in propose_by (nat_le epoch s.promised) s epoch refl (not_true (is_refused_at_once _) e)
  where
    not_true : (b : Bool) → not b ≡ true → b ≡ false
    not_true true e = absurd (cc e)
    not_true false e = refl
reply_by s _ None (Heads r h head epoch then replies) is e =
    let f : Fronted s h (step_after_front (fronted s r) r (row_refused (fronted s r) r)).state = behind s r h (row_refused (fronted s r) r) head then in
    record {
      epoch = h.epoch;
      of = epoch;
      is = f.promised ∙ passed s h (front_passes s r h head is);
      rises = λ p. absurd (cc (p, heads_no_proposal r h head));
    }

raised_reply : (s : NodeState) (r : Request) → moves r (node_step s r).reply ≡ true → Raised s.promised (node_step s r).state.promised r
unfolding node_step
raised_reply s r e = reply_by s r (refused_at_once s r) (sort_of r) refl e

-- ## By a stop after some effect
front_by : (b : Bool) (s : NodeState) (epoch : ℕ) (es : List Effect) (n : ℕ) → nat_lt s.promised epoch ≡ b → IsQuiet es → max s.promised epoch ≡ epoch
    → suc n ≤ length (cond b (Promise epoch ∷ []) [] ++ es)
    → (after_effects s (take (suc n) (cond b (Promise epoch ∷ []) [] ++ es))).promised ≡ epoch
unfolding after_effects
front_by true s epoch es n is q m l = quiet_promise (take n es) (after_effect s (Promise epoch)) (quiet_take n es q)
front_by false s epoch es n is q m l =
    let same : s.promised ≡ epoch = grind (arith, nat_tests, is, m) in
    quiet_promise (take (suc n) es) s (quiet_take (suc n) es q) ∙ same

head_front : (o : Option HeadView) (s : NodeState) (h : HeadView) (es : List Effect) (n : ℕ) → o ≡ Some h → IsQuiet es → max s.promised h.epoch ≡ h.epoch → suc n ≤ length (front_effects s o ++ es)
    → (after_effects s (take (suc n) (front_effects s o ++ es))).promised ≡ h.epoch
head_front None s h es n e q m l = absurd (cc e)
head_front (Some g) s h es n e q m l =
    let same : g ≡ h = cc e in
    front_by (nat_lt s.promised g.epoch) s g.epoch es n refl q (subst (λ (x : HeadView). max s.promised x.epoch ≡ x.epoch) (sym same) m) l ∙ ap (λ (x : HeadView). x.epoch) same

no_effect : (n : ℕ) → suc n ≤ 0 → ⊥
no_effect n l = omega (arith, l)

propose_stop : (b : Bool) (s : NodeState) (epoch n : ℕ) → nat_le epoch s.promised ≡ b
    → suc n ≤ length (effects_after (fronted s (request.NewEpoch epoch)) (request.NewEpoch epoch)
    (cond b (Some (refusal.EpochRefused s.promised)) None))
    → Raised s.promised (after_effects s (take (suc n) (effects_after (fronted s (request.NewEpoch epoch)) (request.NewEpoch epoch)
    (cond b (Some (refusal.EpochRefused s.promised)) None)))).promised (request.NewEpoch epoch)
unfolding after_effects epoch_of
propose_stop true s epoch n is l = absurd (no_effect n l)
propose_stop false s epoch zero is l = record { epoch = epoch; of = refl; is = refl; rises = λ p. grind (arith, nat_tests, is) }
propose_stop false s epoch (suc n) is l = absurd (omega (arith, l))

stop_by : (s : NodeState) (r : Request) (o : Option Refusal) (n : ℕ) → Sort r → refused_at_once s r ≡ o → suc n ≤ length (effects_unless s r o)
    → Raised s.promised (after_effects s (take (suc n) (effects_unless s r o))).promised r
stop_by s r (Some f) n x is l = absurd (no_effect n l)
stop_by s _ None n (Reads r none same) is l = absurd (no_effect n (subst (λ (es : List Effect). suc n ≤ length es) (read_by s r none) l))
stop_by s _ None n (Proposes epoch) is l = propose_stop (nat_le epoch s.promised) s epoch n refl l
stop_by s _ None n (Heads r h head epoch then replies) is l = record {
  epoch = h.epoch;
  of = epoch;
  is = head_front (head_of r) s h (effects_after (fronted s r) r (row_refused (fronted s r) r)) n head
      (after_quiet (fronted s r) r h (row_refused (fronted s r) r) head) (passed s h (front_passes s r h head is)) l;
  rises = λ p. absurd (cc (p, heads_no_proposal r h head));
}

raised_stop : (s : NodeState) (r : Request) (n : ℕ) → suc n ≤ length (effects_of s r) → Raised s.promised (stopped s r (suc n)).promised r
unfolding effects_of
raised_stop s r n l = stop_by s r (refused_at_once s r) n (sort_of r) refl l

-- ## At a cell: what moves and doesn't merely fall
pub record CellRaised (c : Cell) (ask : NodeAsk) : Type 0 where
  pub late : Bool
  pub request : Request
  pub asks : ask ≡ Act late request
  pub raised : Raised c.state.promised (cell_takes c ask).cell.state.promised request

if_moves : (b : Bool) (m n : Move) → cond b (Some m) None ≡ Some n → b ≡ true
if_moves true m n e = refl
if_moves false m n e = absurd (cc e)

stop_move : (c : Cell) (late : Bool) (r : Request) (caller keep : ℕ) (m : Move) → entry.Stop caller late r keep ≡ m → falls m ≡ false
    → keep ≤ length (effects_of c.state r) → Raised c.state.promised (stopped c.state r keep).promised r
stop_move c late r caller zero m e off l = absurd (cc (ap falls e, off))
stop_move c late r caller (suc n) m e off l = raised_stop c.state r n l

call_raised : (c : Cell) (late muted : Bool) (caller : ℕ) (r : Request) (x : Taken) (m : Move) → CallIs c.state r x
    → move_of caller muted (Act late r) x.answer ≡ Some m → falls m ≡ false → Raised c.state.promised x.cell.state.promised r
unfolding CallIs move_of
call_raised c late muted caller r x m (inl g) e off =
    let f : move_of caller muted (Act late r) (replies c.state r g.0).answer ≡ Some m = subst (λ (y : Taken). move_of caller muted (Act late r) y.answer ≡ Some m) g.1 e in
    subst (λ (y : Taken). Raised c.state.promised y.cell.state.promised r) (sym g.1)
    (raised_reply c.state r (if_moves (moves r (node_step c.state r).reply) (entry.Answer caller (way_of late muted) r (node_step c.state r).reply) m f))
call_raised c late muted caller r x m (inr g) e off =
    let keep : ℕ = kept_by g.1 c.state r in
    let f : move_of caller muted (Act late r) (stops c.state r keep).answer ≡ Some m = subst (λ (y : Taken). move_of caller muted (Act late r) y.answer ≡ Some m) g.2 e in
    let is : entry.Stop caller late r keep ≡ m = cc f in
    subst (λ (y : Taken). Raised c.state.promised y.cell.state.promised r) (sym g.2) (stop_move c late r caller keep m is off (kept_within g.1 c.state r))

other_falls : (caller : ℕ) (muted : Bool) (a : NodeAnswer) (m : Move) → (ask : NodeAsk) → ((late : Bool) (r : Request) → ask ≡ Act late r → ⊥) → move_of caller muted ask a ≡ Some m → falls m ≡ true
unfolding move_of
other_falls caller muted a m (Act late r) other e = absurd (other late r refl)
other_falls caller muted answer.Done m Kill other e = let is : entry.Kill ≡ m = cc e in ap falls (sym is)
other_falls caller muted (answer.Replied reply) m Kill other e = absurd (cc e)
other_falls caller muted (answer.Stopped keep) m Kill other e = absurd (cc e)
other_falls caller muted answer.Idle m Kill other e = absurd (cc e)
other_falls caller muted (answer.NotOpened fail) m Kill other e = absurd (cc e)
other_falls caller muted answer.Done m Restart other e = let is : entry.Restart ≡ m = cc e in ap falls (sym is)
other_falls caller muted (answer.Replied reply) m Restart other e = absurd (cc e)
other_falls caller muted (answer.Stopped keep) m Restart other e = absurd (cc e)
other_falls caller muted answer.Idle m Restart other e = absurd (cc e)
other_falls caller muted (answer.NotOpened fail) m Restart other e = absurd (cc e)
other_falls caller muted (answer.Replied reply) m (Arm calls stop) other e = absurd (cc e)
other_falls caller muted (answer.Stopped keep) m (Arm calls stop) other e = absurd (cc e)
other_falls caller muted answer.Done m (Arm calls stop) other e = absurd (cc e)
other_falls caller muted answer.Idle m (Arm calls stop) other e = absurd (cc e)
other_falls caller muted (answer.NotOpened fail) m (Arm calls stop) other e = absurd (cc e)

pub cell_raised : (c : Cell) (ask : NodeAsk) (caller : ℕ) (muted : Bool) (m : Move) → move_of caller muted ask (cell_takes c ask).answer ≡ Some m → falls m ≡ false → CellRaised c ask
unfolding cell_takes
cell_raised c (Act late r) caller muted m e off = record { late = late; request = r; asks = refl; raised = call_raised c late muted caller r (take_request c.state.up c r) m (call_is c r) e off }
cell_raised c Kill caller muted m e off = absurd (cc (other_falls caller muted (take_kill c.state.up c).answer m Kill (λ l r f. absurd (cc f)) e, off))
cell_raised c Restart caller muted m e off = absurd (cc (other_falls caller muted (started_again c.state.up c).answer m Restart (λ l r f. absurd (cc f)) e, off))
cell_raised c (Arm calls stop) caller muted m e off =
    absurd (cc (
      other_falls caller muted (take_arming c.state.up c (record { calls = calls; stop = stop })).answer m (Arm calls stop)
          (λ l r f. absurd (cc f)) e,
      off,
    ))
