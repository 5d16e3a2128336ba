-- What is seen of an event, and what it changes.
use Rattle.std.proofs.Common.{◌≡◌, ◌≢◌, ℕ, ◌⊎◌, ◌↔◌, ◌==◌, ◌&&◌, ◌||◌, inl, inr, List, [], ◌∷◌, Bool, true, false, refl, sym, ap, ◌∙◌, Option, Some, None}
use Rattle.std.proofs.lemmas.Bool.{and_parts, or_cases, eqb-true, eq-eqb, or_right}
use Rattle.journal_core.specs.declared.request.Request.{Request}
use Rattle.writer_core.specs.declared.task.Task.{Task}
use Rattle.writer_core.specs.declared.task.Begun.{Begun}
use Rattle.writer_core.specs.declared.task.Begun.TheVariants as begun
use Rattle.writer_core.specs.Views.{WriterView}
use Rattle.writer_core.specs.Writer.{next_call, is_under_way, writer_begun}
use Rattle.journal_history.specs.declared.stop.Stop.{Stop}
use Rattle.run_safety.specs.declared.event.Fate.{Fate}
use Rattle.run_safety.specs.declared.event.Event.{Event}
use Rattle.run_safety.specs.declared.event.Event.TheVariants.{Begin, Call, Late, Kill, Restart, Arm, GiveUp, Checkpoint}
use Rattle.run_world.specs.declared.seen.Seen.TheVariants.{Idle, NotNext}
use Rattle.journal_history.specs.declared.node_ask.NodeAsk.{NodeAsk}
use Rattle.journal_history.specs.declared.node_ask.NodeAsk.TheVariants as ask
use Rattle.journal_history.specs.declared.node_ask.NodeAnswer.{NodeAnswer}
use Rattle.journal_history.specs.declared.node_ask.NodeAnswer.TheVariants as answer
use Rattle.journal_history.specs.Cell.{Cell, cell_takes, take_kill, started_again, take_arming}
use Rattle.journal_history.specs.Same.{same_request}
use Rattle.run_world.specs.WorldLaws.{IsAmong, SeesExactly}
use Rattle.run_safety.specs.Actings.{CallMade, was_made}
use Rattle.run_world.specs.World.{World, Stepped, cell_at, acting_at, taken_at, task_begun, task_begins, called_by, is_reading, is_call, copied_when, seen_of, take_operation, world_step}
use Rattle.run_safety.proofs.Slots.{true≢false}
use Rattle.journal_history.proofs.SameLaws.{request_same, request_self}
use Rattle.run_world.proofs.WorldRuns.{call_is}

-- it was not next, or the world is as it was
abbrev IsSame : World → Stepped → Type 0
IsSame w s = s.seen ≡ NotNext → s.world ≡ w

begun_same : (w : World) (c : ℕ) (b : Begun) (v : WriterView) → IsSame w (task_begun b c v w)
begun_same w c begun.Going v e = absurd (cc e)
begun_same w c begun.NotActive v e = refl
begun_same w c (begun.TooLong number) v e = refl

task_same : (w : World) (c : ℕ) (t : Task) (b : Bool) → IsSame w (task_begins b c t w)
task_same w c t true e = refl
task_same w c t false e = begun_same w c (writer_begun (acting_at c w).writer t).begun (writer_begun (acting_at c w).writer t).writer e

called_same : (w : World) (c node : ℕ) (r : Request) (f : Fate) (b d : Bool) → IsSame w (called_by b d f c node r w)
called_same w c node r f true d e = absurd (cc e)
called_same w c node r f false true e = absurd (cc e)
called_same w c node r f false false e = refl

copied_same : (w : World) (c node : ℕ) (r : Request) (stop : Option ℕ) (b : Bool) → IsSame w (copied_when b c node r stop w)
copied_same w c node r stop true e = absurd (cc e)
copied_same w c node r stop false e = refl

seen_next : (a : NodeAnswer) → seen_of a ≡ NotNext → ⊥
seen_next (answer.Replied reply) e = cc e
seen_next (answer.Stopped keep) e = cc e
seen_next answer.Done e = cc e
seen_next answer.Idle e = cc e
seen_next (answer.NotOpened fail) e = cc e

operated_same : (w : World) (node : ℕ) (q : NodeAsk) → IsSame w (take_operation node q w)
operated_same w node q e = absurd (seen_next (taken_at node None q w).answer e)

pub unchanged : (w : World) (e : Event) → (world_step w e).seen ≡ NotNext → (world_step w e).world ≡ w
unfolding world_step
unchanged w (Begin c t) e = task_same w c t (is_under_way (acting_at c w).writer.phase) e
unchanged w (Call c node r f) e = called_same w c node r f (is_reading r) (is_call node r (next_call (acting_at c w).writer)) e
unchanged w (Late c node r stop) e = copied_same w c node r stop (was_made node r (acting_at c w).calls) e
unchanged w (Kill node) e = operated_same w node ask.Kill e
unchanged w (Restart node) e = operated_same w node ask.Restart e
unchanged w (Arm node calls stop) e = operated_same w node (ask.Arm calls stop) e
unchanged w (GiveUp c) e = absurd (cc e)
unchanged w (Checkpoint c) e = absurd (cc e)

-- ## Exactly which
begun_exactly : (w : World) (c : ℕ) (b : Begun) (v : WriterView) → ((task_begun b c v w).seen ≡ NotNext) ↔ (b ≢ begun.Going)
begun_exactly w c begun.Going v = ((λ e. absurd (cc e)), (λ off. absurd (off refl)))
begun_exactly w c begun.NotActive v = ((λ e f. absurd (cc f)), (λ off. refl))
begun_exactly w c (begun.TooLong number) v = ((λ e f. absurd (cc f)), (λ off. refl))

begin_exactly : (w : World) (c : ℕ) (t : Task) (b : Bool) → ((task_begins b c t w).seen ≡ NotNext) ↔ ((b ≡ true) ⊎ ((writer_begun (acting_at c w).writer t).begun ≢ begun.Going))
begin_exactly w c t true = ((λ e. inl refl), (λ x. refl))
begin_exactly w c t false =
    let g = begun_exactly w c (writer_begun (acting_at c w).writer t).begun (writer_begun (acting_at c w).writer t).writer in
    ((λ e. inr (g.0 e)), (λ x. elim x [ inl f ↦ true≢false (sym f) | inr off ↦ g.1 off ]))

is_next : (node : ℕ) (r : Request) (o : Option (ℕ × Request)) → o ≡ Some (node, r) → is_call node r o ≡ true
is_next node r o e = ap (is_call node r) e ∙ (ap (λ b. b && same_request r r) (eq-eqb node node refl) ∙ request_self r)

call_exactly : (w : World) (c node : ℕ) (r : Request) (f : Fate) (b d : Bool) → is_call node r (next_call (acting_at c w).writer) ≡ d
    → ((called_by b d f c node r w).seen ≡ NotNext) ↔ ((b ≡ false) × (next_call (acting_at c w).writer ≢ Some (node, r)))
call_exactly w c node r f true d is = ((λ e. absurd (cc e)), (λ x. true≢false x.0))
call_exactly w c node r f false true is = ((λ e. absurd (cc e)), (λ x. absurd (x.1 (call_is node r (next_call (acting_at c w).writer) is))))
call_exactly w c node r f false false is = ((λ e. (refl, λ at. true≢false (sym (is_next node r (next_call (acting_at c w).writer) at) ∙ is))), (λ x. refl))

made_among : (node : ℕ) (r : Request) (xs : List CallMade) → was_made node r xs ≡ true → IsAmong node r xs
made_among node r [] e = true≢false (sym e)
made_among node r (x ∷ xs) e = elim (or_cases _ (was_made node r xs) e) [
  | inl f ↦ (let p = and_parts _ (same_request x.request r) f in
      let at : x.node ≡ node = eqb-true x.node node p.0 in
      let same : x.request ≡ r = request_same x.request r p.1 in
      inl (ap (λ z. record { node = z; request = x.request }) at ∙ ap (λ z. record { node = node; request = z }) same))
  | inr f ↦ inr (made_among node r xs f)
]

among_made : (node : ℕ) (r : Request) (xs : List CallMade) → IsAmong node r xs → was_made node r xs ≡ true
among_made node r [] m = absurd m
among_made node r (x ∷ xs) (inl e) =
    ap (λ (z : CallMade). ((z.node == node) && same_request z.request r) || was_made node r xs) e
    ∙ ap (λ b. (b && same_request r r) || was_made node r xs) (eq-eqb node node refl) ∙ ap (λ b. b || was_made node r xs) (request_self r)
among_made node r (x ∷ xs) (inr m) = or_right ((x.node == node) && same_request x.request r) (was_made node r xs) (among_made node r xs m)

late_exactly : (w : World) (c node : ℕ) (r : Request) (stop : Option ℕ) (b : Bool) → was_made node r (acting_at c w).calls ≡ b
    → ((copied_when b c node r stop w).seen ≡ NotNext) ↔ (IsAmong node r (acting_at c w).calls → ⊥)
late_exactly w c node r stop true e = ((λ f. absurd (cc f)), (λ off. absurd (off (made_among node r (acting_at c w).calls e))))
late_exactly w c node r stop false e = ((λ f m. true≢false (sym (among_made node r (acting_at c w).calls m) ∙ e)), (λ off. refl))

kill_exactly : (c : Cell) (b : Bool) → (seen_of (take_kill b c).answer ≡ Idle) ↔ (b ≡ false)
kill_exactly c true = ((λ e. absurd (cc e)), (λ e. true≢false e))
kill_exactly c false = ((λ e. refl), (λ e. refl))

restart_exactly : (c : Cell) (b : Bool) → (seen_of (started_again b c).answer ≡ Idle) ↔ (b ≡ true)
restart_exactly c true = ((λ e. refl), (λ e. refl))
restart_exactly c false = ((λ e. absurd (cc e)), (λ e. true≢false (sym e)))

arm_exactly : (c : Cell) (calls : ℕ) (stop : Stop) (b : Bool) → (seen_of (take_arming b c (record { calls = calls; stop = stop })).answer ≡ Idle) ↔ (b ≡ false)
arm_exactly c calls stop true = ((λ e. absurd (cc e)), (λ e. true≢false e))
arm_exactly c calls stop false = ((λ e. refl), (λ e. refl))

pub exactly : (w : World) → SeesExactly w
unfolding world_step cell_takes
exactly w = record {
  begin = λ c t. begin_exactly w c t (is_under_way (acting_at c w).writer.phase);
  call = λ c node r f. call_exactly w c node r f (is_reading r) (is_call node r (next_call (acting_at c w).writer)) refl;
  late = λ c node r stop. late_exactly w c node r stop (was_made node r (acting_at c w).calls) refl;
  kill = λ node. kill_exactly (cell_at node w) (cell_at node w).state.up;
  restart = λ node. restart_exactly (cell_at node w) (cell_at node w).state.up;
  arm = λ node calls stop. arm_exactly (cell_at node w) calls stop (cell_at node w).state.up;
}
