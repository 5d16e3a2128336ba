-- What reaches a cell, as an entry of a run: the node is moved by it, or is as it was.
use Rattle.std.proofs.Common.{◌≡◌, ◌≢◌, ℕ, ◌-◌, ◌<◌, ◌≤◌, Bool, true, false, cond, nat_lt, List, length, refl, sym, ap, ◌∙◌, Option, Some, None, is_some}
use Rattle.journal_core.specs.declared.node_state.NodeState.{NodeState}
use Rattle.journal_core.specs.declared.request.Request.{Request}
use Rattle.journal_core.specs.declared.refusal.Refusal.{Refusal}
use Rattle.journal_core.specs.declared.reply.Reply.{Reply}
use Rattle.journal_core.specs.declared.reply.Reply.TheVariants.{Refused}
use Rattle.journal_core.specs.Effects.{Effect, after_effects}
use Rattle.journal_core.specs.Step.{node_step, effects_of, stopped, crashed, restarted}
use Rattle.journal_history.specs.declared.stop.Stop.{Stop as StopAt}
use Rattle.journal_history.specs.declared.node_ask.NodeAsk.{NodeAsk}
use Rattle.journal_history.specs.declared.node_ask.NodeAsk.TheVariants as ask
use Rattle.journal_history.specs.declared.node_ask.NodeAnswer.{NodeAnswer}
use Rattle.journal_history.specs.declared.node_ask.NodeAnswer.TheVariants as answer
use Rattle.journal_history.specs.declared.arming.Arming.{Arming}
use Rattle.journal_history.specs.Cell.{Cell, Taken, kept_by, replies, stops, count_request, take_request, take_kill as cell_killed, started_again, take_arming, cell_takes}
use Rattle.journal_history.specs.Entries.{Move, Answer, Stop, Kill, Restart, after_move}
use Rattle.journal_history.specs.Moving.{epoch_of, moves, way_of, move_of}
use Rattle.journal_history.proofs.Stops.{kept_within}
use Rattle.journal_history.proofs.Moves.{Went, stays, goes, went, effects_epoch}
use Rattle.run_safety.proofs.Fair.{IsDue}

-- ## A request
-- an answer, or a stop after some effects
pub data Asked (s : NodeState) (r : Request) (t : Taken) : Type 0 where
  replied : t.answer ≡ answer.Replied (node_step s r).reply → t.cell.state ≡ (node_step s r).state → Asked s r t
  cut_off : (keep : ℕ) → t.answer ≡ answer.Stopped keep → t.cell.state ≡ stopped s r keep → s.up ≡ true → keep ≤ length (effects_of s r) → Asked s r t

asked_counted : (s : NodeState) (r : Request) (a : Option Arming) → s.up ≡ true → Asked s r (count_request s r a)
asked_counted s r None up = replied refl refl
asked_counted s r (Some a) up = by (nat_lt 1 a.calls)
  where
    by : (b : Bool) → Asked s r (cond b (replies s r (Some (record a { calls = a.calls - 1 }))) (stops s r (kept_by a.stop s r)))
    by true = replied refl refl
    by false = cut_off (kept_by a.stop s r) refl refl up (kept_within a.stop s r)

pub asked : (c : Cell) (late : Bool) (r : Request) → Asked c.state r (cell_takes c (ask.Act late r))
unfolding cell_takes
asked c late r = by c.state.up refl
  where
    by : (b : Bool) → c.state.up ≡ b → Asked c.state r (take_request b c r)
    by true e = asked_counted c.state r c.arming e
    by false e = replied refl refl

-- What a request left: nothing, the entry of an answer, or the entry of a stop. `t` is the state
-- after it.
pub data Entered (s t : NodeState) (caller : ℕ) (muted late : Bool) (r : Request) (a : NodeAnswer) : Type 0 where
  quiet : (x : Reply) → a ≡ answer.Replied x → move_of caller muted (ask.Act late r) a ≡ None → t ≡ s → (is_some (epoch_of r) ≡ true → (f : Refusal) × (x ≡ Refused f))
      → Entered s t caller muted late r a
  answered : (x : Reply) → a ≡ answer.Replied x → move_of caller muted (ask.Act late r) a ≡ Some (Answer caller (way_of late muted) r x) → (node_step s r).reply ≡ x
      → t ≡ (node_step s r).state → t ≢ s → is_some (epoch_of r) ≡ true → Entered s t caller muted late r a
  cut : (keep : ℕ) → a ≡ answer.Stopped keep → move_of caller muted (ask.Act late r) a ≡ Some (Stop caller late r keep) → s.up ≡ true → keep ≤ length (effects_of s r)
      → t ≡ stopped s r keep → t ≢ s → (0 < keep → is_some (epoch_of r) ≡ true) → Entered s t caller muted late r a

test_move : (caller : ℕ) (muted late : Bool) (r : Request) (x : Reply) (b : Bool) → moves r x ≡ b
    → move_of caller muted (ask.Act late r) (answer.Replied x) ≡ cond b (Some (Answer caller (way_of late muted) r x)) None
unfolding move_of
test_move caller muted late r x b e = ap (λ (c : Bool). cond c (Some (Answer caller (way_of late muted) r x)) None) e

up_after : (s : NodeState) (es : List Effect) → s.up ≡ true → crashed (after_effects s es) ≢ s
up_after s es up same = let e : false ≡ s.up = ap (λ (x : NodeState). x.up) same in absurd (cc (e, up))

entered_by : (s : NodeState) (t : Taken) (caller : ℕ) (muted late : Bool) (r : Request) → Asked s r t → Went s r → Entered s t.cell.state caller muted late r t.answer
unfolding move_of
entered_by s t caller muted late r (replied a e) (stays m same refused) =
    let x : Reply = (node_step s r).reply in
    quiet x a (ap (move_of caller muted (ask.Act late r)) a ∙ test_move caller muted late r x false m) (e ∙ same) refused
entered_by s t caller muted late r (replied a e) (goes m off some) =
    let x : Reply = (node_step s r).reply in
    answered x a (ap (move_of caller muted (ask.Act late r)) a ∙ test_move caller muted late r x true m) refl e (λ same. off (sym e ∙ same)) some
entered_by s t caller muted late r (cut_off keep a e up le) w =
    cut keep a (ap (move_of caller muted (ask.Act late r)) a) up le e
    (λ same. up_after s _ up (sym e ∙ same))
    (λ lt. effects_epoch s r keep le lt)

pub entered : (c : Cell) (caller : ℕ) (muted late : Bool) (r : Request)
    → Entered c.state (cell_takes c (ask.Act late r)).cell.state caller muted late r (cell_takes c (ask.Act late r)).answer
entered c caller muted late r = entered_by c.state (cell_takes c (ask.Act late r)) caller muted late r (asked c late r) (went c.state r)

-- ## An operation
pub data Operated (s t : NodeState) (m : Option Move) : Type 0 where
  nothing : m ≡ None → t ≡ s → Operated s t m
  killed : m ≡ Some Kill → s.up ≡ true → t ≡ crashed s → t ≢ s → Operated s t m
  again : m ≡ Some Restart → s.up ≡ false → t ≡ restarted s → t ≢ s → Operated s t m

pub kills : (c : Cell) (caller : ℕ) (muted : Bool) → Operated c.state (cell_takes c ask.Kill).cell.state (move_of caller muted ask.Kill (cell_takes c ask.Kill).answer)
unfolding cell_takes move_of
kills c caller muted = by c.state.up refl
  where
    by : (b : Bool) → c.state.up ≡ b → Operated c.state (cell_killed b c).cell.state (move_of caller muted ask.Kill (cell_killed b c).answer)
    by true e = killed refl e refl (λ same. let f : false ≡ c.state.up = ap (λ (x : NodeState). x.up) same in absurd (cc (e, f)))
    by false e = nothing refl refl

pub restarts : (c : Cell) (caller : ℕ) (muted : Bool) → Operated c.state (cell_takes c ask.Restart).cell.state (move_of caller muted ask.Restart (cell_takes c ask.Restart).answer)
unfolding cell_takes move_of
restarts c caller muted = by c.state.up refl
  where
    by : (b : Bool) → c.state.up ≡ b → Operated c.state (started_again b c).cell.state (move_of caller muted ask.Restart (started_again b c).answer)
    by true e = nothing refl refl
    by false e = again refl e refl (λ same. let f : true ≡ c.state.up = ap (λ (x : NodeState). x.up) same in absurd (cc (e, f)))

pub arms : (c : Cell) (caller calls : ℕ) (muted : Bool) (x : StopAt)
    → Operated c.state (cell_takes c (ask.Arm calls x)).cell.state (move_of caller muted (ask.Arm calls x) (cell_takes c (ask.Arm calls x)).answer)
unfolding cell_takes move_of
arms c caller calls muted x = by c.state.up
  where
    by : (b : Bool) → Operated c.state (take_arming b c (record { calls = calls; stop = x })).cell.state
        (move_of caller muted (ask.Arm calls x) (take_arming b c (record { calls = calls; stop = x })).answer)
    by true = nothing refl refl
    by false = nothing refl refl

-- ## Any line: what it did to its node
pub data Did (s t : NodeState) (o : Option Move) : Type 0 where
  still : o ≡ None → t ≡ s → Did s t o
  gone : (v : Move) → o ≡ Some v → IsDue s v → t ≡ after_move s v → t ≢ s → Did s t o

asked_did : (c : Cell) (caller : ℕ) (muted late : Bool) (r : Request)
    → Did c.state (cell_takes c (ask.Act late r)).cell.state (move_of caller muted (ask.Act late r) (cell_takes c (ask.Act late r)).answer)
asked_did c caller muted late r = by (entered c caller muted late r)
  where
    by : Entered c.state (cell_takes c (ask.Act late r)).cell.state caller muted late r (cell_takes c (ask.Act late r)).answer
        → Did c.state (cell_takes c (ask.Act late r)).cell.state (move_of caller muted (ask.Act late r) (cell_takes c (ask.Act late r)).answer)
    by (quiet x a none same refused) = still none same
    by (answered x a is reply same off some) = gone (Answer caller (way_of late muted) r x) is reply same off
    by (cut keep a is up le same off some) = gone (Stop caller late r keep) is (up, le) same off

operated_did : (s t : NodeState) (o : Option Move) → Operated s t o → Did s t o
operated_did s t o (nothing is same) = still is same
operated_did s t o (killed is up same off) = gone Kill is up same off
operated_did s t o (again is up same off) = gone Restart is up same off

pub line_did : (c : Cell) (a : NodeAsk) (caller : ℕ) (muted : Bool) → Did c.state (cell_takes c a).cell.state (move_of caller muted a (cell_takes c a).answer)
line_did c (ask.Act late r) caller muted = asked_did c caller muted late r
line_did c ask.Kill caller muted = operated_did c.state (cell_takes c ask.Kill).cell.state (move_of caller muted ask.Kill (cell_takes c ask.Kill).answer) (kills c caller muted)
line_did c ask.Restart caller muted = operated_did c.state (cell_takes c ask.Restart).cell.state (move_of caller muted ask.Restart (cell_takes c ask.Restart).answer) (restarts c caller muted)
line_did c (ask.Arm calls stop) caller muted =
    operated_did c.state (cell_takes c (ask.Arm calls stop)).cell.state (move_of caller muted (ask.Arm calls stop) (cell_takes c (ask.Arm calls stop)).answer) (arms c caller calls muted stop)
