-- A node with its arming: the promise never falls, what does not move leaves the state, and what
-- moves is a move of the node.
use Rattle.std.proofs.Common.{◌≡◌, ◌≢◌, ℕ, ◌-◌, ◌≤◌, Bool, true, false, cond, refl, sym, ap, ◌∙◌, subst, arith, ◌⊎◌, inl, inr}
use Rattle.std.specs.Prelude.{Option, Some, None, nat_lt}
use Rattle.journal_core.specs.declared.node_state.NodeState.{NodeState}
use Rattle.journal_core.specs.declared.request.Request.{Request}
use Rattle.journal_core.specs.Step.{node_step, stopped, crashed, restarted}
use Rattle.journal_history.specs.declared.stop.Stop.{Stop}
use Rattle.journal_history.specs.declared.node_ask.NodeAsk.{NodeAsk}
use Rattle.journal_history.specs.declared.node_ask.NodeAsk.TheVariants.{Act, Kill, Restart, Arm}
use Rattle.journal_history.specs.declared.node_ask.NodeAnswer.{NodeAnswer}
use Rattle.journal_history.specs.declared.node_ask.NodeAnswer.TheVariants as answer
use Rattle.journal_history.specs.Cell.{Arming, Cell, Taken, kept_by, replies, stops, count_request, take_request, take_kill, started_again, take_arming, cell_takes}
use Rattle.journal_history.specs.Entries as entry
use Rattle.journal_history.specs.Entries.{Way, Move, after_move}
use Rattle.journal_history.specs.Moving.{moves, way_of, move_of}
use Rattle.journal_history.specs.CellLaws.{IsMoved}
use Rattle.journal_history.proofs.Requests.{still, changes, rises}
use Rattle.journal_history.proofs.Stops.{stop_rises, kept_within}

-- ## A call is answered by a reply, or the node is stopped in it
unfoldable pub CallIs : NodeState → Request → Taken → Type 0
CallIs s r x = ((arming : Option Arming) × (x ≡ replies s r arming)) ⊎ ((s.up ≡ true) × (stop : Stop) × (x ≡ stops s r (kept_by stop s r)))

counted_by : (b : Bool) (s : NodeState) (r : Request) (o : Option Arming) (stop : Stop) → s.up ≡ true → CallIs s r (cond b (replies s r o) (stops s r (kept_by stop s r)))
unfolding CallIs
counted_by true s r o stop up = inl (o, refl)
counted_by false s r o stop up = inr (up, stop, refl)

counted_is : (s : NodeState) (r : Request) (o : Option Arming) → s.up ≡ true → CallIs s r (count_request s r o)
unfolding CallIs
counted_is s r None up = inl (None, refl)
counted_is s r (Some a) up = unfold CallIs in counted_by (nat_lt 1 a.calls) s r (Some (record a { calls = a.calls - 1 })) a.stop up

call_by : (b : Bool) (c : Cell) (r : Request) → c.state.up ≡ b → CallIs c.state r (take_request b c r)
unfolding CallIs
call_by true c r up = counted_is c.state r c.arming up
call_by false c r up = inl (c.arming, refl)

pub call_is : (c : Cell) (r : Request) → CallIs c.state r (take_request c.state.up c r)
call_is c r = call_by c.state.up c r refl

-- ## The promise
unfoldable PromiseKept : NodeState → Taken → Type 0
PromiseKept s x = s.promised ≤ x.cell.state.promised

call_promise : (s : NodeState) (r : Request) (x : Taken) → CallIs s r x → PromiseKept s x
unfolding CallIs PromiseKept
call_promise s r x (inl g) = subst (λ (y : Taken). s.promised ≤ y.cell.state.promised) (sym g.1) (rises s r)
call_promise s r x (inr g) = subst (λ (y : Taken). s.promised ≤ y.cell.state.promised) (sym g.2) (stop_rises s r (kept_by g.1 s r))

killed_promise : (b : Bool) (c : Cell) → c.state.promised ≤ (take_kill b c).cell.state.promised
killed_promise true c = omega arith
killed_promise false c = omega arith

started_promise : (b : Bool) (c : Cell) → c.state.promised ≤ (started_again b c).cell.state.promised
started_promise true c = omega arith
started_promise false c = omega arith

armed_promise : (b : Bool) (c : Cell) (a : Arming) → c.state.promised ≤ (take_arming b c a).cell.state.promised
armed_promise true c a = omega arith
armed_promise false c a = omega arith

pub promise : (c : Cell) (ask : NodeAsk) → c.state.promised ≤ (cell_takes c ask).cell.state.promised
unfolding cell_takes PromiseKept
promise c (Act late r) = call_promise c.state r (take_request c.state.up c r) (call_is c r)
promise c Kill = killed_promise c.state.up c
promise c Restart = started_promise c.state.up c
promise c (Arm calls stop) = armed_promise c.state.up c (record { calls = calls; stop = stop })

-- ## What does not move
unless_moves : (b : Bool) (m : Move) → cond b (Some m) None ≡ None → b ≡ false
unless_moves true m e = absurd (cc e)
unless_moves false m e = refl

call_still : (s : NodeState) (late muted : Bool) (caller : ℕ) (r : Request) (x : Taken) → CallIs s r x → move_of caller muted (Act late r) x.answer ≡ None → x.cell.state ≡ s
unfolding CallIs move_of
call_still s late muted caller r x (inl g) e =
    let f : move_of caller muted (Act late r) (replies s r g.0).answer ≡ None = subst (λ (y : Taken). move_of caller muted (Act late r) y.answer ≡ None) g.1 e in
    ap (λ (y : Taken). y.cell.state) g.1 ∙ still s r (unless_moves (moves r (node_step s r).reply) (entry.Answer caller (way_of late muted) r (node_step s r).reply) f)
call_still s late muted caller r x (inr g) e =
    let f : move_of caller muted (Act late r) (stops s r (kept_by g.1 s r)).answer ≡ None = subst (λ (y : Taken). move_of caller muted (Act late r) y.answer ≡ None) g.2 e in
    absurd (cc f)

killed_still : (b : Bool) (c : Cell) (caller : ℕ) (muted : Bool) → move_of caller muted Kill (take_kill b c).answer ≡ None → (take_kill b c).cell.state ≡ c.state
unfolding move_of
killed_still true c caller muted e = absurd (cc e)
killed_still false c caller muted e = refl

started_still : (b : Bool) (c : Cell) (caller : ℕ) (muted : Bool) → move_of caller muted Restart (started_again b c).answer ≡ None → (started_again b c).cell.state ≡ c.state
unfolding move_of
started_still true c caller muted e = refl
started_still false c caller muted e = absurd (cc e)

armed_still : (b : Bool) (c : Cell) (a : Arming) → (take_arming b c a).cell.state ≡ c.state
armed_still true c a = refl
armed_still false c a = refl

pub stays : (c : Cell) (ask : NodeAsk) (caller : ℕ) (muted : Bool) → move_of caller muted ask (cell_takes c ask).answer ≡ None → (cell_takes c ask).cell.state ≡ c.state
unfolding cell_takes
stays c (Act late r) caller muted e = call_still c.state late muted caller r (take_request c.state.up c r) (call_is c r) e
stays c Kill caller muted e = killed_still c.state.up c caller muted e
stays c Restart caller muted e = started_still c.state.up c caller muted e
stays c (Arm calls stop) caller muted e = armed_still c.state.up c (record { calls = calls; stop = stop })

-- ## What moves
if_moves : (b : Bool) (m n : Move) → cond b (Some m) None ≡ Some n → (b ≡ true) × (m ≡ n)
if_moves true m n e = (refl, cc e)
if_moves false m n e = absurd (cc e)

up_down : (s t : NodeState) → s.up ≡ true → t.up ≡ false → t ≢ s
up_down s t u d e = let both : t.up ≡ s.up = ap (λ (x : NodeState). x.up) e in absurd (cc (u, d, both))

call_moves : (c : Cell) (late muted : Bool) (caller : ℕ) (r : Request) (x : Taken) (m : Move) → CallIs c.state r x → move_of caller muted (Act late r) x.answer ≡ Some m → IsMoved c x.cell.state m
unfolding CallIs move_of
call_moves c late muted caller r x m (inl g) e =
    let s : NodeState = c.state in
    let f : move_of caller muted (Act late r) (replies s r g.0).answer ≡ Some m = subst (λ (y : Taken). move_of caller muted (Act late r) y.answer ≡ Some m) g.1 e in
    let is : (moves r (node_step s r).reply ≡ true) × (entry.Answer caller (way_of late muted) r (node_step s r).reply ≡ m) =
    if_moves (moves r (node_step s r).reply) (entry.Answer caller (way_of late muted) r (node_step s r).reply) m f in
    subst (λ (n : Move). IsMoved c x.cell.state n) is.1
    (record { is = ap (λ (y : Taken). y.cell.state) g.1; possible = refl; changes = changes s r is.0 })
call_moves c late muted caller r x m (inr g) e =
    let s : NodeState = c.state in
    let keep : ℕ = kept_by g.1 s r in
    let f : move_of caller muted (Act late r) (stops s r keep).answer ≡ Some m = subst (λ (y : Taken). move_of caller muted (Act late r) y.answer ≡ Some m) g.2 e in
    let is : entry.Stop caller late r keep ≡ m = cc f in
    subst (λ (n : Move). IsMoved c x.cell.state n) is
    (record { is = ap (λ (y : Taken). y.cell.state) g.2; possible = (g.0, kept_within g.1 s r); changes = up_down s (stopped s r keep) g.0 refl })

killed_moves : (b : Bool) (c : Cell) (caller : ℕ) (muted : Bool) (m : Move) → c.state.up ≡ b → move_of caller muted Kill (take_kill b c).answer ≡ Some m → IsMoved c (take_kill b c).cell.state m
unfolding move_of
killed_moves true c caller muted m up e =
    let is : entry.Kill ≡ m = cc e in
    subst (λ (n : Move). IsMoved c (take_kill true c).cell.state n) is (record { is = refl; possible = up; changes = up_down c.state (crashed c.state) up refl })
killed_moves false c caller muted m up e = absurd (cc e)

down_up : (s t : NodeState) → s.up ≡ false → t.up ≡ true → t ≢ s
down_up s t d u e = let both : t.up ≡ s.up = ap (λ (x : NodeState). x.up) e in absurd (cc (u, d, both))

started_moves : (b : Bool) (c : Cell) (caller : ℕ) (muted : Bool) (m : Move) → c.state.up ≡ b
    → move_of caller muted Restart (started_again b c).answer ≡ Some m → IsMoved c (started_again b c).cell.state m
unfolding move_of
started_moves true c caller muted m up e = absurd (cc e)
started_moves false c caller muted m up e =
    let is : entry.Restart ≡ m = cc e in
    subst (λ (n : Move). IsMoved c (started_again false c).cell.state n) is (record { is = refl; possible = up; changes = down_up c.state (restarted c.state) up refl })

no_move : (a : NodeAnswer) (calls caller : ℕ) (stop : Stop) (muted : Bool) (m : Move) → move_of caller muted (Arm calls stop) a ≡ Some m → ⊥
unfolding move_of
no_move (answer.Replied reply) calls caller stop muted m e = cc e
no_move (answer.Stopped keep) calls caller stop muted m e = cc e
no_move answer.Done calls caller stop muted m e = cc e
no_move answer.Idle calls caller stop muted m e = cc e
no_move (answer.NotOpened fail) calls caller stop muted m e = cc e

pub moving : (c : Cell) (ask : NodeAsk) (caller : ℕ) (muted : Bool) (m : Move) → move_of caller muted ask (cell_takes c ask).answer ≡ Some m → IsMoved c (cell_takes c ask).cell.state m
unfolding cell_takes
moving c (Act late r) caller muted m e = call_moves c late muted caller r (take_request c.state.up c r) m (call_is c r) e
moving c Kill caller muted m e = killed_moves c.state.up c caller muted m refl e
moving c Restart caller muted m e = started_moves c.state.up c caller muted m refl e
moving c (Arm calls stop) caller muted m e = absurd (no_move (take_arming c.state.up c (record { calls = calls; stop = stop })).answer calls caller stop muted m e)
