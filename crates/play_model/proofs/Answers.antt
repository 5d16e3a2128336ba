-- What a cell answers, as a caller's record has it.
use Rattle.std.proofs.Common.{◌≡◌, ℕ, ◌-◌, Bool, true, false, cond, refl}
use Rattle.std.specs.Prelude.{Option, Some, None, nat_lt, ◌==◌}
use Rattle.journal_core.specs.declared.node_state.NodeState.{NodeState}
use Rattle.journal_core.specs.declared.request.Request.{Request}
use Rattle.journal_history.specs.declared.node_ask.NodeAsk.{NodeAsk}
use Rattle.journal_history.specs.declared.node_ask.NodeAsk.TheVariants.{Act, Kill, Restart, Arm}
use Rattle.journal_history.specs.declared.node_ask.NodeAnswer.{NodeAnswer}
use Rattle.journal_history.specs.declared.node_ask.NodeAnswer.TheVariants.{Replied, Stopped, Done, Idle, NotOpened}
use Rattle.journal_history.specs.declared.record.Record.TheVariants.{Call}
use Rattle.journal_history.specs.declared.arming.Arming.{Arming}
use Rattle.journal_history.specs.Cell.{Cell, cell_takes, replies, stops, kept_by, count_request, take_request, take_kill, started_again, take_arming}
use Rattle.mesh.specs.Makers.{IsOperation}
use Rattle.mesh.specs.Matches.{reaches, StandsFor, done_or_idle}
use Rattle.mesh.specs.Order.{was_muted}
use Rattle.play_model.specs.Plays.{told_of, Delivered, is_done}

-- a request is answered by a reply or by a stop
unfoldable pub IsCallAnswer : NodeAnswer → Type 0
IsCallAnswer (Replied r) = Unit {0}
IsCallAnswer (Stopped k) = Unit {0}
IsCallAnswer Done = ⊥
IsCallAnswer Idle = ⊥
IsCallAnswer (NotOpened f) = ⊥

counted_by : (b : Bool) (s : NodeState) (q : Request) (o : Option Arming) (k : ℕ) → IsCallAnswer (cond b (replies s q o) (stops s q k)).answer
unfolding IsCallAnswer
counted_by true s q o k = tt
counted_by false s q o k = tt

counted_answer : (s : NodeState) (q : Request) (o : Option Arming) → IsCallAnswer (count_request s q o).answer
unfolding IsCallAnswer
counted_answer s q None = tt
counted_answer s q (Some a) = counted_by (nat_lt 1 a.calls) s q (Some (record a { calls = a.calls - 1 })) (kept_by a.stop s q)

requested_answer : (b : Bool) (c : Cell) (q : Request) → IsCallAnswer (take_request b c q).answer
unfolding IsCallAnswer
requested_answer true c q = counted_answer c.state q c.arming
requested_answer false c q = tt

pub call_answer : (c : Cell) (late : Bool) (q : Request) → IsCallAnswer (cell_takes c (Act late q)).answer
unfolding cell_takes
call_answer c late q = requested_answer c.state.up c q

pub told_stands : (a : NodeAnswer) → IsCallAnswer a → StandsFor (told_of Delivered a) a
unfolding IsCallAnswer told_of
told_stands (Replied r) h = refl
told_stands (Stopped k) h = tt
told_stands Done h = absurd h
told_stands Idle h = absurd h
told_stands (NotOpened f) h = absurd h

pub told_reaches : (k i : ℕ) (q : Request) (a : NodeAnswer) → reaches k (Call i q (told_of Delivered a)) ≡ (i == k)
unfolding reaches told_of
told_reaches k i q (Replied r) = refl
told_reaches k i q (Stopped j) = refl
told_reaches k i q Done = refl
told_reaches k i q Idle = refl
told_reaches k i q (NotOpened f) = refl

pub told_muted : (a : NodeAnswer) → was_muted (told_of Delivered a) ≡ false
unfolding told_of
told_muted (Replied r) = refl
told_muted (Stopped j) = refl
told_muted Done = refl
told_muted Idle = refl
told_muted (NotOpened f) = refl

-- an operation is done or idle
killed_answer : (b : Bool) (c : Cell) → (take_kill b c).answer ≡ done_or_idle (is_done (take_kill b c).answer)
unfolding is_done
killed_answer true c = refl
killed_answer false c = refl

started_answer : (b : Bool) (c : Cell) → (started_again b c).answer ≡ done_or_idle (is_done (started_again b c).answer)
unfolding is_done
started_answer true c = refl
started_answer false c = refl

armed_answer : (b : Bool) (c : Cell) (a : Arming) → (take_arming b c a).answer ≡ done_or_idle (is_done (take_arming b c a).answer)
unfolding is_done
armed_answer true c a = refl
armed_answer false c a = refl

pub operation_answer : (c : Cell) (ask : NodeAsk) → IsOperation ask → (cell_takes c ask).answer ≡ done_or_idle (is_done (cell_takes c ask).answer)
unfolding cell_takes
operation_answer c (Act late q) h = absurd h
operation_answer c Kill h = killed_answer c.state.up c
operation_answer c Restart h = started_answer c.state.up c
operation_answer c (Arm calls stop) h = armed_answer c.state.up c (record { calls = calls; stop = stop })
