-- Each node of a run is sound: what every event of a node keeps, every move of a run keeps. Its
-- promise never falls.
use Rattle.std.proofs.Common.{ℕ, ◌≡◌, ◌≤◌, ◌==◌, List, [], ◌∷◌, refl, arith, subst}
use Rattle.std.proofs.lemmas.Bool.{cond_both}
use Rattle.journal_core.specs.declared.node_state.NodeState.{NodeState}
use Rattle.journal_core.specs.Laws.{Event, Asked, Stopped, Killed, Restarted, after_event, IsStored, OpenIsLed, IsSound}
use Rattle.journal_core.proofs.SegmentLaws.{sound_event, sound_fresh, promise_never_falls}
use Rattle.journal_history.specs.Entries.{Move, Answer, Stop, Kill, Restart, after_move, Entry, Earlier, now, before, node_after}

-- a move as an event of its node
abbrev event_of : Move → Event
event_of (Answer caller way request reply) = Asked request
event_of (Stop caller late request keep) = Stopped request keep
event_of Kill = Killed
event_of Restart = Restarted

event_moves : (s : NodeState) (m : Move) → after_event s (event_of m) ≡ after_move s m
event_moves s (Answer caller way request reply) = refl
event_moves s (Stop caller late request keep) = refl
event_moves s Kill = refl
event_moves s Restart = refl

sound_moved : (s : NodeState) (m : Move) → IsSound s → IsSound (after_move s m)
sound_moved s m sound = subst IsSound (event_moves s m) (sound_event s (event_of m) sound)

pub sound_after : (i : ℕ) (past : List Entry) → IsSound (node_after i past)
unfolding node_after
sound_after i [] = sound_fresh
sound_after i (e ∷ past) = cond_both (e.node == i) (after_move (node_after i past) e.move) (node_after i past) (λ s. IsSound s)
    (λ t. sound_moved (node_after i past) e.move (sound_after i past)) (λ f. sound_after i past)

pub stored_after : (i : ℕ) (past : List Entry) → IsStored (node_after i past)
stored_after i past = (sound_after i past).stored

pub led_after : (i : ℕ) (past : List Entry) → OpenIsLed (node_after i past)
led_after i past = (sound_after i past).led

-- ## The promise never falls
pub promise_moved : (s : NodeState) (m : Move) → s.promised ≤ (after_move s m).promised
promise_moved s m = subst (λ t. s.promised ≤ t.promised) (event_moves s m) (promise_never_falls s (event_of m))

pub promise_earlier : (i : ℕ) {old past : List Entry} → Earlier old past → (node_after i old).promised ≤ (node_after i past).promised
unfolding node_after
promise_earlier i now = omega arith
promise_earlier i {old} (before {past = past} {e = e} p) =
    let one : (node_after i past).promised ≤ (node_after i (e ∷ past)).promised =
    cond_both (e.node == i) (after_move (node_after i past) e.move) (node_after i past) (λ s. (node_after i past).promised ≤ s.promised)
    (λ t. promise_moved (node_after i past) e.move) (λ f. omega arith) in
    let rest : (node_after i old).promised ≤ (node_after i past).promised = promise_earlier i p in
    omega arith
