-- What a call, a late copy and an operation leave in the list of entries and at their node, in a
-- world.
use Rattle.std.proofs.Common.{◌≡◌, ℕ, suc, ◌-◌, ◌<◌, ◌≤◌, List, ◌∷◌, Bool, true, false, refl, sym, ap, ◌∙◌, subst, arith, Option, Some, None}
use Rattle.journal_core.specs.declared.node_state.NodeState.{NodeState}
use Rattle.journal_core.specs.declared.request.Request.{Request}
use Rattle.journal_core.specs.declared.refusal.Refusal.{Refusal}
use Rattle.journal_core.specs.declared.reply.Reply.{Reply}
use Rattle.journal_core.specs.declared.reply.Reply.TheVariants.{Refused}
use Rattle.journal_core.specs.declared.heard.Heard.{Heard as HeardOf}
use Rattle.journal_core.specs.declared.heard.Heard.TheVariants as told
use Rattle.writer_core.proofs.Plain.{plain_heard}
use Rattle.journal_history.specs.declared.node_ask.NodeAsk.{NodeAsk}
use Rattle.journal_history.specs.declared.node_ask.NodeAsk.TheVariants as ask
use Rattle.journal_history.specs.declared.node_ask.NodeAnswer.{NodeAnswer}
use Rattle.journal_history.specs.declared.node_ask.NodeAnswer.TheVariants.{Replied, Stopped}
use Rattle.journal_history.specs.Cell.{Cell, cell_takes, arm_at_once, heard_of}
use Rattle.journal_history.specs.Entries.{Heard, Muted, Late, Move, Answer, Stop, Kill, Restart, Entry, after_move, node_after}
use Rattle.journal_history.specs.Moving.{move_of}
use Rattle.run_safety.proofs.Entering.{Entered, quiet, answered as entered_answer, cut, entered, Operated, nothing as no_move, killed, again, kills, restarts, arms, Did, still, gone, line_did}
use Rattle.run_safety.proofs.Fair.{IsDue, Sounds}
use Rattle.run_world.specs.World.{World, cell_at, taken_at, node_asked}
use Rattle.run_safety.proofs.CallLeft.{entry, CallLeft, nothing, unheard, answered, enters_answer, enters_muted, enters_late, enters_stop, CopyLeft}
use Rattle.run_safety.proofs.CallLeft.{no_entry, an_entry, OperationLeft, no_change, a_change}
use Rattle.run_world.proofs.WorldNodes.{entries, Agree, asked_next, asked_still, asked_moved, stopping_state}

-- the node's state is the one that the entries leave
pub state_at : (n : ℕ) (w : World) (node : ℕ) → Agree n w.cells (entries w.trace) → 1 ≤ node → node ≤ n → (cell_at node w).state ≡ node_after node (entries w.trace)
state_at n w node h low high =
    let back : suc (node - 1) ≡ node = omega (arith, low) in
    h.states (node - 1) (omega (arith, low, high)) ∙ ap (λ (j : ℕ). node_after j (entries w.trace)) back

stopping_at : (n : ℕ) (w : World) (node : ℕ) (stop : Option ℕ) → Agree n w.cells (entries w.trace) → 1 ≤ node → node ≤ n → (arm_at_once stop (cell_at node w)).state ≡ node_after node (entries w.trace)
stopping_at n w node stop h low high = stopping_state stop (cell_at node w) ∙ state_at n w node h low high

abbrev Asking : ℕ → ℕ → ℕ → Bool → Option ℕ → Bool → Request → World → Type 0
Asking n node caller muted stop late r w =
    Entered (node_after node (entries w.trace)) (taken_at node stop (ask.Act late r) w).cell.state caller muted late r (taken_at node stop (ask.Act late r) w).answer

entered_at : (n node caller : ℕ) (muted : Bool) (stop : Option ℕ) (late : Bool) (r : Request) (w : World) → Agree n w.cells (entries w.trace)
    → 1 ≤ node → node ≤ n → Asking n node caller muted stop late r w
entered_at n node caller muted stop late r w h low high =
    subst (λ (s : NodeState). Entered s (taken_at node stop (ask.Act late r) w).cell.state caller muted late r (taken_at node stop (ask.Act late r) w).answer) (stopping_at n w node stop h low high)
    (entered (arm_at_once stop (cell_at node w)) caller muted late r)

abbrev pub Behind : ℕ → ℕ → ℕ → Bool → Option ℕ → NodeAsk → World → Type 0
Behind n node caller muted stop q w = Agree n (node_asked node caller muted stop q w).cells (asked_next node caller muted stop q w)

behind : (n node caller : ℕ) (muted : Bool) (stop : Option ℕ) (q : NodeAsk) (w : World) (next : List Entry) → asked_next node caller muted stop q w ≡ next
    → Agree n (node_asked node caller muted stop q w).cells next → Behind n node caller muted stop q w
behind n node caller muted stop q w next e h = subst (λ (l : List Entry). Agree n (node_asked node caller muted stop q w).cells l) (sym e) h

-- the entries and the nodes where the node is as it was, and where it was moved
still_at : (n node caller : ℕ) (muted : Bool) (stop : Option ℕ) (q : NodeAsk) (w : World) → Agree n w.cells (entries w.trace) → 1 ≤ node → node ≤ n
    → move_of caller muted q (taken_at node stop q w).answer ≡ None → (taken_at node stop q w).cell.state ≡ node_after node (entries w.trace)
    → (asked_next node caller muted stop q w ≡ entries w.trace) × Behind n node caller muted stop q w
still_at n node caller muted stop q w h low high none same =
    let g = asked_still n node caller muted stop q w h low high none (same ∙ sym (state_at n w node h low high)) in
    (g.0, behind n node caller muted stop q w (entries w.trace) g.0 g.1)

moved_at : (n node caller : ℕ) (muted : Bool) (stop : Option ℕ) (q : NodeAsk) (w : World) (move : Move) → Agree n w.cells (entries w.trace) → 1 ≤ node → node ≤ n
    → move_of caller muted q (taken_at node stop q w).answer ≡ Some move → (taken_at node stop q w).cell.state ≡ after_move (node_after node (entries w.trace)) move
    → (asked_next node caller muted stop q w ≡ entry node move ∷ entries w.trace) × Behind n node caller muted stop q w
moved_at n node caller muted stop q w move h low high some same =
    let g = asked_moved n node caller muted stop q w move h low high some (same ∙ ap (λ (s : NodeState). after_move s move) (sym (state_at n w node h low high))) in
    (g.0, behind n node caller muted stop q w (entry node move ∷ entries w.trace) g.0 g.1)

-- ## Whatever was asked: a node answers as it does
pub sounds_asked : (n node caller : ℕ) (muted : Bool) (stop : Option ℕ) (q : NodeAsk) (w : World) → Agree n w.cells (entries w.trace) → 1 ≤ node → node ≤ n
    → Sounds n (entries w.trace) → Sounds n (asked_next node caller muted stop q w)
sounds_asked n node caller muted stop q w h low high s = by (line_did (arm_at_once stop (cell_at node w)) q caller muted)
  where
    by : Did (arm_at_once stop (cell_at node w)).state (taken_at node stop q w).cell.state (move_of caller muted q (taken_at node stop q w).answer) → Sounds n (asked_next node caller muted stop q w)
    by (still is same) = subst (Sounds n) (sym (still_at n node caller muted stop q w h low high is (same ∙ stopping_at n w node stop h low high)).0) s
    by (gone move is due same off) =
        let moves : (taken_at node stop q w).cell.state ≡ after_move (node_after node (entries w.trace)) move = same
        ∙ ap (λ (x : NodeState). after_move x move) (stopping_at n w node stop h low high) in
        subst (Sounds n) (sym (moved_at n node caller muted stop q w move h low high is moves).0) (
          record {
            from_one = low;
            up_to_n = high;
            due = subst (λ (x : NodeState). IsDue x move) (stopping_at n w node stop h low high) due;
            moves = λ (e : after_move (node_after node (entries w.trace)) move ≡ node_after node (entries w.trace)). off (moves ∙ e ∙ sym (stopping_at n w node stop h low high));
          },
          s,
        )

-- ## A call that is delivered
plain_refused : (x : Reply) (f : Refusal) → x ≡ Refused f → plain_heard (told.Answer x) ≡ told.Silent
plain_refused x f e = ap (λ (y : Reply). plain_heard (told.Answer y)) e

is_told : (x : Reply) (a : NodeAnswer) → a ≡ Replied x → heard_of a ≡ told.Answer x
is_told x a e = ap heard_of e

is_stopped : (keep : ℕ) (a : NodeAnswer) → a ≡ Stopped keep → heard_of a ≡ told.Silent
is_stopped keep a e = ap heard_of e

abbrev pub Leaves : ℕ → ℕ → ℕ → Bool → Option ℕ → Request → HeardOf → World → Type 0
Leaves n node caller muted stop r d w =
    CallLeft n (entries w.trace) caller node r d (asked_next node caller muted stop (ask.Act false r) w) × Behind n node caller muted stop (ask.Act false r) w

pub delivered : (n node caller : ℕ) (stop : Option ℕ) (r : Request) (w : World) → Agree n w.cells (entries w.trace) → 1 ≤ node → node ≤ n
    → Leaves n node caller false stop r (heard_of (taken_at node stop (ask.Act false r) w).answer) w
delivered n node caller stop r w h low high = by (entered_at n node caller false stop false r w h low high)
  where
    by : Asking n node caller false stop false r w → Leaves n node caller false stop r (heard_of (taken_at node stop (ask.Act false r) w).answer) w
    by (quiet x a m t refused) =
        let g = still_at n node caller false stop (ask.Act false r) w h low high m t in
        (nothing g.0 (λ some. let f = refused some in ap plain_heard (is_told x (taken_at node stop (ask.Act false r) w).answer a) ∙ plain_refused x f.0 f.1), g.1)
    by (entered_answer x a m is t off some) =
        let g = moved_at n node caller false stop (ask.Act false r) w (Answer caller Heard r x) h low high m t in (
          answered x g.0 (is_told x (taken_at node stop (ask.Act false r) w).answer a) some
              (enters_answer n (entries w.trace) caller node r x some),
          g.1,
        )
    by (cut keep a m up within t off some) =
        let g = moved_at n node caller false stop (ask.Act false r) w (Stop caller false r keep) h low high m t in (
          unheard (Stop caller false r keep) g.0 (ap plain_heard (is_stopped keep (taken_at node stop (ask.Act false r) w).answer a)) (λ turn. some turn.1)
              (enters_stop n (entries w.trace) caller node r false keep some),
          g.1,
        )

-- ## A call whose reply is lost
pub reply_lost : (n node caller : ℕ) (stop : Option ℕ) (r : Request) (w : World) → Agree n w.cells (entries w.trace) → 1 ≤ node → node ≤ n → Leaves n node caller true stop r told.Silent w
reply_lost n node caller stop r w h low high = by (entered_at n node caller true stop false r w h low high)
  where
    by : Asking n node caller true stop false r w → Leaves n node caller true stop r told.Silent w
    by (quiet x a m t refused) = let g = still_at n node caller true stop (ask.Act false r) w h low high m t in (nothing g.0 (λ some. refl), g.1)
    by (entered_answer x a m is t off some) =
        let g = moved_at n node caller true stop (ask.Act false r) w (Answer caller Muted r x) h low high m t in
        (unheard (Answer caller Muted r x) g.0 refl (λ turn. some) (enters_muted n (entries w.trace) caller node r x some), g.1)
    by (cut keep a m up within t off some) =
        let g = moved_at n node caller true stop (ask.Act false r) w (Stop caller false r keep) h low high m t in
        (unheard (Stop caller false r keep) g.0 refl (λ turn. some turn.1) (enters_stop n (entries w.trace) caller node r false keep some), g.1)

-- ## A late copy
no_turn : {A : Type 0} (keep : ℕ) → (true ≡ false) × (0 < keep) → A
no_turn keep h = cc (h.0)

pub copied_late : (n node caller : ℕ) (stop : Option ℕ) (r : Request) (w : World) → Agree n w.cells (entries w.trace) → 1 ≤ node → node ≤ n
    → CopyLeft n (entries w.trace) caller node r (asked_next node caller false stop (ask.Act true r) w) × Behind n node caller false stop (ask.Act true r) w
copied_late n node caller stop r w h low high = by (entered_at n node caller false stop true r w h low high)
  where
    by : Asking n node caller false stop true r w → CopyLeft n (entries w.trace) caller node r (asked_next node caller false stop (ask.Act true r) w)
        × Behind n node caller false stop (ask.Act true r) w
    by (quiet x a m t refused) = let g = still_at n node caller false stop (ask.Act true r) w h low high m t in (no_entry g.0, g.1)
    by (entered_answer x a m is t off some) =
        let g = moved_at n node caller false stop (ask.Act true r) w (Answer caller Late r x) h low high m t in
        (an_entry (Answer caller Late r x) g.0 (λ turn. turn refl) (enters_late n (entries w.trace) caller node r x some), g.1)
    by (cut keep a m up within t off some) =
        let g = moved_at n node caller false stop (ask.Act true r) w (Stop caller true r keep) h low high m t in
        (an_entry (Stop caller true r keep) g.0 (λ turn. no_turn keep turn) (enters_stop n (entries w.trace) caller node r true keep some), g.1)

-- ## An operation
abbrev pub IsOperation : NodeAsk → Type 0
IsOperation (ask.Act late r) = ⊥
IsOperation ask.Kill = Unit {0}
IsOperation ask.Restart = Unit {0}
IsOperation (ask.Arm calls stop) = Unit {0}

operated_by : (n node caller : ℕ) (q : NodeAsk) (w : World) → Agree n w.cells (entries w.trace) → 1 ≤ node → node ≤ n
    → Operated (node_after node (entries w.trace)) (taken_at node None q w).cell.state (move_of caller false q (taken_at node None q w).answer)
    → OperationLeft n (entries w.trace) node (asked_next node caller false None q w) × Behind n node caller false None q w
operated_by n node caller q w h low high (no_move m t) = let g = still_at n node caller false None q w h low high m t in (no_change g.0, g.1)
operated_by n node caller q w h low high (killed m up t off) =
    let g = moved_at n node caller false None q w Kill h low high m t in
    (a_change Kill g.0 (λ x. x) (λ story. tt), g.1)
operated_by n node caller q w h low high (again m up t off) =
    let g = moved_at n node caller false None q w Restart h low high m t in
    (a_change Restart g.0 (λ x. x) (λ story. tt), g.1)

its_operation : (caller : ℕ) (q : NodeAsk) (c : Cell) → IsOperation q → Operated c.state (cell_takes c q).cell.state (move_of caller false q (cell_takes c q).answer)
its_operation caller (ask.Act late r) c o = absurd o
its_operation caller ask.Kill c o = kills c caller false
its_operation caller ask.Restart c o = restarts c caller false
its_operation caller (ask.Arm calls x) c o = arms c caller calls false x

pub operates : (n node caller : ℕ) (q : NodeAsk) (w : World) → IsOperation q → Agree n w.cells (entries w.trace) → 1 ≤ node → node ≤ n
    → OperationLeft n (entries w.trace) node (asked_next node caller false None q w) × Behind n node caller false None q w
operates n node caller q w o h low high =
    operated_by n node caller q w h low high
    (subst (λ (s : NodeState). Operated s (taken_at node None q w).cell.state (move_of caller false q (taken_at node None q w).answer)) (state_at n w node h low high)
    (its_operation caller q (cell_at node w) o))
