-- An actor in a thread: along its lines it is led as its actions say, whatever it hears.
use Rattle.std.proofs.Common.{◌≡◌, ℕ, zero, suc, ◌+◌, ◌<◌, ◌≤◌, ◌==◌, List, [], ◌∷◌, ◌++◌, length, map, take, Bool, true, false, refl, sym, ap, ◌∙◌}
use Rattle.std.proofs.Common.{subst, Option, Some, None, arith, append-nil, cond, get_or}
use Rattle.std.proofs.Math.Seq.{take-suc}
use Rattle.std.proofs.lemmas.List.{map-append}
use Rattle.play_script.specs.declared.script_line.ScriptLine.{ScriptLine}
use Rattle.writer_core.specs.Writer.{new_writer, next_call}
use Rattle.writer_core.proofs.LiveLaws.{new_live}
use Rattle.run_safety.proofs.WriterRange.{new_sized}
use Rattle.play_calls.specs.Logs.{LogView, new_log}
use Rattle.play_model.specs.Lines.{Action, Line, Declares, Acts, Operates, actions_of, line_of}
use Rattle.play_model.specs.Actor.{Actor, wants, settle, hand_action, fresh_actor, holding_if, last_of}
use Rattle.play_model.specs.Follows.{actor_with, Follows}
use Rattle.play_model.specs.KeptActor.{KeptActor, resting}
use Rattle.play_model.specs.Actions.{ActorView, new_actor_view, has_names, kept_by, action_of, IsIdleHolding, LedTo, TakesAction}
use Rattle.play_model.proofs.KeptActor.{rests, idle_no_tail}
use Rattle.play_model.proofs.Led.{settled_more, handed_led, handed_after}
use Rattle.play_model.proofs.Parts.{actions_append}
use Rattle.play_model.proofs.Sound.{led_past, settled_past}
use Rattle.play_model.proofs.LedLaws.{led_same, led_on}
use Rattle.ns_tree.specs.declared.end.LastSpace.{LastSpace}
use Rattle.play_threads.specs.Threads.{is_by, TakesOwn, HasDone, FollowsActions}

-- ## Action after action
new_rests : (n : ℕ) → next_call (new_writer n) ≡ None
new_rests n = refl

fresh_past : (named : Bool) (n : ℕ) → (fresh_actor named n).past ≡ []
unfolding fresh_actor
fresh_past named n = refl

pub new_named : (named : Bool) (n : ℕ) → has_names (new_actor_view named n) ≡ named
new_named true n = refl
new_named false n = refl

new_holds : (named : Bool) → IsIdleHolding (holding_if named)
new_holds true = refl
new_holds false = tt

nothing_done : (named : Bool) (n : ℕ) (k : KeptActor) → 1 ≤ n → k ≡ kept_by (new_actor_view named n) (new_log n true) → HasDone named n [] k
unfolding settle fresh_actor
nothing_done named n k some e =
    subst (λ x. HasDone named n [] x) (sym e)
    (record { idle = record { some = some; ready = record { live = new_live n (omega (arith, some)); sized = new_sized n }; rests = new_rests n; holds = new_holds named }; leads = led_same _ _ refl })

done_more : (named : Bool) (n : ℕ) (ds : List Action) (d : Action) (k new : KeptActor) → HasDone named n ds k → TakesAction n d k new → HasDone named n (ds ++ d ∷ []) new
done_more named n ds d k new h t =
    let a : Actor = actor_with named n ds in
    let handed_on : LedTo (hand_action d a) (hand_action d (resting k)) =
    record { lines = h.leads.lines; led = handed_led a h.leads.lines d h.leads.led; after = handed_after a h.leads.lines d h.leads.led ∙ ap (hand_action d) h.leads.after } in
    record {
      idle = t.idle;
      leads = subst (λ x. LedTo x (resting new)) (sym (settled_more ds (fresh_actor named n) d)) (led_on _ (hand_action d (resting k)) _ handed_on t.leads);
    }

pub done_follows : (named : Bool) (n : ℕ) (ds : List Action) (v : ActorView) (l : LogView) (last : Option LastSpace) → HasDone named n ds (kept_by v l) → last ≡ last_of v.holds
    → FollowsActions named n ds l.past l.marks last
done_follows named n ds v l last h is e its =
    let start : (actor_with named n ds).past ≡ [] = settled_past ds (fresh_actor named n) ∙ fresh_past named n in
    let all : h.leads.lines ≡ l.past = sym (ap (λ p. p ++ h.leads.lines) start) ∙ sym (led_past (actor_with named n ds) h.leads.lines) ∙ ap (λ (a : Actor). a.past) h.leads.after in
    subst (λ rs. Follows named n ds rs l.marks e) all (record {
      led = h.leads.led;
      ended = ap wants h.leads.after ∙ rests (kept_by v l) None (idle_no_tail v.holds h.idle.holds) h.idle.rests;
      marks = sym (ap (λ (a : Actor). a.marks) h.leads.after);
      end = its ∙ is ∙ sym (ap (λ (a : Actor). last_of a.holds) h.leads.after);
    })

-- ## Line after line
pub lines_next : (items : List ScriptLine) (i : ℕ) (x : ScriptLine) → i < length items → x ≡ get_or items i x → map line_of (take (i + 1) items) ≡ map line_of (take i items) ++ line_of x ∷ []
lines_next items i x h e =
    let n : i + 1 ≡ suc i = omega arith in
    ap (λ k. map line_of (take k items)) n ∙ ap (map line_of) (take-suc items i x h ∙ ap (λ y. take i items ++ y ∷ []) (sym e)) ∙ map-append line_of (take i items) (x ∷ [])

pub take_all : {A : Type 0} (l : List A) (i : ℕ) → i ≡ length l → take i l ≡ l
take_all [] i e = let n : i ≡ 0 = e in ap (λ k. take k []) n
take_all (x ∷ l) zero e = absurd (omega (arith, e))
take_all (x ∷ l) (suc i) e = ap (λ z. x ∷ z) (take_all l i (omega (arith, e)))

abbrev own_actions : Bool → Action → List Action
own_actions true d = d ∷ []
own_actions false d = []

abbrev actions_by : ℕ → Option (ℕ × Action) → List Action
actions_by c None = []
actions_by c (Some d) = own_actions (d.0 == c) d.1

own_cond : (b : Bool) (d : Action) → cond b (d ∷ []) [] ≡ own_actions b d
own_cond true d = refl
own_cond false d = refl

one_action : (c : ℕ) (l : Line) → actions_of c (l ∷ []) ≡ actions_by c (action_of l)
unfolding actions_of
one_action c (Declares name) = refl
one_action c (Acts actor d) = own_cond (actor == c) d
one_action c (Operates node ask) = refl

own_done : (named : Bool) (n c : ℕ) (ds : List Action) (o : Option (ℕ × Action)) (old new : KeptActor) → HasDone named n ds old
    → TakesOwn (is_by c o) n o old new → HasDone named n (ds ++ actions_by c o) new
own_done named n c ds None old new h t = subst (λ x. HasDone named n x new) (sym (append-nil ds)) (subst (λ x. HasDone named n ds x) (sym t) h)
own_done named n c ds (Some d) old new h t = by (d.0 == c) t
  where
    by : (b : Bool) → TakesOwn b n (Some d) old new → HasDone named n (ds ++ own_actions b d.1) new
    by true u = done_more named n ds d.1 old new h u
    by false u = subst (λ x. HasDone named n x new) (sym (append-nil ds)) (subst (λ x. HasDone named n ds x) (sym u) h)

pub done_first : (named : Bool) (n c : ℕ) (items : List ScriptLine) (v : ActorView) (l : LogView) → 1 ≤ n → v ≡ new_actor_view named n
    → l ≡ new_log n true → HasDone named n (actions_of c (map line_of (take 0 items))) (kept_by v l)
unfolding actions_of
done_first named n c items v l some e f = nothing_done named n (kept_by v l) some (ap (λ x. kept_by x l) e ∙ ap (kept_by (new_actor_view named n)) f)

pub done_next : (named : Bool) (n c : ℕ) (items : List ScriptLine) (i : ℕ) (x : ScriptLine) (old new : KeptActor) → i < length items
    → x ≡ get_or items i x → HasDone named n (actions_of c (map line_of (take i items))) old
    → TakesOwn (is_by c (action_of (line_of x))) n (action_of (line_of x)) old new → HasDone named n (actions_of c (map line_of (take (i + 1) items))) new
done_next named n c items i x old new h e done t =
    let more : actions_of c (map line_of (take (i + 1) items)) ≡ actions_of c (map line_of (take i items)) ++ actions_by c (action_of (line_of x)) =
    ap (actions_of c) (lines_next items i x h e) ∙ actions_append c (map line_of (take i items)) (line_of x ∷ [])
    ∙ ap (λ z. actions_of c (map line_of (take i items)) ++ z) (one_action c (line_of x)) in
    subst (λ ds. HasDone named n ds new) (sym more) (own_done named n c (actions_of c (map line_of (take i items))) (action_of (line_of x)) old new done t)
