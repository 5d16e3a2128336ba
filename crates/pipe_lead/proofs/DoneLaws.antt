-- Along its lines a name node is led as its actions say, whatever it began with.
use Rattle.std.proofs.Common.{ℕ, ◌≡◌, ◌≤◌, List, [], ◌∷◌, ◌++◌, map, Option, Some, None, Bool, true, cond, refl, sym, ap, ◌∙◌, subst, arith}
use Rattle.std.proofs.lemmas.List.{map-append}
use Rattle.journal_history.specs.declared.record.Record.{Record}
use Rattle.journal_history.specs.declared.mark.Mark.{Mark}
use Rattle.writer_core.specs.Views.{WriterView}
use Rattle.writer_core.specs.Writer.{next_call}
use Rattle.writer_core.proofs.LiveLaws.{new_live}
use Rattle.run_safety.proofs.WriterRange.{new_sized}
use Rattle.mesh.specs.Makers.{IsOfChores}
use Rattle.ns_tree.specs.declared.end.LastSpace.{LastSpace}
use Rattle.play_names.specs.Holding.{Holding, Work}
use Rattle.play_script.specs.declared.script_line.ScriptLine.{ScriptLine}
use Rattle.play_calls.specs.Logs.{LogView, new_log}
use Rattle.play_model.specs.Lines.{Action, Line, Declares, Acts, Operates, line_of, actions_of, AreActions}
use Rattle.play_model.specs.Actor.{Actor, wants, settle, hand_action, fresh_actor, last_of}
use Rattle.play_model.specs.Ready.{IsReady}
use Rattle.play_model.specs.KeptActor.{KeptActor, resting}
use Rattle.play_model.specs.Actions.{ActorView, new_actor_view, kept_by, action_of, is_idle_work, IsIdleHolding, LedTo, TakesAction, TakesIf}
use Rattle.play_model.proofs.KeptActor.{rests, idle_no_tail}
use Rattle.play_model.proofs.Led.{settled_more, handed_led, handed_after}
use Rattle.play_model.proofs.Parts.{actions_append}
use Rattle.play_model.proofs.Sound.{led_past, settled_past}
use Rattle.play_model.proofs.LedLaws.{led_same, led_on}
use Rattle.play_model.proofs.ChoresMade.{held_made}
use Rattle.play_threads.specs.Threads.{is_by, FollowsActions}
use Rattle.pipe_lead.specs.Begun.{IsBegun, begun_with, HasDoneFrom, FollowsFrom}

-- ## Action after action
pub done_first : (n : ℕ) (v : ActorView) (l : LogView) → 1 ≤ n → IsBegun n v → l ≡ new_log n true → HasDoneFrom v n [] (kept_by v l)
unfolding settle
done_first n v l some b e =
    subst (λ (x : LogView). HasDoneFrom v n [] (kept_by v x)) (sym e)
    (record { idle = record { some = some; ready = ready; rests = ap (λ (w : WriterView). next_call w) b.writer; holds = holds }; leads = led_same _ _ refl })
  where
    ready : IsReady n v.writer
    ready = subst (λ (w : WriterView). IsReady n w) (sym b.writer) (record { live = new_live n (omega (arith, some)); sized = new_sized n })

    holds : IsIdleHolding v.holds
    holds = subst (λ (o : Option Holding). IsIdleHolding o) (sym b.holds) (ap (λ (w : Work). is_idle_work w) b.free)

done_more : (n : ℕ) (v : ActorView) (ds : List Action) (d : Action) (k new : KeptActor) → HasDoneFrom v n ds k → TakesAction n d k new → HasDoneFrom v n (ds ++ d ∷ []) new
done_more n v ds d k new h t =
    let a : Actor = begun_with v n ds in
    let handed_on : LedTo (hand_action d a) (hand_action d (resting k)) =
    record { lines = h.leads.lines; led = handed_led a h.leads.lines d h.leads.led; after = handed_after a h.leads.lines d h.leads.led ∙ ap (hand_action d) h.leads.after } in
    record {
      idle = t.idle;
      leads = subst (λ (x : Actor). LedTo x (resting new)) (sym (settled_more ds (resting (kept_by v (new_log n true))) d)) (led_on _ (hand_action d (resting k)) _ handed_on t.leads);
    }

-- ## Line after line
own_action_of : (l : Line) (d : ℕ × Action) → action_of l ≡ Some d → is_by 0 (action_of l) ≡ true → actions_of 0 (l ∷ []) ≡ d.1 ∷ []
unfolding actions_of
own_action_of (Declares name) d e i = absurd (cc e)
own_action_of (Operates node ask) d e i = absurd (cc e)
own_action_of (Acts actor action) d e i =
    let same : (actor, action) ≡ d = cc e in
    ap (λ (b : Bool). cond b (action ∷ []) []) i ∙ ap (λ (x : ℕ × Action). x.1 ∷ []) same

pub done_line : (n : ℕ) (v : ActorView) (ls : List ScriptLine) (line : ScriptLine) (old new : KeptActor) → HasDoneFrom v n (actions_of 0 (map line_of ls)) old
    → is_by 0 (action_of (line_of line)) ≡ true → TakesIf n (action_of (line_of line)) old new → HasDoneFrom v n (actions_of 0 (map line_of (ls ++ line ∷ []))) new
done_line n v ls line old new h own t = by (action_of (line_of line)) refl own t
  where
    all : (d : ℕ × Action) → action_of (line_of line) ≡ Some d → is_by 0 (Some d) ≡ true → actions_of 0 (map line_of (ls ++ line ∷ [])) ≡ actions_of 0 (map line_of ls) ++ d.1 ∷ []
    all d e i =
        ap (actions_of 0) (map-append line_of ls (line ∷ [])) ∙ actions_append 0 (map line_of ls) (line_of line ∷ [])
        ∙ ap (λ (z : List Action). actions_of 0 (map line_of ls) ++ z) (own_action_of (line_of line) d e (ap (is_by 0) e ∙ i))

    by : (o : Option (ℕ × Action)) → action_of (line_of line) ≡ o → is_by 0 o ≡ true → TakesIf n o old new → HasDoneFrom v n (actions_of 0 (map line_of (ls ++ line ∷ []))) new
    by None e i u = absurd (cc i)
    by (Some d) e i u = subst (λ (ds : List Action). HasDoneFrom v n ds new) (sym (all d e i)) (done_more n v (actions_of 0 (map line_of ls)) d.1 old new h u)

-- ## At its end
pub done_follows : (n : ℕ) (v : ActorView) (ds : List Action) (w : ActorView) (l : LogView) → HasDoneFrom v n ds (kept_by w l) → FollowsFrom v n ds l.past l.marks (last_of w.holds)
done_follows n v ds w l h =
    let first : Actor = resting (kept_by v (new_log n true)) in
    let start : (begun_with v n ds).past ≡ [] = settled_past ds first in
    let all : h.leads.lines ≡ l.past = sym (ap (λ (p : List Record). p ++ h.leads.lines) start) ∙ sym (led_past (begun_with v n ds) h.leads.lines) ∙ ap (λ (a : Actor). a.past) h.leads.after in
    subst (λ (rs : List Record). FollowsFrom v n ds rs l.marks (last_of w.holds)) all (record {
      led = h.leads.led;
      ended = ap wants h.leads.after ∙ rests (kept_by w l) None (idle_no_tail w.holds h.idle.holds) h.idle.rests;
      marks = sym (ap (λ (a : Actor). a.marks) h.leads.after);
      end = sym (ap (λ (a : Actor). last_of a.holds) h.leads.after);
    })

fresh_is : (n : ℕ) (ds : List Action) (rs : List Record) (plan : List Mark) (last : Option LastSpace) → FollowsFrom (new_actor_view true n) n ds rs plan last → FollowsActions true n ds rs plan last
unfolding fresh_actor
fresh_is n ds rs plan last f e is = record { led = f.led; ended = f.ended; marks = f.marks; end = is ∙ f.end }

-- where it began with nothing, it is an actor of a script
pub fresh_follows : (n : ℕ) (v : ActorView) (ds : List Action) (rs : List Record) (plan : List Mark) (last : Option LastSpace) → FollowsFrom v n ds rs plan last → v ≡ new_actor_view true n
    → FollowsActions true n ds rs plan last
fresh_follows n v ds rs plan last f e = fresh_is n ds rs plan last (subst (λ (x : ActorView). FollowsFrom x n ds rs plan last) e f)

-- its calls are those of some tasks and tails
pub begun_made : (n : ℕ) (v : ActorView) (ds : List Action) (rs : List Record) (plan : List Mark) (last : Option LastSpace) → IsBegun n v → AreActions true ds → FollowsFrom v n ds rs plan last
    → IsOfChores n rs
begun_made n v ds rs plan last b d f = held_made n ds rs (resting (kept_by v (new_log n true))) b.holding b.writer b.holds b.free d f.led
