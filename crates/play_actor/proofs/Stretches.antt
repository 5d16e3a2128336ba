-- An actor through its caller: along its calls and its actions it is led as its actions say, whatever
-- it hears.
use Rattle.std.proofs.Common.{◌≡◌, ℕ, List, [], ◌∷◌, ◌++◌, map, Bool, true, false, refl, sym, ap, ◌∙◌, subst, Option, Some, None, append_assoc, append-nil}
use Rattle.std.specs.Prelude.{Result, Ok, Err, OnOk}
use Rattle.journal_history.specs.declared.mark.Mark.{Mark}
use Rattle.journal_core.specs.declared.request.Request.{Request}
use Rattle.writer_core.specs.declared.task.Task.{Task}
use Rattle.writer_core.specs.declared.task.Begun.TheVariants as begun
use Rattle.writer_core.specs.declared.turn.Turn.{Turn}
use Rattle.writer_core.specs.declared.turn.Turn.TheVariants as turn
use Rattle.writer_core.specs.Views.{WriterView}
use Rattle.writer_core.specs.Writer.{next_call, writer_begun, writer_heard, is_under_way}
use Rattle.writer_core.proofs.LiveLaws.{heard_live}
use Rattle.journal_history.specs.declared.record.Record.{Record}
use Rattle.journal_history.specs.declared.record.Record.TheVariants.{Call, Late, Outcome}
use Rattle.journal_history.specs.declared.record.Told.{Told}
use Rattle.mesh.specs.Makers.{heard_of}
use Rattle.run_safety.proofs.WriterRange.{heard_sized}
use Rattle.play_names.specs.Holding.{Holding}
use Rattle.play_calls.specs.Logs.{LogView, lose_call, copy_call, earlier_call as earlier_in, mark_kind, IsCopied}
use Rattle.play_model.specs.Lines.{DoDrop, DoMute, DoLate}
use Rattle.play_names.specs.Results.{late_none}
use Rattle.play_names.specs.ResultLists.{edits_of, AreFew}
use Rattle.play_model.specs.Actor.{Fits, hand_action, turn_taken}
use Rattle.play_model.specs.KeptActor.{KeptActor, as_actor, resting, hears, say_texts}
use Rattle.play_model.specs.Ready.{IsReady}
use Rattle.play_model.specs.Actions.{kept_of, LedTo, IsNoTail, GoesFar, IsUnbroken, IsIdleActor, TakesAction, mark_action}
use Rattle.play_actor.specs.Rounds.{IsSaidOf}
use Rattle.play_model.proofs.LedLaws.{led_same, led_on, led_one}
use Rattle.play_model.proofs.KeptActor.{idle_no_tail, wants_call, wants_said, goes_call, goes_said}
use Rattle.play_model.proofs.KeptActor.{handed_drop, handed_mute, handed_none, handed_late, wants_copy, goes_copy, copying as with_copy}
use Rattle.play_model.proofs.WriterTurn.{call_under, going_is}
use Rattle.play_names.proofs.ResultLaws.{few_is}
use Rattle.play_model.proofs.TurnsFit.{heard_fits, begun_few}
use Rattle.play_model.proofs.TurnsTell.{turn_tells}

-- ## A call
call_led : (t : Task) (k : KeptActor) (node : ℕ) (r : Request) (told : Told) → IsNoTail k.holds → next_call k.writer ≡ Some (node, r)
    → LedTo (as_actor (Some t) [] k) (turn_taken (writer_heard k.writer node (heard_of told)).turn (Some t) (as_actor (Some t) [] (hears k node r told)))
unfolding Fits
call_led t k node r told n next = led_one _ _ (Call node r told) (subst (λ w. Fits w (Call node r told)) (sym (wants_call k (Some t) node r n next)) (refl, refl)) (goes_call t k node r told n)

pub goes_begin : (n : ℕ) (k : KeptActor) → IsReady n k.writer → is_under_way k.writer.phase ≡ true → GoesFar n k k turn.Going
unfolding turn_taken
goes_begin n k ready under = record { ready = ready; holds = refl; leads = λ t h. led_same _ _ refl; tells = under; fits = tt }

pub heard_more : (n : ℕ) (k0 k : KeptActor) (u : Turn) (node : ℕ) (r : Request) (told : Told) → GoesFar n k0 k u → next_call k.writer ≡ Some (node, r)
    → GoesFar n k0 (hears k node r told) (writer_heard k.writer node (heard_of told)).turn
unfolding turn_taken
heard_more n k0 k u node r told g next =
    let under : is_under_way k.writer.phase ≡ true = call_under k.writer node r next in
    let is : u ≡ turn.Going = going_is u (sym g.tells ∙ under) in
    record {
      ready = record { live = heard_live k.writer node (heard_of told) g.ready.live; sized = heard_sized n k.writer node (heard_of told) g.ready.sized };
      holds = g.holds;
      leads = λ t h.
          led_on _ (as_actor (Some t) [] k) _ (subst (λ (v : Turn). LedTo (as_actor (Some t) [] k0) (turn_taken v (Some t) (as_actor (Some t) [] k))) is (g.leads t h))
          (call_led t k node r told (subst (λ (o : Option Holding). IsNoTail o) (sym g.holds) h) next);
      tells = turn_tells k.writer node (heard_of told) under;
      fits = heard_fits k.writer node (heard_of told);
    }

-- ## Results
-- results one after the other are the results together
says_more : (a : KeptActor) (text : List ℕ) (texts : List (List ℕ)) → say_texts (say_texts a (text ∷ [])) texts ≡ say_texts a (text ∷ texts)
says_more a text texts = ap (λ xs. record a { past = xs }) (append_assoc a.past (Outcome text ∷ []) (map (λ x. Outcome x) texts))

results_led : (k : KeptActor) (texts : List (List ℕ)) → LedTo (as_actor None texts k) (resting (say_texts k texts))
unfolding Fits
results_led k [] = led_same _ _ (ap (λ l. resting (record k { past = l })) (sym (append-nil k.past)))
results_led k (text ∷ texts) =
    led_on _ (as_actor None texts (say_texts k (text ∷ []))) _
    (led_one _ _ (Outcome text) (subst (λ w. Fits w (Outcome text)) (sym (wants_said k None text texts)) refl) (goes_said k text texts))
    (subst (λ x. LedTo (as_actor None texts (say_texts k (text ∷ []))) (resting x)) (says_more k text texts) (results_led (say_texts k (text ∷ [])) texts))

said_is : (w : WriterView) (o : Option Holding) (old new : LogView) (texts : List (List ℕ)) → new.past ≡ old.past ++ map (λ text. Outcome text) texts
    → new.marks ≡ old.marks → kept_of w o new ≡ say_texts (kept_of w o old) texts
said_is w o old new texts e f =
    ap (λ (p : List Record). record { name = []; writer = w; holds = o; past = p; marks = new.marks }) e
    ∙ ap (λ (m : List Mark). record { name = []; writer = w; holds = o; past = old.past ++ map (λ text. Outcome text) texts; marks = m }) f

pub said_led : (old new : LogView) (texts : List (List ℕ)) → new.past ≡ old.past ++ map (λ text. Outcome text) texts → new.marks ≡ old.marks
    → (w : WriterView) (o : Option Holding) → LedTo (as_actor None texts (kept_of w o old)) (resting (kept_of w o new))
said_led old new texts e f w o = subst (λ x. LedTo (as_actor None texts (kept_of w o old)) (resting x)) (sym (said_is w o old new texts e f)) (results_led (kept_of w o old) texts)

-- ## Tasks
pub few_edits : (w : WriterView) (t : Task) → (writer_begun w t).begun ≡ begun.Going → AreFew (edits_of t)
few_edits w t e = few_is t (begun_few w t e)

-- ## Marks and copies
pub takes_mark : (n : ℕ) (w : WriterView) (o : Option Holding) (old new : LogView) (node call : ℕ) (mute : Bool) → IsIdleActor n (kept_of w o old)
    → IsUnbroken o → new ≡ lose_call old node call (mark_kind mute)
    → TakesAction n (mark_action mute node call) (kept_of w o old) (kept_of w o new)
takes_mark n w o old new node call true idle free e =
    subst (λ l. TakesAction n (DoMute node call) (kept_of w o old) (kept_of w o l)) (sym e)
    (record {
      idle = record { some = idle.some; ready = idle.ready; rests = idle.rests; holds = idle.holds };
      leads = led_same _ _ (handed_mute (kept_of w o old) node call (idle_no_tail o idle.holds) idle.rests free);
    })
takes_mark n w o old new node call false idle free e =
    subst (λ l. TakesAction n (DoDrop node call) (kept_of w o old) (kept_of w o l)) (sym e)
    (record {
      idle = record { some = idle.some; ready = idle.ready; rests = idle.rests; holds = idle.holds };
      leads = led_same _ _ (handed_drop (kept_of w o old) node call (idle_no_tail o idle.holds) idle.rests free);
    })

takes_copy : (n : ℕ) (w : WriterView) (o : Option Holding) (old new : LogView) (node call : ℕ) (r : Request) → IsIdleActor n (kept_of w o old)
    → IsUnbroken o → earlier_in old node call ≡ Some r → new ≡ copy_call old node call r
    → TakesAction n (DoLate node call) (kept_of w o old) (kept_of w o new)
unfolding Fits
takes_copy n w o old new node call r idle free made e =
    let k : KeptActor = kept_of w o old in
    subst (λ l. TakesAction n (DoLate node call) k (kept_of w o l)) (sym e)
    (record {
      idle = record { some = idle.some; ready = idle.ready; rests = idle.rests; holds = idle.holds };
      leads = led_on _ (with_copy k node call r) _ (led_same _ _ (handed_late k node call r (idle_no_tail o idle.holds) idle.rests free made))
          (led_one _ _ (Late node r) (subst (λ x. Fits x (Late node r)) (sym (wants_copy k node call r)) (refl, refl)) (goes_copy k node call r));
    })

-- ## Late copies
pub late_made : (n : ℕ) (w : WriterView) (o : Option Holding) (old new : LogView) (node call : ℕ) → IsIdleActor n (kept_of w o old) → IsUnbroken o
    → IsCopied (earlier_in old node call) old node call true new
    → TakesAction n (DoLate node call) (kept_of w o old) (kept_of w o new)
late_made n w o old new node call idle free made = by (earlier_in old node call) refl made
  where
    by : (x : Option Request) → earlier_in old node call ≡ x → IsCopied x old node call true new → TakesAction n (DoLate node call) (kept_of w o old) (kept_of w o new)
    by None e h = absurd (cc h.0)
    by (Some r) e h = takes_copy n w o old new node call r idle free e h.1

pub late_none_made : (n : ℕ) (w : WriterView) (o : Option Holding) (old mid new : LogView) (texts : List (List ℕ)) (node call : ℕ) → IsIdleActor n (kept_of w o old) → IsUnbroken o
    → IsCopied (earlier_in old node call) old node call false mid → texts ≡ late_none ∷ [] → IsSaidOf mid new texts → TakesAction n (DoLate node call) (kept_of w o old) (kept_of w o new)
late_none_made n w o old mid new texts node call idle free made are said = by (earlier_in old node call) refl made
  where
    by : (x : Option Request) → earlier_in old node call ≡ x → IsCopied x old node call false mid → TakesAction n (DoLate node call) (kept_of w o old) (kept_of w o new)
    by None e h =
        let k : KeptActor = kept_of w o old in
        let first : hand_action (DoLate node call) (resting k) ≡ as_actor None texts (kept_of w o mid) =
        handed_none k node call (idle_no_tail o idle.holds) idle.rests free e ∙ ap (λ (l : List (List ℕ)). as_actor None l k) (sym are)
        ∙ ap (λ (l : LogView). as_actor None texts (kept_of w o l)) (sym h.1) in
        record {
          idle = record { some = idle.some; ready = idle.ready; rests = idle.rests; holds = idle.holds };
          leads = led_on _ (as_actor None texts (kept_of w o mid)) _ (led_same _ _ first) (said w o);
        }
    by (Some r) e h = absurd (cc h.0)

-- ## For the code
pub on_ok_both : {A E : Type 0} {P Q S : Type 0} (r : Result A E) → (P → Q → S) → OnOk r P → OnOk r Q → OnOk r S
on_ok_both (Ok a) f h g = f h g
on_ok_both (Err e) f h g = tt
