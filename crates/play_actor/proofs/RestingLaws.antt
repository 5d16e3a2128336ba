-- What a standby does: its tails, its images.
use Rattle.std.proofs.Common.{◌≡◌, ℕ, List, [], ◌∷◌, ◌++◌, codes, Bool, true, false, Option, Some, None, refl, sym, ap, ◌∙◌}
use Rattle.ns_edits.specs.Replay.{Image}
use Rattle.writer_core.specs.Views.{WriterView}
use Rattle.writer_core.specs.Writer.{is_writing}
use Rattle.play_names.specs.Holding.{Holding, Free, save_image, reload_image}
use Rattle.play_names.specs.Tails.{TailStep, pass_begun}
use Rattle.play_names.specs.declared.tailed.Tailed.{Tailed}
use Rattle.play_names.specs.declared.tailed.Tailed.TheVariants as tailed
use Rattle.play_names.specs.Results.{word, cause_words}
use Rattle.play_names.specs.ResultLists.{tail_texts}
use Rattle.play_standby.specs.Standbys.{StandbyView, held}
use Rattle.play_standby.specs.Saves.{one_saved}
use Rattle.play_standby.specs.Tailing.{IsEnd}
use Rattle.play_calls.specs.Logs.{LogView}
use Rattle.play_model.specs.Lines.{Action, DoTail, Saves, Reloads}
use Rattle.play_model.specs.Actor.{Actor, hand_action, take_action, unless_active, begin_save, begin_reload, tail_stepped, tail_ended, tail_text}
use Rattle.play_model.specs.KeptActor.{KeptActor, as_actor, resting}
use Rattle.play_model.specs.Actions.{kept_of, IsIdleHolding, IsIdleActor, TakesAction}
use Rattle.play_model.proofs.Framed.{tail_framed}
use Rattle.play_model.proofs.LedLaws.{led_same, led_on}
use Rattle.play_actor.specs.Nodes.{kept_resting, is_bad_entry, broken_if}
use Rattle.play_actor.specs.Rounds.{IsSaidOf}
use Rattle.play_actor.proofs.NodeLaws.{todo_so, free_idle, free_rest, said_takes, still_takes}
use Rattle.play_actor.proofs.TailAlong.{TailGoes}
use Rattle.play_actor.proofs.RefusedLaws.{tail_taken, saves_taken, reloads_taken}

-- ## Tails
-- what a tail says and leaves
tail_shown : (end : TailStep) (t : Tailed) (w : WriterView) (o : Option Holding) (images : List Image) (s : StandbyView) (log : LogView) → IsEnd end images s t
    → tail_stepped None end (as_actor None [] (kept_of w o log)) ≡ as_actor None (tail_texts t) (kept_of w (Some (broken_if (is_bad_entry t) (held images s))) log)
unfolding tail_stepped tail_ended tail_text
tail_shown end (tailed.Caught txid) w o images s log is =
    ap (λ (x : TailStep). tail_stepped None x (as_actor None [] (kept_of w o log))) is.0
    ∙ ap (λ (p : ℕ). as_actor None (word (codes "tail") p ∷ []) (kept_of w (Some (held images s)) log)) (sym is.1)
tail_shown end (tailed.Reached txid) w o images s log is =
    ap (λ (x : TailStep). tail_stepped None x (as_actor None [] (kept_of w o log))) is.0
    ∙ ap (λ (p : ℕ). as_actor None (word (codes "tail") p ∷ []) (kept_of w (Some (held images s)) log)) (sym is.1)
tail_shown end (tailed.Behind txid causes) w o images s log is =
    ap (λ (x : TailStep). tail_stepped None x (as_actor None [] (kept_of w o log))) is.0
    ∙ ap (λ (p : ℕ). as_actor None ((word (codes "tail behind") p ++ cause_words causes) ∷ []) (kept_of w (Some (held images s)) log)) (sym is.1)
tail_shown end (tailed.Purged first) w o images s log is = ap (λ (x : TailStep). tail_stepped None x (as_actor None [] (kept_of w o log))) is
tail_shown end (tailed.BadEntry txid) w o images s log is = ap (λ (x : TailStep). tail_stepped None x (as_actor None [] (kept_of w o log))) is.0
tail_shown end tailed.OutOfMemory w o images s log is = absurd is

broken_idle : (b : Bool) (images : List Image) (s : StandbyView) → IsIdleHolding (Some (broken_if b (held images s)))
broken_idle true images s = refl
broken_idle false images s = refl

pub tail_takes : (n : ℕ) (w : WriterView) (images : List Image) (s s' : StandbyView) (old mid new : LogView) (t : Tailed) (texts : List (List ℕ))
    → IsIdleActor n (kept_resting w images s old) → is_writing w.phase ≡ false → TailGoes n None (held images s) old images s' mid t
    → texts ≡ tail_texts t → IsSaidOf mid new texts
    → TakesAction n DoTail (kept_resting w images s old) (kept_of w (Some (broken_if (is_bad_entry t) (held images s'))) new)
tail_takes n w images s s' old mid new t texts idle shut goes are said =
    let h : Holding = held images s in
    let h' : Holding = broken_if (is_bad_entry t) (held images s') in
    let k : KeptActor = kept_of w (Some h) old in
    let begins : hand_action DoTail (resting k) ≡ tail_stepped None (pass_begun None h) (resting k) =
    free_rest n w h old DoTail idle refl
    ∙ ap (λ (x : Actor). record x { todo = [] }) (tail_taken w h old)
    ∙ ap (λ (b : Bool). record (unless_active b (tail_stepped None (pass_begun None h) (resting k)) (resting k)) { todo = [] }) shut
    ∙ todo_so (tail_stepped None (pass_begun None h)) (tail_framed None (pass_begun None h)) (resting k) refl in
    let ends : tail_stepped None goes.end (as_actor None [] (kept_of w (Some h) mid)) ≡ as_actor None texts (kept_of w (Some h') mid) =
    tail_shown goes.end t w (Some h) images s' mid goes.is ∙ ap (λ (l : List (List ℕ)). as_actor None l (kept_of w (Some h') mid)) (sym are) in
    said_takes n DoTail w w (Some h) (Some h') old mid new texts idle
    (led_on _ _ _ (led_same _ _ begins) (led_on _ _ _ (goes.leads w (Some h) idle.ready.sized.left) (led_same _ _ ends)))
    idle.ready idle.rests (broken_idle (is_bad_entry t) images s') said

-- ## Images
plain_takes : (n : ℕ) (w : WriterView) (h h' : Holding) (old new : LogView) (d : Action) (f : Actor → Actor) (texts : List (List ℕ)) → IsIdleActor n (kept_of w (Some h) old)
    → h.work ≡ Free → is_writing w.phase ≡ false → h'.work ≡ Free
    → take_action d (resting (kept_of w (Some h) old)) ≡ unless_active (is_writing w.phase) (f (resting (kept_of w (Some h) old))) (resting (kept_of w (Some h) old))
    → record (f (resting (kept_of w (Some h) old))) { todo = [] } ≡ as_actor None texts (kept_of w (Some h') old) → IsSaidOf old new texts
    → TakesAction n d (kept_of w (Some h) old) (kept_of w (Some h') new)
plain_takes n w h h' old new d f texts idle free shut free' is shows said =
    let k : KeptActor = kept_of w (Some h) old in
    still_takes n d w (Some h) (Some h') old new texts idle
    (free_rest n w h old d idle free
    ∙ ap (λ (x : Actor). record x { todo = [] }) is
    ∙ ap (λ (b : Bool). record (unless_active b (f (resting k)) (resting k)) { todo = [] }) shut
    ∙ shows)
    (free_idle h' free') said

saved_is : (images images' : List Image) (s : StandbyView) → images' ≡ one_saved images s → held images' s ≡ save_image (held images s)
unfolding save_image
saved_is images images' s e = ap (λ (l : List Image). held l s) e

pub saves_takes : (n : ℕ) (w : WriterView) (images images' : List Image) (s : StandbyView) (old new : LogView) (texts : List (List ℕ)) → IsIdleActor n (kept_resting w images s old)
    → is_writing w.phase ≡ false → images' ≡ one_saved images s → texts ≡ word (codes "checkpoint") s.position ∷ [] → IsSaidOf old new texts
    → TakesAction n Saves (kept_resting w images s old) (kept_resting w images' s new)
saves_takes n w images images' s old new texts idle shut saved are said =
    let h : Holding = held images s in
    plain_takes n w h (held images' s) old new Saves (begin_save h) texts idle refl shut refl (saves_taken w h old)
    (ap (λ (l : List (List ℕ)). as_actor None l (kept_of w (Some (save_image h)) old)) (sym are)
    ∙ ap (λ (x : Holding). as_actor None texts (kept_of w (Some x) old)) (sym (saved_is images images' s saved)))
    said

pub reloads_takes : (n : ℕ) (w : WriterView) (images : List Image) (s s' : StandbyView) (old new : LogView) (texts : List (List ℕ)) → IsIdleActor n (kept_resting w images s old)
    → is_writing w.phase ≡ false → held images s' ≡ reload_image (held images s) → texts ≡ word (codes "reload") s'.position ∷ [] → IsSaidOf old new texts
    → TakesAction n Reloads (kept_resting w images s old) (kept_resting w images s' new)
reloads_takes n w images s s' old new texts idle shut loaded are said =
    let h : Holding = held images s in
    let said_as : texts ≡ word (codes "reload") (reload_image h).position ∷ [] = are ∙ ap (λ (x : Holding). word (codes "reload") x.position ∷ []) loaded in
    plain_takes n w h (held images s') old new Reloads (begin_reload h) texts idle refl shut refl (reloads_taken w h old)
    (ap (λ (l : List (List ℕ)). as_actor None l (kept_of w (Some (reload_image h)) old)) (sym said_as) ∙ ap (λ (x : Holding). as_actor None texts (kept_of w (Some x) old)) (sym loaded))
    said
