-- What a name node refuses, and what leaves it as it is.
use Rattle.std.proofs.Common.{◌≡◌, ℕ, List, [], ◌∷◌, ◌++◌, codes, map, length, replicate, Bool, true, false, Some, None, refl, sym, ap, ◌∙◌}
use Rattle.edit_ops.specs.Records.{EditView}
use Rattle.writer_core.specs.declared.task.Task.{Task}
use Rattle.writer_core.specs.declared.task.Task.TheVariants as task
use Rattle.writer_core.specs.declared.task.Begun.{Begun}
use Rattle.writer_core.specs.declared.task.Begun.TheVariants as begun
use Rattle.writer_core.specs.declared.phase.Aim.TheVariants as aim
use Rattle.writer_core.specs.declared.round.Round.TheVariants as round
use Rattle.writer_core.specs.Views.{WriterView}
use Rattle.writer_core.specs.Rounds.{asks_others, end_record}
use Rattle.writer_core.specs.Writer.{Began, begins, if_writing, is_writing, writer_begun}
use Rattle.play_names.specs.Holding.{Holding, Free, min_to_keep}
use Rattle.play_names.specs.Results.{name_of, inactive_results}
use Rattle.play_names.specs.ResultLists.{times}
use Rattle.play_names.specs.Tails.{pass_begun}
use Rattle.play_calls.specs.Logs.{LogView}
use Rattle.play_model.specs.Lines.{Action, Does, DoTail, Saves, Reloads, Submits, Trims}
use Rattle.play_model.specs.Actor.{Actor, hand_action, take_action, take_named_action, unless_active, begin_save, begin_reload, tail_stepped, logged_when, trim_at}
use Rattle.play_model.specs.KeptActor.{as_actor, resting}
use Rattle.play_model.specs.Went.{refused_results}
use Rattle.play_model.specs.Actions.{kept_of, IsIdleActor, TakesAction}
use Rattle.play_model.proofs.KeptActor.{idle_no_tail, handed_refused}
use Rattle.play_names.proofs.ResultLaws.{inactive_are}
use Rattle.play_actor.specs.Rounds.{IsSaidOf}
use Rattle.play_actor.proofs.NodeLaws.{free_whole, free_idle, free_rest, still_takes}

abbrev one_active : List (List ℕ)
one_active = codes "active" ∷ []

-- ## Of one that is active
active_shown : (n : ℕ) (w : WriterView) (h : Holding) (log : LogView) (d : Action) (f : Actor → Actor) → IsIdleActor n (kept_of w (Some h) log) → h.work ≡ Free → is_writing w.phase ≡ true
    → take_action d (resting (kept_of w (Some h) log)) ≡ unless_active (is_writing w.phase) (f (resting (kept_of w (Some h) log))) (resting (kept_of w (Some h) log))
    → hand_action d (resting (kept_of w (Some h) log)) ≡ as_actor None one_active (kept_of w (Some h) log)
active_shown n w h log d f idle free writing is =
    free_rest n w h log d idle free
    ∙ ap (λ (x : Actor). record x { todo = [] }) is
    ∙ ap (λ (b : Bool). record (unless_active b (f (resting (kept_of w (Some h) log))) (resting (kept_of w (Some h) log))) { todo = [] }) writing

active_by : (n : ℕ) (w : WriterView) (h : Holding) (old new : LogView) (d : Action) (f : Actor → Actor) (texts : List (List ℕ)) → IsIdleActor n (kept_of w (Some h) old)
    → h.work ≡ Free → is_writing w.phase ≡ true
    → take_action d (resting (kept_of w (Some h) old)) ≡ unless_active (is_writing w.phase) (f (resting (kept_of w (Some h) old))) (resting (kept_of w (Some h) old))
    → texts ≡ one_active → IsSaidOf old new texts → TakesAction n d (kept_of w (Some h) old) (kept_of w (Some h) new)
active_by n w h old new d f texts idle free writing is are said =
    still_takes n d w (Some h) (Some h) old new texts idle
    (active_shown n w h old d f idle free writing is ∙ ap (λ (l : List (List ℕ)). as_actor None l (kept_of w (Some h) old)) (sym are)) (free_idle h free) said

pub tail_taken : (w : WriterView) (h : Holding) (log : LogView)
    → take_action DoTail (resting (kept_of w (Some h) log)) ≡ unless_active (is_writing w.phase)
    (tail_stepped None (pass_begun None h) (resting (kept_of w (Some h) log))) (resting (kept_of w (Some h) log))
unfolding take_action take_named_action
tail_taken w h log = refl

pub saves_taken : (w : WriterView) (h : Holding) (log : LogView)
    → take_action Saves (resting (kept_of w (Some h) log)) ≡ unless_active (is_writing w.phase) (begin_save h (resting (kept_of w (Some h) log))) (resting (kept_of w (Some h) log))
unfolding take_action take_named_action
saves_taken w h log = refl

pub reloads_taken : (w : WriterView) (h : Holding) (log : LogView)
    → take_action Reloads (resting (kept_of w (Some h) log)) ≡ unless_active (is_writing w.phase) (begin_reload h (resting (kept_of w (Some h) log))) (resting (kept_of w (Some h) log))
unfolding take_action take_named_action
reloads_taken w h log = refl

module _ (n : ℕ) (w : WriterView) (h : Holding) (old new : LogView) (texts : List (List ℕ)) (idle : IsIdleActor n (kept_of w (Some h) old)) (free : h.work ≡ Free) where
  pub active_tail : is_writing w.phase ≡ true → texts ≡ codes "active" ∷ [] → IsSaidOf old new texts → TakesAction n DoTail (kept_of w (Some h) old) (kept_of w (Some h) new)
  active_tail writing are said = active_by n w h old new DoTail (tail_stepped None (pass_begun None h)) texts idle free writing (tail_taken w h old) are said

  pub active_saves : is_writing w.phase ≡ true → texts ≡ codes "active" ∷ [] → IsSaidOf old new texts → TakesAction n Saves (kept_of w (Some h) old) (kept_of w (Some h) new)
  active_saves writing are said = active_by n w h old new Saves (begin_save h) texts idle free writing (saves_taken w h old) are said

  pub active_reloads : is_writing w.phase ≡ true → texts ≡ codes "active" ∷ [] → IsSaidOf old new texts → TakesAction n Reloads (kept_of w (Some h) old) (kept_of w (Some h) new)
  active_reloads writing are said = active_by n w h old new Reloads (begin_reload h) texts idle free writing (reloads_taken w h old) are said

-- ## Of a standby
pub trims_taken : (extra : ℕ) (w : WriterView) (h : Holding) (log : LogView)
    → take_action (Trims extra) (resting (kept_of w (Some h) log)) ≡ trim_at (is_writing w.phase) (min_to_keep extra h.images) (resting (kept_of w (Some h) log))
unfolding take_action take_named_action
trims_taken extra w h log = refl

pub submits_taken : (es : List EditView) (w : WriterView) (h : Holding) (log : LogView)
    → take_action (Submits es) (resting (kept_of w (Some h) log)) ≡ logged_when (is_writing w.phase) es h (resting (kept_of w (Some h) log))
unfolding take_action take_named_action
submits_taken es w h log = refl

all_inactive : (es : List EditView) → map (λ e. codes "inactive") es ≡ replicate (length es) (codes "inactive")
all_inactive [] = refl
all_inactive (e ∷ es) = ap (λ (x : List (List ℕ)). codes "inactive" ∷ x) (all_inactive es)

if_shut : (b : Bool) (x : Began) (w : WriterView) → b ≡ false → (if_writing b x w).begun ≡ begun.NotActive
if_shut b x w e = ap (λ (y : Bool). (if_writing y x w).begun) e

roll_shut : (w : WriterView) → is_writing w.phase ≡ false → (writer_begun w task.Roll).begun ≡ begun.NotActive
unfolding writer_begun
roll_shut w e = if_shut (is_writing w.phase) (begins (asks_others (round.Write end_record) (record w { aim = aim.Roll }))) w e

close_shut : (w : WriterView) → is_writing w.phase ≡ false → (writer_begun w task.Close).begun ≡ begun.NotActive
unfolding writer_begun
close_shut w e = if_shut (is_writing w.phase) (begins (asks_others (round.Write end_record) (record w { aim = aim.Close }))) w e

module _ (n : ℕ) (w : WriterView) (h : Holding) (old new : LogView) (texts : List (List ℕ)) (idle : IsIdleActor n (kept_of w (Some h) old)) (free : h.work ≡ Free)
    (shut : is_writing w.phase ≡ false) where
  task_inactive : (t : Task) → (writer_begun w t).begun ≡ begun.NotActive → texts ≡ inactive_results t → IsSaidOf old new texts
      → TakesAction n (Does t) (kept_of w (Some h) old) (kept_of w (Some h) new)
  task_inactive t e are said =
      still_takes n (Does t) w (Some h) (Some h) old new texts idle
      (handed_refused (kept_of w (Some h) old) t texts (idle_no_tail (Some h) idle.holds) idle.rests (free_whole h free)
      (ap (λ (b : Begun). refused_results t b) e ∙ ap (λ (x : List (List ℕ)). Some x) (sym are))) (free_idle h free) said

  pub roll_inactive : texts ≡ times None (codes "roll " ++ codes "inactive") → IsSaidOf old new texts → TakesAction n (Does task.Roll) (kept_of w (Some h) old) (kept_of w (Some h) new)
  unfolding name_of
  roll_inactive are said = task_inactive task.Roll (roll_shut w shut) (are ∙ sym (inactive_are task.Roll)) said

  pub close_inactive : texts ≡ times None (codes "close " ++ codes "inactive") → IsSaidOf old new texts → TakesAction n (Does task.Close) (kept_of w (Some h) old) (kept_of w (Some h) new)
  unfolding name_of
  close_inactive are said = task_inactive task.Close (close_shut w shut) (are ∙ sym (inactive_are task.Close)) said

  pub submits_inactive : (es : List EditView) (count : ℕ) (text : List ℕ) → count ≡ length es → text ≡ codes "inactive" → texts ≡ replicate count text → IsSaidOf old new texts
      → TakesAction n (Submits es) (kept_of w (Some h) old) (kept_of w (Some h) new)
  unfolding logged_when
  submits_inactive es count text c t are said =
      let all : map (λ e. codes "inactive") es ≡ texts = all_inactive es ∙ ap (λ (k : ℕ). replicate k (codes "inactive")) (sym c) ∙ ap (λ (x : List ℕ). replicate count x) (sym t) ∙ sym are in
      still_takes n (Submits es) w (Some h) (Some h) old new texts idle
      (free_rest n w h old (Submits es) idle free
      ∙ ap (λ (x : Actor). record x { todo = [] }) (submits_taken es w h old)
      ∙ ap (λ (b : Bool). record (logged_when b es h (resting (kept_of w (Some h) old))) { todo = [] }) shut
      ∙ ap (λ (l : List (List ℕ)). as_actor None l (kept_of w (Some h) old)) all)
      (free_idle h free) said

  pub trim_inactive : (extra : ℕ) → texts ≡ codes "trim inactive" ∷ [] → IsSaidOf old new texts → TakesAction n (Trims extra) (kept_of w (Some h) old) (kept_of w (Some h) new)
  unfolding trim_at
  trim_inactive extra are said =
      still_takes n (Trims extra) w (Some h) (Some h) old new texts idle
      (free_rest n w h old (Trims extra) idle free
      ∙ ap (λ (x : Actor). record x { todo = [] }) (trims_taken extra w h old)
      ∙ ap (λ (b : Bool). record (trim_at b (min_to_keep extra h.images) (resting (kept_of w (Some h) old))) { todo = [] }) shut
      ∙ ap (λ (l : List (List ℕ)). as_actor None l (kept_of w (Some h) old)) (sym are))
      (free_idle h free) said
