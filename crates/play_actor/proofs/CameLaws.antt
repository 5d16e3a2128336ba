-- An actor without names: what came of a task of its writer is its action.
use Rattle.std.proofs.Common.{◌≡◌, ℕ, List, refl, sym, ap, ◌∙◌, subst, Option, Some, None}
use Rattle.std.specs.Prelude.{◌≢◌}
use Rattle.journal_core.specs.declared.peer_call.PeerCall.{PeerCall}
use Rattle.writer_core.specs.declared.cause.Cause.{Cause}
use Rattle.writer_core.specs.declared.phase.Phase.{Phase}
use Rattle.writer_core.specs.declared.phase.Phase.TheVariants as phase
use Rattle.writer_core.specs.declared.task.Task.{Task}
use Rattle.writer_core.specs.declared.task.Begun.{Begun}
use Rattle.writer_core.specs.declared.task.Begun.TheVariants as begun
use Rattle.writer_core.specs.declared.turn.Turn.{Turn}
use Rattle.writer_core.specs.declared.turn.Turn.TheVariants as turn
use Rattle.writer_core.specs.Views.{WriterView}
use Rattle.writer_core.specs.Turns.{phase_after}
use Rattle.writer_core.specs.Writer.{next_call, writer_begun}
use Rattle.writer_calls.specs.declared.came.Came.{Came}
use Rattle.writer_calls.specs.declared.came.Came.TheVariants as came
use Rattle.writer_calls.specs.Tasks.{Ends, Comes}
use Rattle.play_names.specs.Results.{name_of, results_of}
use Rattle.play_names.specs.ResultLists.{edits_of, texts_of}
use Rattle.play_calls.specs.Logs.{LogView, calls_in}
use Rattle.play_calls.specs.Made.{MakesCalls}
use Rattle.play_calls.proofs.CallLists.{nothing_made}
use Rattle.play_model.specs.Lines.{Does}
use Rattle.play_model.specs.KeptActor.{as_actor, doing_after}
use Rattle.play_model.specs.Went.{refused_results}
use Rattle.play_model.specs.Actions.{kept_of, IsIdleActor, TakesAction}
use Rattle.play_model.proofs.KeptActor.{raw_turn, handed_refused, handed_going}
use Rattle.play_names.proofs.ResultLaws.{results_are, inactive_are, too_long_are}
use Rattle.play_actor.specs.Came.{texts_came, CameFits}
use Rattle.play_actor.specs.Rounds.{IsSaidOf}
use Rattle.play_actor.proofs.Stretches.{few_edits}
use Rattle.play_actor.proofs.NodeLaws.{done_rests, stopped_rests, said_same, ends_far, still_takes, task_takes}

module _ (n : ℕ) (w v : WriterView) (old mid new : LogView) (before after : List PeerCall) (t : Task)
    (first : before ≡ calls_in old.past) (last : after ≡ calls_in mid.past) (idle : IsIdleActor n (kept_of w None old)) where
  refused_so : (b : Begun) (texts : List (List ℕ)) → (writer_begun w t).begun ≡ b → refused_results t b ≡ Some texts → v ≡ w → after ≡ before → MakesCalls old mid → IsSaidOf mid new texts
      → TakesAction n (Does t) (kept_of w None old) (kept_of v None new)
  refused_so b texts is e same none made said =
      let refused : refused_results t (writer_begun w t).begun ≡ Some texts = ap (λ (x : Begun). refused_results t x) is ∙ e in
      subst (λ (x : WriterView). TakesAction n (Does t) (kept_of w None old) (kept_of x None new)) (sym same)
      (still_takes n (Does t) w None None old new texts idle (handed_refused (kept_of w None old) t texts tt idle.rests refl refused) tt
      (said_same old mid new texts (nothing_made old mid before after made first last none) made.marks said))

  done_so : (u : Turn) (p : Phase) (texts : List (List ℕ)) → Ends t w before v after u p → next_call v ≡ None → doing_after t u ≡ None → MakesCalls old mid
      → texts ≡ texts_of (name_of t) (edits_of t) u v.causes → IsSaidOf mid new texts → TakesAction n (Does t) (kept_of w None old) (kept_of v None new)
  done_so u p texts e over rests made are said =
      task_takes n (Does t) w v None None None old mid new before after t u p texts idle first last made e over tt (handed_going (kept_of w None old) t tt idle.rests refl e.begun)
      (raw_turn t v mid u
      ∙ ap (λ (x : Option Task). as_actor x (results_of t u v.causes) (kept_of v None mid)) rests
      ∙ ap (λ (l : List (List ℕ)). as_actor None l (kept_of v None mid)) (results_are t u v.causes ∙ sym are)) tt said

  pub takes_came : (c : Came) (texts : List (List ℕ)) → Comes t w before v after c → c ≢ came.OutOfMemory → MakesCalls old mid
      → texts ≡ texts_came (name_of t) (edits_of t) c → IsSaidOf mid new texts → TakesAction n (Does t) (kept_of w None old) (kept_of v None new)
  takes_came came.NotActive texts h some made are said =
      refused_so begun.NotActive texts h.refused (ap (λ (x : List (List ℕ)). Some x) (inactive_are t ∙ sym are)) h.same h.none made said
  takes_came (came.TooLong number) texts h some made are said =
      refused_so (begun.TooLong number) texts h.refused (ap (λ (x : List (List ℕ)). Some x) (too_long_are t number ∙ sym are)) h.same h.none made said
  takes_came (came.Done o) texts h some made are said = done_so (turn.Done o) (phase_after o) texts h (done_rests o v h.phase) refl made are said
  takes_came (came.Aborted causes) texts h some made are said =
      done_so turn.Aborted phase.Stopped texts h.0 (stopped_rests v h.0.phase) refl made (are ∙ ap (λ (x : List Cause). texts_of (name_of t) (edits_of t) turn.Aborted x) h.1) said
  takes_came (came.EpochLimit told) texts h some made are said = done_so (turn.EpochLimit told) phase.Stopped texts h (stopped_rests v h.phase) refl made are said
  takes_came came.OutOfMemory texts h some made are said = absurd (some refl)

  -- and its results can be told
  pub came_fits : (c : Came) → Comes t w before v after c → (c ≢ came.OutOfMemory → MakesCalls old mid) → CameFits (edits_of t) c
  came_fits came.NotActive h made = tt
  came_fits (came.TooLong number) h made = tt
  came_fits (came.Done o) h made = ((ends_far n w v old mid before after t (turn.Done o) (phase_after o) None idle.ready first last (made (λ e. cc e)) h).fits, few_edits w t h.begun)
  came_fits (came.Aborted causes) h made = few_edits w t h.0.begun
  came_fits (came.EpochLimit told) h made = few_edits w t h.begun
  came_fits came.OutOfMemory h made = tt
