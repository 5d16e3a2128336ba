-- A takeover of a name node: the rounds of its writer, and its tail.
use Rattle.std.proofs.Common.{◌≡◌, ℕ, ◌-◌, List, [], ◌∷◌, ◌++◌, codes, true, Option, Some, None, refl, sym, ap, ◌∙◌, subst}
use Rattle.std.specs.Prelude.{◌≢◌}
use Rattle.journal_core.specs.declared.peer_call.PeerCall.{PeerCall}
use Rattle.ns_edits.specs.Replay.{Image}
use Rattle.writer_core.specs.declared.cause.Cause.{Cause}
use Rattle.writer_core.specs.declared.phase.Phase.{Phase}
use Rattle.writer_core.specs.declared.phase.Phase.TheVariants as phase
use Rattle.writer_core.specs.declared.task.Task.TheVariants as task
use Rattle.writer_core.specs.declared.turn.Turn.{Turn}
use Rattle.writer_core.specs.declared.turn.Turn.TheVariants as turn
use Rattle.writer_core.specs.declared.turn.Outcome.TheVariants as outcome
use Rattle.writer_core.specs.Views.{WriterView}
use Rattle.writer_core.specs.Writer.{is_writing, next_call, writer_begun, writer_stopped}
use Rattle.writer_core.proofs.LiveLaws.{stopped_live}
use Rattle.writer_calls.specs.declared.taken.Taken.TheVariants as round
use Rattle.writer_calls.specs.Tasks.{Ends}
use Rattle.play_names.specs.Holding.{Holding, Broken, with_work, at_position, reload_image, enters}
use Rattle.play_names.specs.Tails.{TailStep}
use Rattle.play_names.specs.declared.tailed.Tailed.{Tailed}
use Rattle.play_names.specs.declared.tailed.Tailed.TheVariants as tailed
use Rattle.play_names.specs.Results.{word, took, cause_words, for_each, name_of}
use Rattle.play_names.specs.ResultLists.{aborted_text, behind_text}
use Rattle.play_names.proofs.HoldingLaws.{reloaded_free}
use Rattle.play_standby.specs.Standbys.{StandbyView, held}
use Rattle.play_standby.specs.Tailing.{IsEnd, TailEnds}
use Rattle.play_standby.specs.Actives.{ActiveView, is_open}
use Rattle.play_standby.specs.Entering.{entry_begun, Enters, Fails, Meets, Refuses, IsTakenOver}
use Rattle.play_standby.specs.declared.entered.Entered.{Entered}
use Rattle.play_standby.specs.declared.entered.Entered.TheVariants as entered
use Rattle.play_standby.specs.EntryAnswers.{IsEntry, HasMemory}
use Rattle.play_calls.specs.Logs.{LogView, calls_in}
use Rattle.play_calls.specs.Made.{MakesCalls}
use Rattle.play_calls.proofs.CallLists.{CutsLog, cut_log}
use Rattle.play_model.specs.Lines.{Does}
use Rattle.play_model.specs.Actor.{hand_action, tail_ended, tail_stepped, task_done, held_turn, turn_with, turn_taken, entry_text}
use Rattle.play_model.specs.KeptActor.{as_actor, resting}
use Rattle.play_model.specs.Ready.{IsReady}
use Rattle.play_model.specs.Went.{TellsTaken}
use Rattle.play_model.specs.Actions.{kept_of, GoesFar, IsIdleHolding, IsIdleActor, TakesAction}
use Rattle.play_model.proofs.LedLaws.{led_same, led_on}
use Rattle.play_actor.specs.Nodes.{NameView, kept_node, kept_resting, standing}
use Rattle.play_actor.specs.Entries.{texts_entered, writer_entered, holding_entered, StandsSo}
use Rattle.play_actor.specs.Rounds.{IsSaidOf}
use Rattle.play_actor.proofs.Along.{taken_by}
use Rattle.play_actor.proofs.TailAlong.{TailGoes, tail_goes, tailed_ends}
use Rattle.play_actor.proofs.NodeLaws.{done_rests, stopped_rests, ends_far, free_idle, does_begins, said_takes, task_takes, node_takes}

-- ## Rounds that were not done
entry_aborted : (v : WriterView) (images : List Image) (s : StandbyView) (log : LogView)
    → turn_taken turn.Aborted (Some task.Takeover) (as_actor (Some task.Takeover) [] (kept_of v (Some (held images s)) log))
    ≡ as_actor None (aborted_text (codes "takeover ") v.causes ∷ []) (kept_of v (Some (reload_image (held images s))) log)
unfolding turn_taken turn_with held_turn task_done for_each name_of
entry_aborted v images s log = refl

entry_limit : (v : WriterView) (images : List Image) (s : StandbyView) (log : LogView) (told : ℕ)
    → turn_taken (turn.EpochLimit told) (Some task.Takeover) (as_actor (Some task.Takeover) [] (kept_of v (Some (held images s)) log))
    ≡ as_actor None (word (codes "takeover limit") told ∷ []) (kept_of v (Some (held images s)) log)
unfolding turn_taken turn_with held_turn task_done
entry_limit v images s log told = refl

-- ## Rounds that were done, and then the tail
took_shown : (v : WriterView) (h : Holding) (log : LogView) (epoch first : ℕ)
    → turn_taken (turn.Done (outcome.Takeover epoch first)) (Some task.Takeover) (as_actor (Some task.Takeover) [] (kept_of v (Some h) log))
    ≡ tail_stepped (Some (first - 1)) (entry_begun first h) (as_actor None [] (kept_of v (Some h) log))
unfolding turn_taken turn_with held_turn task_done
took_shown v h log epoch first = refl

stopped_ready : (n : ℕ) (w : WriterView) → IsReady n w → IsReady n (writer_stopped w)
stopped_ready n w ready = record { live = stopped_live w ready.live; sized = record { left = ready.sized.left; slots = ready.sized.slots; fetch = tt } }

-- where the tail goes after the rounds of a takeover, and what it says then
module _ (n epoch first : ℕ) (images : List Image) (w v : WriterView) (s s' : StandbyView) (old log new : LogView) (before after : List PeerCall) (t : Tailed)
    (idle : IsIdleActor n (kept_resting w images s old)) (start : before ≡ calls_in old.past) (end : after ≡ calls_in log.past) (made : MakesCalls old log)
    (e : Enters n epoch first images w s before after v s' t) (some : t ≢ tailed.OutOfMemory) where
  tail : TailEnds n (entry_begun first (held images s)) images e.mid after s' t
  tail = tailed_ends n (entry_begun first (held images s)) images e.mid after s' t some e.tail

  cut : CutsLog old log e.mid
  cut = cut_log old log before e.mid after e.took.calls.made tail.leads.made made start end e.took.calls.grew tail.leads.grew

  far : GoesFar n (kept_of (writer_begun w task.Takeover).writer (Some (held images s)) old) (kept_of v (Some (held images s)) cut.log) (turn.Done (outcome.Takeover epoch first))
  far = ends_far n w v old cut.log before e.mid task.Takeover (turn.Done (outcome.Takeover epoch first)) phase.Writing (Some (held images s)) idle.ready start cut.calls cut.first e.took

  goes : TailGoes n (Some (first - 1)) (enters (first - 1) (held images s)) cut.log images s' log t
  goes = tail_goes n (Some (first - 1)) (enters (first - 1) (held images s)) images cut.log log e.mid after s' t cut.rest cut.calls end tail

  pub took_writer : TellsTaken (turn.Done (outcome.Takeover epoch first)) v
  took_writer = taken_by (writer_begun w task.Takeover).writer v before e.mid (turn.Done (outcome.Takeover epoch first)) e.took.calls

  pub writer_rests : next_call v ≡ None
  writer_rests = done_rests (outcome.Takeover epoch first) v e.took.phase

  pub entered_takes : (v' : WriterView) (h' : Holding) (texts : List (List ℕ)) → (IsReady n v → IsReady n v') → next_call v' ≡ None → IsIdleHolding (Some h')
      → ((step : TailStep) → IsEnd step images s' t
      → tail_stepped (Some (first - 1)) step (as_actor None [] (kept_of v (Some (held images s)) log)) ≡ as_actor None texts (kept_of v' (Some h') log)) → IsSaidOf log new texts
      → TakesAction n (Does task.Takeover) (kept_resting w images s old) (kept_of v' (Some h') new)
  entered_takes v' h' texts ready over holds shows said =
      let h : Holding = held images s in
      let began : hand_action (Does task.Takeover) (resting (kept_of w (Some h) old)) ≡ as_actor (Some task.Takeover) [] (kept_of (writer_begun w task.Takeover).writer (Some h) old) =
      does_begins n w h old task.Takeover idle refl e.took.begun in
      said_takes n (Does task.Takeover) w v' (Some h) (Some h') old log new texts idle
      (led_on _ _ _ (led_same _ _ began)
      (led_on _ _ _ (far.leads task.Takeover refl)
      (led_on _ _ _ (led_same _ _ (took_shown v h cut.log epoch first))
      (led_on _ _ _ (goes.leads v (Some h) far.ready.sized.left) (led_same _ _ (shows goes.end goes.is))))))
      (ready far.ready) over holds said

-- ## What the tail says
reached_shown : (first epoch last : ℕ) (v : WriterView) (o : Option Holding) (images : List Image) (s : StandbyView) (log : LogView) (txid : ℕ) (step : TailStep)
    → IsEnd step images s (tailed.Reached txid) → TellsTaken (turn.Done (outcome.Takeover epoch first)) v
    → tail_stepped (Some last) step (as_actor None [] (kept_of v o log)) ≡ as_actor None (took epoch first ∷ []) (kept_of v (Some (at_position first (held images s))) log)
unfolding tail_stepped tail_ended
reached_shown first epoch last v o images s log txid step is tells =
    let h : Holding = held images s in
    ap (λ (x : TailStep). tail_stepped (Some last) x (as_actor None [] (kept_of v o log))) is.0
    ∙ ap (λ (x : ℕ). as_actor None (took v.epoch x ∷ []) (kept_of v (Some (at_position x h)) log)) (sym tells.1)
    ∙ ap (λ (x : ℕ). as_actor None (took x first ∷ []) (kept_of v (Some (at_position first h)) log)) (sym tells.0)

behind_shown : (last : ℕ) (v : WriterView) (o : Option Holding) (images : List Image) (s : StandbyView) (log : LogView) (txid : ℕ) (causes : List Cause) (step : TailStep)
    → IsEnd step images s (tailed.Behind txid causes) → tail_stepped (Some last) step (as_actor None [] (kept_of v o log))
    ≡ as_actor None (behind_text (codes "takeover behind") txid causes ∷ []) (kept_of (writer_stopped v) (Some (held images s)) log)
unfolding tail_stepped tail_ended entry_text
behind_shown last v o images s log txid causes step is =
    ap (λ (x : TailStep). tail_stepped (Some last) x (as_actor None [] (kept_of v o log))) is.0
    ∙ ap (λ (p : ℕ). as_actor None ((word (codes "takeover behind") p ++ cause_words causes) ∷ []) (kept_of (writer_stopped v) (Some (held images s)) log)) (sym is.1)

purged_shown : (last : ℕ) (v : WriterView) (o : Option Holding) (images : List Image) (s : StandbyView) (log : LogView) (least : ℕ) (step : TailStep)
    → IsEnd step images s (tailed.Purged least) → tail_stepped (Some last) step (as_actor None [] (kept_of v o log))
    ≡ as_actor None (word (codes "takeover purged") least ∷ []) (kept_of (writer_stopped v) (Some (held images s)) log)
unfolding tail_stepped tail_ended entry_text
purged_shown last v o images s log least step is = ap (λ (x : TailStep). tail_stepped (Some last) x (as_actor None [] (kept_of v o log))) is

bad_shown : (last : ℕ) (v : WriterView) (o : Option Holding) (images : List Image) (s : StandbyView) (log : LogView) (txid : ℕ) (step : TailStep)
    → IsEnd step images s (tailed.BadEntry txid)
    → tail_stepped (Some last) step (as_actor None [] (kept_of v o log)) ≡ as_actor None [] (kept_of v (Some (with_work Broken (held images s))) log)
unfolding tail_stepped
bad_shown last v o images s log txid step is = ap (λ (x : TailStep). tail_stepped (Some last) x (as_actor None [] (kept_of v o log))) is.0

-- ## The answer
module _ (n : ℕ) (images : List Image) (w : WriterView) (s : StandbyView) (old log new : LogView) (before after : List PeerCall) (node : NameView) (texts : List (List ℕ))
    (idle : IsIdleActor n (kept_resting w images s old)) (start : before ≡ calls_in old.past) (end : after ≡ calls_in log.past) (made : MakesCalls old log) where
  refused_takes : (v : WriterView) (s' : StandbyView) (h' : Holding) (u : Turn) (p : Phase) (told : List (List ℕ)) → Ends task.Takeover w before v after u p → next_call v ≡ None
      → turn_taken u (Some task.Takeover) (as_actor (Some task.Takeover) [] (kept_of v (Some (held images s)) log)) ≡ as_actor None told (kept_of v (Some h') log) → IsIdleHolding (Some h')
      → texts ≡ told → IsSaidOf log new texts → node.writer ≡ v → node.holding ≡ h' → TakesAction n (Does task.Takeover) (kept_resting w images s old) (kept_node node new)
  refused_takes v s' h' u p told ends over shown holds are said writer holding =
      node_takes n (Does task.Takeover) (kept_resting w images s old) node v h' new writer holding
      (task_takes n (Does task.Takeover) w v (Some (held images s)) (Some (held images s)) (Some h') old log new before after task.Takeover u p texts idle start end made ends over refl
      (does_begins n w (held images s) old task.Takeover idle refl ends.begun)
      (shown ∙ ap (λ (l : List (List ℕ)). as_actor None l (kept_of v (Some h') log)) (sym are)) holds said)

  -- the rounds were done, and the tail ended so
  tail_takes : (epoch first : ℕ) (v v' : WriterView) (s' : StandbyView) (t : Tailed) (h' : Holding) (told : List (List ℕ)) (e : Enters n epoch first images w s before after v s' t)
      → t ≢ tailed.OutOfMemory
      → (IsReady n v → IsReady n v') → (next_call v ≡ None → next_call v' ≡ None) → IsIdleHolding (Some h')
      → ((step : TailStep) → IsEnd step images s' t
      → tail_stepped (Some (first - 1)) step (as_actor None [] (kept_of v (Some (held images s)) log)) ≡ as_actor None told (kept_of v' (Some h') log))
      → texts ≡ told → IsSaidOf log new texts → node.writer ≡ v' → node.holding ≡ h' → TakesAction n (Does task.Takeover) (kept_resting w images s old) (kept_node node new)
  tail_takes epoch first v v' s' t h' told e some ready over holds shows are said writer holding =
      node_takes n (Does task.Takeover) (kept_resting w images s old) node v' h' new writer holding
      (entered_takes n epoch first images w v s s' old log new before after t idle start end made e some v' h' texts ready
      (over (writer_rests n epoch first images w v s s' old log new before after t idle start end made e some)) holds
      (λ step is. shows step is ∙ ap (λ (l : List (List ℕ)). as_actor None l (kept_of v' (Some h') log)) (sym are)) said)

  fails_takes : (v : WriterView) (s' : StandbyView) (t : Tailed) (told : List (List ℕ)) (f : Fails n images w s before after v s' t) → t ≢ tailed.OutOfMemory
      → ((last : ℕ) (x : WriterView) (step : TailStep) → IsEnd step images s' t
      → tail_stepped (Some last) step (as_actor None [] (kept_of x (Some (held images s)) log)) ≡ as_actor None told (kept_of (writer_stopped x) (Some (held images s')) log))
      → texts ≡ told → IsSaidOf log new texts → node.writer ≡ v → node.holding ≡ held images s' → TakesAction n (Does task.Takeover) (kept_resting w images s old) (kept_node node new)
  fails_takes v s' t told f some shows are said writer holding =
      tail_takes f.epoch f.first f.writer (writer_stopped f.writer) s' t (held images s') told f.enters some (stopped_ready n f.writer) (λ over. refl) refl
      (λ step is. shows (f.first - 1) f.writer step is) are said (writer ∙ f.stopped) holding

  pub takeover_takes : (e : Entered) → IsEntry n images w s before after e → HasMemory e → node.writer ≡ writer_entered e → node.holding ≡ holding_entered images e → texts ≡ texts_entered e
      → IsSaidOf log new texts → TakesAction n (Does task.Takeover) (kept_resting w images s old) (kept_node node new)
  takeover_takes (entered.Active active epoch first) i some writer holding are said =
      let is : Enters n epoch first images w s before after i.writer i.to (tailed.Reached (first - 1)) =
      subst (λ t. IsTakenOver n images w s before after i.writer i.to t) i.answered.0 i.is in
      let tells = took_writer n epoch first images w i.writer s i.to old log new before after (tailed.Reached (first - 1)) idle start end made is (λ x. cc x) in
      tail_takes epoch first i.writer i.writer i.to (tailed.Reached (first - 1)) (at_position first (held images i.to)) (took epoch first ∷ []) is (λ x. cc x) (λ r. r) (λ r. r) refl
      (λ step x. reached_shown first epoch (first - 1) i.writer (Some (held images s)) images i.to log (first - 1) step x tells) are said
      (writer ∙ ap (λ (x : ActiveView). x.writer) i.answered.1) (holding ∙ ap (λ (x : ActiveView). held images (standing x)) i.answered.1)
  takeover_takes (entered.Aborted v s' causes) i some writer holding are said =
      let is : Refuses (round.Aborted causes) w s before after i.writer i.to = subst (λ t. IsTakenOver n images w s before after i.writer i.to t) i.answered.0 i.is in
      let told : texts ≡ aborted_text (codes "takeover ") i.writer.causes ∷ [] = are ∙ ap (λ (x : List Cause). aborted_text (codes "takeover ") x ∷ []) is.0.1 in
      refused_takes i.writer i.to (reload_image (held images s)) turn.Aborted phase.Stopped (aborted_text (codes "takeover ") i.writer.causes ∷ []) is.0.0 (stopped_rests i.writer is.0.0.phase)
      (entry_aborted i.writer images s log) (free_idle (reload_image (held images s)) (reloaded_free (held images s))) told said
      (writer ∙ i.answered.1) (holding ∙ ap (λ (x : StandbyView). reload_image (held images x)) (i.answered.2 ∙ is.1))
  takeover_takes (entered.EpochLimit v s' told) i some writer holding are said =
      let is : Refuses (round.EpochLimit told) w s before after i.writer i.to = subst (λ t. IsTakenOver n images w s before after i.writer i.to t) i.answered.0 i.is in
      refused_takes i.writer i.to (held images s) (turn.EpochLimit told) phase.Stopped (word (codes "takeover limit") told ∷ []) is.0 (stopped_rests i.writer is.0.phase)
      (entry_limit i.writer images s log told) refl are said (writer ∙ i.answered.1) (holding ∙ ap (λ (x : StandbyView). held images x) (i.answered.2 ∙ is.1))
  takeover_takes (entered.Behind v s' txid causes) i some writer holding are said =
      let is : Fails n images w s before after i.writer i.to (tailed.Behind txid causes) = subst (λ t. IsTakenOver n images w s before after i.writer i.to t) i.answered.0 i.is in
      fails_takes i.writer i.to (tailed.Behind txid causes) (behind_text (codes "takeover behind") txid causes ∷ []) is (λ x. cc x)
      (λ last x step h. behind_shown last x (Some (held images s)) images i.to log txid causes step h) are said
      (writer ∙ i.answered.1) (holding ∙ ap (λ (x : StandbyView). held images x) i.answered.2)
  takeover_takes (entered.Purged v s' least) i some writer holding are said =
      let is : Fails n images w s before after i.writer i.to (tailed.Purged least) = subst (λ t. IsTakenOver n images w s before after i.writer i.to t) i.answered.0 i.is in
      fails_takes i.writer i.to (tailed.Purged least) (word (codes "takeover purged") least ∷ []) is (λ x. cc x)
      (λ last x step h. purged_shown last x (Some (held images s)) images i.to log least step h) are said
      (writer ∙ i.answered.1) (holding ∙ ap (λ (x : StandbyView). held images x) i.answered.2)
  takeover_takes (entered.BadEntry v s' txid) i some writer holding are said =
      let is : Meets n images w s before after i.writer i.to (tailed.BadEntry txid) = subst (λ t. IsTakenOver n images w s before after i.writer i.to t) i.answered.0 i.is in
      tail_takes is.epoch is.first i.writer i.writer i.to (tailed.BadEntry txid) (with_work Broken (held images i.to)) [] is.enters (λ x. cc x) (λ r. r) (λ r. r) refl
      (λ step x. bad_shown (is.first - 1) i.writer (Some (held images s)) images i.to log txid step x) are said
      (writer ∙ i.answered.1) (holding ∙ ap (λ (x : StandbyView). with_work Broken (held images x)) i.answered.2)
  takeover_takes (entered.OutOfMemory v s') i some writer holding are said = absurd some

-- and how it then stands
module _ (n : ℕ) (images : List Image) (w : WriterView) (s : StandbyView) (before after : List PeerCall) where
  pub stands_so : (e : Entered) → IsEntry n images w s before after e → StandsSo e
  stands_so (entered.Active active epoch first) i =
      let is : Enters n epoch first images w s before after i.writer i.to (tailed.Reached (first - 1)) =
      subst (λ t. IsTakenOver n images w s before after i.writer i.to t) i.answered.0 i.is in
      let a : active ≡ record { writer = i.writer; position = first; ahead = i.to.space; bodies = []; whole = true } = i.answered.1 in
      record {
        opened = ap is_open a ∙ ap is_writing is.took.phase;
        none = ap (λ (x : ActiveView). x.bodies) a;
        whole = ap (λ (x : ActiveView). x.whole) a;
      }
  stands_so (entered.Aborted v s' causes) i =
      let is : Refuses (round.Aborted causes) w s before after i.writer i.to = subst (λ t. IsTakenOver n images w s before after i.writer i.to t) i.answered.0 i.is in
      ap (λ (x : WriterView). is_writing x.phase) i.answered.1 ∙ ap is_writing is.0.0.phase
  stands_so (entered.EpochLimit v s' told) i =
      let is : Refuses (round.EpochLimit told) w s before after i.writer i.to = subst (λ t. IsTakenOver n images w s before after i.writer i.to t) i.answered.0 i.is in
      ap (λ (x : WriterView). is_writing x.phase) i.answered.1 ∙ ap is_writing is.0.phase
  stands_so (entered.Behind v s' txid causes) i =
      let is : Fails n images w s before after i.writer i.to (tailed.Behind txid causes) = subst (λ t. IsTakenOver n images w s before after i.writer i.to t) i.answered.0 i.is in
      ap (λ (x : WriterView). is_writing x.phase) (i.answered.1 ∙ is.stopped)
  stands_so (entered.Purged v s' least) i =
      let is : Fails n images w s before after i.writer i.to (tailed.Purged least) = subst (λ t. IsTakenOver n images w s before after i.writer i.to t) i.answered.0 i.is in
      ap (λ (x : WriterView). is_writing x.phase) (i.answered.1 ∙ is.stopped)
  stands_so (entered.BadEntry v s' txid) i = tt
  stands_so (entered.OutOfMemory v s') i = tt
