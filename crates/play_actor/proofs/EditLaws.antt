-- Edits that an active name node submits, and the round of those that pend.
use Rattle.std.proofs.Common.{◌≡◌, ℕ, ◌+◌, ◌<◌, List, [], ◌∷◌, ◌++◌, length, take, codes, get_or, Bool, true, Option, Some, None, refl, sym, ap, ◌∙◌, subst}
use Rattle.std.specs.Prelude.{◌≢◌}
use Rattle.std.proofs.lemmas.List.{take_more, map-append}
use Rattle.journal_core.specs.declared.peer_call.PeerCall.{PeerCall}
use Rattle.edit_ops.specs.Records.{EditView, record_of}
use Rattle.ns_tree.specs.Space.{Space}
use Rattle.ns_edits.specs.Replay.{Image}
use Rattle.ns_edits.specs.declared.refusal.AdmitRefusal.TheVariants as refusal
use Rattle.ns_edits.specs.Admit.{Refusal, admit_of}
use Rattle.writer_core.specs.declared.cause.Cause.{Cause}
use Rattle.writer_core.specs.declared.phase.Phase.TheVariants as phase
use Rattle.writer_core.specs.declared.task.Task.TheVariants as task
use Rattle.writer_core.specs.declared.task.Begun.{Begun}
use Rattle.writer_core.specs.declared.task.Begun.TheVariants as begun
use Rattle.writer_core.specs.declared.turn.Turn.TheVariants as turn
use Rattle.writer_core.specs.declared.turn.Outcome.TheVariants as outcome
use Rattle.writer_core.specs.Views.{WriterView}
use Rattle.writer_core.specs.Writer.{is_writing, log_limit, writer_begun}
use Rattle.play_names.specs.Submissions.{Due, Submission, submitted_one, unless_long, unless_refused, submit_edits, nothing_submitted}
use Rattle.play_names.specs.Holding.{Holding, Logs, with_work, reload_image}
use Rattle.play_names.specs.Results.{cause_words, dues_logged, dues_aborted, abort_text}
use Rattle.play_names.specs.ResultLists.{aborted_text}
use Rattle.play_names.specs.DueTexts.{due_of, dues_of}
use Rattle.play_names.specs.declared.edit_due.EditDue.{EditDue}
use Rattle.play_names.proofs.HoldingLaws.{reloaded_free}
use Rattle.play_standby.specs.declared.submitted.Submitted.{Submitted}
use Rattle.play_standby.specs.declared.submitted.Submitted.TheVariants as answer
use Rattle.play_standby.specs.declared.synced.Synced.{Synced}
use Rattle.play_standby.specs.declared.synced.Synced.TheVariants as synced
use Rattle.play_standby.specs.Pendings.{PendingView, submission, IsDue}
use Rattle.play_standby.specs.Standbys.{StandbyView, held}
use Rattle.play_standby.specs.Actives.{ActiveView, is_open, pending_of}
use Rattle.play_standby.specs.Acting.{Submits as SubmitsOne, IsSubmitted, IsSynced}
use Rattle.play_standby.proofs.PendLaws.{submitted_more}
use Rattle.play_standby.proofs.ExactLaws.{no_both}
use Rattle.play_calls.specs.Logs.{LogView, calls_in}
use Rattle.play_calls.specs.Made.{MakesCalls}
use Rattle.play_calls.proofs.CallLists.{nothing_made}
use Rattle.play_model.specs.Lines.{Submits}
use Rattle.play_model.specs.Actor.{Actor, hand_action, logged_when, after_sync, begin_sync, logs_done, task_done, held_turn, turn_with, turn_taken}
use Rattle.play_model.specs.KeptActor.{KeptActor, as_actor, resting}
use Rattle.play_model.specs.Actions.{kept_of, IsIdleActor, TakesAction}
use Rattle.play_actor.specs.Nodes.{NameView, kept_node, kept_active, held_after, standing, IsServing}
use Rattle.play_actor.specs.Rounds.{texts_synced, IsSaidOf}
use Rattle.play_actor.specs.Submitting.{AreSubmitted, FitsSynced}
use Rattle.play_actor.proofs.NodeLaws.{done_rests, stopped_rests, said_same, ends_far, free_idle, free_rest, still_takes, task_takes, node_takes}
use Rattle.play_actor.proofs.RefusedLaws.{submits_taken}
use Rattle.play_actor.proofs.RoundLaws.{lost_held}

-- ## One edit more
one_due : (next : ℕ) (a : Submitted) (d e : Due) → IsDue next a d → IsDue next a e → d ≡ e
one_due next answer.Taken d e x y = x ∙ sym y
one_due next (answer.Refused r) d e x y = x ∙ sym y
one_due next (answer.Repeated txid) d e x y = x ∙ sym y
one_due next (answer.TooLong number) d e x y = x ∙ sym y
one_due next answer.Ended d e x y = absurd x
one_due next answer.OutOfMemory d e x y = absurd x

-- what is submitted changes nothing else
one_more : (next : ℕ) (old new : ActiveView) (e : EditView) (a : Submitted) (d : Due) → is_open old ≡ true → IsSubmitted old e new a → IsDue next a d → SubmitsOne old e new a
one_more next old new e answer.Taken d o h x = h
one_more next old new e (answer.Refused r) d o h x = h
one_more next old new e (answer.Repeated txid) d o h x = h
one_more next old new e (answer.TooLong number) d o h x = h
one_more next old new e answer.Ended d o h x = absurd x
one_more next old new e answer.OutOfMemory d o h x = absurd x

none_taken : (es : List EditView) → take 0 es ≡ []
none_taken [] = refl
none_taken (e ∷ es) = refl

pub none_submitted : (a : ActiveView) (es : List EditView) → AreSubmitted a (take 0 es) a []
unfolding submit_edits
none_submitted a es = record { rest = refl; submitted = ap (λ (x : List EditView). submit_edits a.writer x (submission [] (pending_of a))) (none_taken es) }

-- the name node that it was, with these edits pending
abbrev pub pending_in : ActiveView → PendingView → ActiveView
pending_in a p = record a { ahead = p.ahead; bodies = p.bodies }

pub submitted_on : (next : ℕ) (first old new : ActiveView) (es : List EditView) (i : ℕ) (e : EditView) (a : Submitted) (dues now : List Due) (d : Due) → i < length es → is_open first ≡ true
    → first.writer.next ≡ next → AreSubmitted first (take i es) old dues → IsSubmitted old (get_or es i e) new a → IsDue next a d → now ≡ dues ++ d ∷ [] → AreSubmitted first (take (i + 1) es) new now
submitted_on next first old new es i e a dues now d l writes at h is due more =
    let same_writer : old.writer ≡ first.writer = ap (λ (x : ActiveView). x.writer) h.rest in
    let still : is_open old ≡ true = ap is_open h.rest ∙ writes in
    let one : SubmitsOne old (get_or es i e) new a = one_more next old new (get_or es i e) a d still is due in
    let theirs : IsDue next a one.more.due = subst (λ (n : ℕ). IsDue n a one.more.due) (ap (λ (x : WriterView). x.next) same_writer ∙ at) one.more.is in
    let same : one.more.due ≡ d = one_due next a one.more.due d theirs due in
    record {
      rest = one.rest ∙ ap (λ (x : ActiveView). record x { ahead = new.ahead; bodies = new.bodies }) h.rest;
      submitted =
          ap (λ (x : List EditView). submit_edits first.writer x (submission [] (pending_of first))) (take_more es i e l)
          ∙ submitted_more first.writer (take i es) (get_or es i e) (submission [] (pending_of first))
          ∙ ap (submitted_one first.writer (get_or es i e)) h.submitted
          ∙ ap (λ (x : WriterView). submitted_one x (get_or es i e) (submission dues (pending_of old))) (sym same_writer)
          ∙ one.more.submitted dues
          ∙ ap (λ (x : Due). submission (dues ++ x ∷ []) (pending_of new)) same
          ∙ ap (λ (x : List Due). submission x (pending_of new)) (sym more);
    }

-- ## Where nothing pends nothing changed
abbrev SameIf : Space → Submission → Type 0
SameIf s x = x.bodies ≡ [] → x.ahead ≡ s

not_nil : (xs : List (List ℕ)) (y : List ℕ) → xs ++ y ∷ [] ≡ [] → ⊥
not_nil [] y e = cc e
not_nil (x ∷ xs) y e = cc e

long_same : (s : Space) (o : Option ℕ) (txid : ℕ) (e : EditView) (x : Submission) → SameIf s x → SameIf s (unless_long o txid e x)
long_same s (Some number) txid e x h n = h n
long_same s None txid e x h n = absurd (not_nil x.bodies (record_of e) n)

refused_same : (s : Space) (next : ℕ) (r : Refusal) (y x : Submission) → SameIf s y → SameIf s x → SameIf s (unless_refused next r y x)
refused_same s next None y x g h n = g n
refused_same s next (Some refusal.NoParent) y x g h n = h n
refused_same s next (Some refusal.Exists) y x g h n = h n
refused_same s next (Some refusal.Missing) y x g h n = h n
refused_same s next (Some refusal.NotDirectory) y x g h n = h n
refused_same s next (Some refusal.NotFile) y x g h n = h n
refused_same s next (Some refusal.NotEmpty) y x g h n = h n
refused_same s next (Some refusal.UnderConstruction) y x g h n = h n
refused_same s next (Some refusal.Root) y x g h n = h n
refused_same s next (Some refusal.IntoItself) y x g h n = h n
refused_same s next (Some refusal.BadName) y x g h n = h n
refused_same s next (Some refusal.BadNumber) y x g h n = h n
refused_same s next (Some (refusal.RepeatedCall txid)) y x g h n = h n

one_same : (w : WriterView) (e : EditView) (s : Space) (x : Submission) → SameIf s x → SameIf s (submitted_one w e x)
one_same w e s x h =
    refused_same s w.next (admit_of x.ahead e) (unless_long (log_limit w (x.bodies ++ record_of e ∷ [])) (w.next + length x.bodies) e x) x
    (long_same s (log_limit w (x.bodies ++ record_of e ∷ [])) (w.next + length x.bodies) e x h) h

all_same : (w : WriterView) (es : List EditView) (s : Space) (x : Submission) → SameIf s x → SameIf s (submit_edits w es x)
unfolding submit_edits
all_same w [] s x h = h
all_same w (e ∷ es) s x h = all_same w es s (submitted_one w e x) (one_same w e s x h)

-- ## The action
logged_todo : (es : List EditView) (h : Holding) (k : KeptActor) (x : Submission) → submit_edits k.writer es (nothing_submitted h.space) ≡ x
    → record (after_sync x.bodies x h (resting k)) { todo = [] } ≡ after_sync x.bodies x h (resting k)
logged_todo es h k x e = by x.bodies
  where
    begin : (b : Begun) → record (begin_sync b (writer_begun k.writer (task.Log x.bodies)).writer x h (resting k)) { todo = [] } ≡ begin_sync b
        (writer_begun k.writer (task.Log x.bodies)).writer x h (resting k)
    begin begun.Going = refl
    begin begun.NotActive = refl
    begin (begun.TooLong number) = refl

    by : (bodies : List (List ℕ)) → record (after_sync bodies x h (resting k)) { todo = [] } ≡ after_sync bodies x h (resting k)
    by [] = refl
    by (b ∷ bs) = begin (writer_begun k.writer (task.Log x.bodies)).begun

-- nothing is to be logged
synced_none : (bodies : List (List ℕ)) (x : Submission) (h : Holding) (k : KeptActor) → bodies ≡ [] → k.holds ≡ Some h → after_sync bodies x h (resting k) ≡ as_actor None (dues_logged 0 x.dues) k
synced_none [] x h k e o = refl
synced_none (b ∷ bs) x h k e o = absurd (cc e)

-- and else the log begins
synced_some : (bodies : List (List ℕ)) (x : Submission) (h : Holding) (w : WriterView) (log : LogView) → bodies ≢ [] → (writer_begun w (task.Log x.bodies)).begun ≡ begun.Going
    → after_sync bodies x h (resting (kept_of w (Some h) log))
    ≡ as_actor (Some (task.Log x.bodies)) [] (kept_of (writer_begun w (task.Log x.bodies)).writer (Some (with_work (Logs x.ahead x.dues) h)) log)
synced_some [] x h w log some e = absurd (some refl)
synced_some (b ∷ bs) x h w log some e = ap (λ (g : Begun). begin_sync g (writer_begun w (task.Log x.bodies)).writer x h (resting (kept_of w (Some h) log))) e

module _ (n : ℕ) (images : List Image) (a : ActiveView) (es : List EditView) (p : PendingView) (dues : List Due) (old : LogView)
    (idle : IsIdleActor n (kept_active images a old)) (serves : IsServing a) (are : submit_edits a.writer es (nothing_submitted a.ahead) ≡ submission dues p) where
  logs_from : hand_action (Submits es) (resting (kept_of a.writer (Some (held images (standing a))) old))
      ≡ after_sync p.bodies (submission dues p) (held images (standing a)) (resting (kept_of a.writer (Some (held images (standing a))) old))
  unfolding logged_when
  logs_from =
      let g : Holding = held images (standing a) in
      let k : KeptActor = kept_of a.writer (Some g) old in
      free_rest n a.writer g old (Submits es) idle refl
      ∙ ap (λ (x : Actor). record x { todo = [] }) (submits_taken es a.writer g old)
      ∙ ap (λ (b : Bool). record (logged_when b es g (resting k)) { todo = [] }) serves.opened
      ∙ logged_todo es g k (submit_edits a.writer es (nothing_submitted g.space)) refl
      ∙ ap (λ (x : Submission). after_sync x.bodies x g (resting k)) are

  begins_log : p.bodies ≢ [] → (writer_begun a.writer (task.Log p.bodies)).begun ≡ begun.Going
      → hand_action (Submits es) (resting (kept_of a.writer (Some (held images (standing a))) old))
      ≡ as_actor (Some (task.Log p.bodies)) [] (kept_of (writer_begun a.writer (task.Log p.bodies)).writer (Some (with_work (Logs p.ahead dues) (held images (standing a)))) old)
  begins_log some going = logs_from ∙ synced_some p.bodies (submission dues p) (held images (standing a)) a.writer old some going

  same_ahead : p.bodies ≡ [] → p.ahead ≡ a.ahead
  same_ahead none =
      let all : SameIf a.ahead (submit_edits a.writer es (nothing_submitted a.ahead)) = all_same a.writer es a.ahead (nothing_submitted a.ahead) (λ x. refl) in
      let mine : SameIf a.ahead (submission dues p) = subst (λ (x : Submission). SameIf a.ahead x) are all in
      mine none

-- ## The log
log_shown : (bodies : List (List ℕ)) (first last : ℕ) (v : WriterView) (ahead : Space) (dues : List Due) (images : List Image) (s : StandbyView) (log : LogView)
    → turn_taken (turn.Done (outcome.Log first last)) (Some (task.Log bodies)) (as_actor (Some (task.Log bodies)) [] (kept_of v (Some (with_work (Logs ahead dues) (held images s))) log))
    ≡ as_actor None (dues_logged first dues) (kept_of v (Some (held images (record { space = ahead; position = last }))) log)
unfolding turn_taken turn_with held_turn task_done logs_done
log_shown bodies first last v ahead dues images s log = refl

reloaded_log : (images : List Image) (s : StandbyView) (ahead : Space) (dues : List Due) → reload_image (with_work (Logs ahead dues) (held images s)) ≡ reload_image (held images s)
unfolding reload_image
reloaded_log images s ahead dues = refl

log_aborted : (bodies : List (List ℕ)) (v : WriterView) (ahead : Space) (dues : List Due) (images : List Image) (s : StandbyView) (log : LogView)
    → turn_taken turn.Aborted (Some (task.Log bodies)) (as_actor (Some (task.Log bodies)) [] (kept_of v (Some (with_work (Logs ahead dues) (held images s))) log))
    ≡ as_actor None (dues_aborted (aborted_text [] v.causes) dues) (kept_of v (Some (reload_image (held images s))) log)
unfolding turn_taken turn_with held_turn task_done abort_text
log_aborted bodies v ahead dues images s log =
    ap (λ (y : Holding). as_actor None (dues_aborted (codes "aborted" ++ cause_words v.causes) dues) (kept_of v (Some y) log)) (reloaded_log images s ahead dues)

-- ## Both
module _ (n : ℕ) (images : List Image) (a : ActiveView) (es : List EditView) (p : PendingView) (dues : List Due) (old mid new : LogView) (before after : List PeerCall)
    (idle : IsIdleActor n (kept_active images a old)) (serves : IsServing a) (are : submit_edits a.writer es (nothing_submitted a.ahead) ≡ submission dues p)
    (first : before ≡ calls_in old.past) (last : after ≡ calls_in mid.past) (made : MakesCalls old mid) where
  takes_log : (c : ActiveView) (r : Synced) (node : NameView) (texts : List (List ℕ)) → IsSynced (pending_in a p) before c after r → r ≢ synced.OutOfMemory
      → node.writer ≡ c.writer → node.holding ≡ held_after (is_open c) images c → texts ≡ texts_synced dues r → IsSaidOf mid new texts
      → TakesAction n (Submits es) (kept_active images a old) (kept_node node new)
  takes_log c (synced.Acked one end) node texts is some writer holding told said =
      let h : Holding = held images (standing a) in
      let h' : Holding = held images (record { space = p.ahead; position = end }) in
      let writes : is_open c ≡ true = ap is_writing is.0.phase in
      let stands : held_after (is_open c) images c ≡ h' =
      ap (λ (x : Bool). held_after x images c) writes ∙ ap (λ (q : ℕ). held images (record { space = c.ahead; position = q })) is.1.position
      ∙ ap (λ (s : Space). held images (record { space = s; position = end })) is.1.ahead in
      node_takes n (Submits es) (kept_active images a old) node c.writer h' new writer (holding ∙ stands)
      (task_takes n (Submits es) a.writer c.writer (Some h) (Some (with_work (Logs p.ahead dues) h)) (Some h') old mid new before after
      (task.Log p.bodies) (turn.Done (outcome.Log one end)) phase.Writing texts
      idle first last made is.0 (done_rests (outcome.Log one end) c.writer is.0.phase) refl
      (begins_log n images a es p dues old idle serves are is.2 is.0.begun)
      (log_shown p.bodies one end c.writer p.ahead dues images (standing a) mid ∙ ap (λ (l : List (List ℕ)). as_actor None l (kept_of c.writer (Some h') mid)) (sym told)) refl said)
  takes_log c (synced.Aborted causes) node texts is some writer holding told said =
      let h : Holding = held images (standing a) in
      let told : texts ≡ dues_aborted (aborted_text [] c.writer.causes) dues = told ∙ ap (λ (x : List Cause). dues_aborted (aborted_text [] x) dues) is.0.1 in
      node_takes n (Submits es) (kept_active images a old) node c.writer (reload_image h) new writer (holding ∙ lost_held images (standing a) c is.1)
      (task_takes n (Submits es) a.writer c.writer (Some h) (Some (with_work (Logs p.ahead dues) h)) (Some (reload_image h)) old mid new before after
      (task.Log p.bodies) turn.Aborted phase.Stopped texts
      idle first last made is.0.0 (stopped_rests c.writer is.0.0.phase) refl
      (begins_log n images a es p dues old idle serves are is.2 is.0.0.begun)
      (log_aborted p.bodies c.writer p.ahead dues images (standing a) mid ∙ ap (λ (l : List (List ℕ)). as_actor None l (kept_of c.writer (Some (reload_image h)) mid)) (sym told))
      (free_idle (reload_image h) (reloaded_free h)) said)
  takes_log c synced.Nothing node texts is some writer holding told said =
      let h : Holding = held images (standing a) in
      let same : c ≡ pending_in a p = is.2.same in
      let stands : held_after (is_open c) images c ≡ h =
      ap (λ (x : ActiveView). held_after (is_open x) images x) same ∙ ap (λ (x : Bool). held_after x images (pending_in a p)) serves.opened
      ∙ ap (λ (s : Space). held images (record { space = s; position = a.position })) (same_ahead n images a es p dues old idle serves are is.0) in
      node_takes n (Submits es) (kept_active images a old) node a.writer h new (writer ∙ ap (λ (x : ActiveView). x.writer) same) (holding ∙ stands)
      (still_takes n (Submits es) a.writer (Some h) (Some h) old new texts idle
      (logs_from n images a es p dues old idle serves are ∙ synced_none p.bodies (submission dues p) h (kept_of a.writer (Some h) old) is.0 refl
      ∙ ap (λ (l : List (List ℕ)). as_actor None l (kept_of a.writer (Some h) old)) (sym told)) refl
      (said_same old mid new texts (nothing_made old mid before after made first last is.2.none) made.marks said))
  takes_log c synced.Ended node texts is some writer holding told said = no_both (is_open a) serves.opened is.0
  takes_log c synced.OutOfMemory node texts is some writer holding told said = absurd (some refl)

-- from what was submitted
pub submitted_are : (a b : ActiveView) (es : List EditView) (dues : List Due) → a.bodies ≡ [] → AreSubmitted a es b dues
    → submit_edits a.writer es (nothing_submitted a.ahead) ≡ submission dues (pending_of b)
submitted_are a b es dues none are =
    ap (λ (l : List (List ℕ)). submit_edits a.writer es (record { ahead = a.ahead; bodies = l; dues = [] })) (sym none) ∙ are.submitted

pub edits_take : (n : ℕ) (images : List Image) (a b c : ActiveView) (es : List EditView) (dues : List Due) (old mid new : LogView) (before after : List PeerCall) (r : Synced) (node : NameView)
    (texts : List (List ℕ)) → IsIdleActor n (kept_active images a old) → IsServing a → AreSubmitted a es b dues → before ≡ calls_in old.past → after ≡ calls_in mid.past → MakesCalls old mid
    → IsSynced b before c after r → r ≢ synced.OutOfMemory
    → node.writer ≡ c.writer → node.holding ≡ held_after (is_open c) images c → texts ≡ texts_synced dues r → IsSaidOf mid new texts
    → TakesAction n (Submits es) (kept_active images a old) (kept_node node new)
edits_take n images a b c es dues old mid new before after r node texts idle serves are first last made is some writer holding told said =
    takes_log n images a es (pending_of b) dues old mid new before after idle serves (submitted_are a b es dues serves.none are) first last made c r node texts
    (subst (λ (x : ActiveView). IsSynced x before c after r) are.rest is) some writer holding told said

-- the txids of a round that was acknowledged are in range
pub synced_fits : (n : ℕ) (images : List Image) (a b c : ActiveView) (es : List EditView) (dues : List Due) (old mid : LogView) (before after : List PeerCall) (r : Synced)
    → IsIdleActor n (kept_active images a old) → AreSubmitted a es b dues → before ≡ calls_in old.past → after ≡ calls_in mid.past → (r ≢ synced.OutOfMemory → MakesCalls old mid)
    → IsSynced b before c after r → FitsSynced r
synced_fits n images a b c es dues old mid before after (synced.Acked one end) idle are first last made is =
    let mine : IsSynced (pending_in a (pending_of b)) before c after (synced.Acked one end) = subst (λ (x : ActiveView). IsSynced x before c after (synced.Acked one end)) are.rest is in
    (ends_far n a.writer c.writer old mid before after (task.Log b.bodies) (turn.Done (outcome.Log one end)) phase.Writing None idle.ready first last (made (λ e. cc e)) mine.0).fits
synced_fits n images a b c es dues old mid before after (synced.Aborted causes) idle are first last made is = tt
synced_fits n images a b c es dues old mid before after synced.Nothing idle are first last made is = tt
synced_fits n images a b c es dues old mid before after synced.Ended idle are first last made is = tt
synced_fits n images a b c es dues old mid before after synced.OutOfMemory idle are first last made is = tt

-- ## As the program keeps them
pub dues_more : (xs now : List EditDue) (d : EditDue) → now ≡ xs ++ d ∷ [] → dues_of now ≡ dues_of xs ++ due_of d ∷ []
dues_more xs now d e = ap dues_of e ∙ map-append due_of xs (d ∷ [])
