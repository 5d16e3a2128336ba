-- An actor with names that meets no bad entry says, action by action, as many results as are due.
use Rattle.std.proofs.Common.{◌≡◌, ℕ, suc, ◌+◌, ◌-◌, ◌≤◌, List, [], ◌∷◌, ◌++◌, Bool, true, false, cond, refl, sym, ap, ◌∙◌, subst, arith, length, drop, append_assoc, ◌⊎◌, inl, inr}
use Rattle.std.specs.Prelude.{Option, Some, None, ◌≢◌, ◌||◌, map, nat_lt, codes}
use Rattle.std.proofs.lemmas.List.{length-map, length-append, nil_from_length}
use Rattle.journal_core.specs.declared.request.Request.{Request}
use Rattle.journal_core.specs.declared.heard.Heard.{Heard}
use Rattle.journal_core.specs.declared.heard.Heard.TheVariants.{Answer, Silent}
use Rattle.journal_core.specs.declared.reply.Reply.TheVariants as reply
use Rattle.edit_ops.specs.Records.{EditView}
use Rattle.writer_core.specs.declared.phase.Phase.{Phase}
use Rattle.writer_core.specs.declared.phase.Aim.{Aim}
use Rattle.writer_core.specs.declared.phase.Aim.TheVariants as aim
use Rattle.writer_core.specs.declared.cause.Cause.{Cause}
use Rattle.writer_core.specs.declared.task.Task.{Task}
use Rattle.writer_core.specs.declared.task.Task.TheVariants as task
use Rattle.writer_core.specs.declared.task.Begun.{Begun}
use Rattle.writer_core.specs.declared.task.Begun.TheVariants as begun
use Rattle.writer_core.specs.declared.turn.Turn.{Turn}
use Rattle.writer_core.specs.declared.turn.Turn.TheVariants as turn
use Rattle.writer_core.specs.declared.turn.Outcome.{Outcome as TaskOutcome}
use Rattle.writer_core.specs.declared.turn.Outcome.TheVariants as outcome
use Rattle.writer_core.specs.Turns.{aim_of, IsOf, IsInRound}
use Rattle.writer_core.specs.Views.{WriterView}
use Rattle.writer_core.specs.Rounds.{Judgment}
use Rattle.writer_core.specs.Writer.{is_writing, writer_begun, next_call, writer_heard, writer_stopped}
use Rattle.ns_tree.specs.Space.{Space}
use Rattle.ns_edits.specs.Replay.{Applied, All, BadEntry, applied}
use Rattle.journal_history.specs.declared.record.Record.{Record}
use Rattle.journal_history.specs.declared.record.Record.TheVariants.{Call, Late, Operator, Outcome}
use Rattle.journal_history.specs.declared.record.Told.{Told}
use Rattle.mesh.specs.Makers.{heard_of}
use Rattle.play_names.specs.Submissions.{Due, Submission, submit_edits, nothing_submitted}
use Rattle.play_names.specs.Holding.{Holding, new_holding, Work, Free, Tails, Logs, Broken, with_work, at_position, save_image, reload_image, min_to_keep, enters}
use Rattle.play_names.specs.Tails.{TailEnd, Caught, Reached, PurgedFrom, BehindBy, TailStep, GoesOn, Ends, Breaks, is_until, pass_begun, up_to, after_applied, pass_end, no_edits, tail_hears}
use Rattle.play_model.specs.Lines.{Action, Does, DoDrop, DoMute, DoLate, Submits, Trims, DoTail, Saves, Reloads, IsNamesTask, IsAction, AreActions}
use Rattle.play_names.specs.Results.{dues_logged, dues_aborted, abort_text, inactive_results, too_long_results, late_none}
use Rattle.play_model.specs.Actor.{Actor, Rests, WantsCall, fresh_actor, call_wanted, work_read, read_first, wants, is_wanting, is_broken_work}
use Rattle.play_model.specs.Actor.{is_broken_holding, is_broken, tail_ended, tail_stepped, task_begun, make_copy, begin_sync, after_sync, logged_when}
use Rattle.play_model.specs.Actor.{trim_at, unless_active, begin_save, begin_reload, take_named_action, take_action, while_wanting, settle, logs_done}
use Rattle.play_model.specs.Actor.{aborted_texts, task_done, held_turn, turn_with, turn_taken, heard_in_work, heard_by, moved_on, settle_again}
use Rattle.play_model.specs.Actor.{goes_on, Fits, IsLed, actor_after}
use Rattle.play_names.proofs.HoldingLaws.{reloaded_free}
use Rattle.writer_calls.proofs.TaskBegins.{purge_begins}
use Rattle.play_model.specs.Told.{results_in}
use Rattle.play_model.specs.EditResults.{results_due, AreResultsOf, AreResults, NeverBroken}
use Rattle.play_model.proofs.Led.{todo_wants, waiting, either_wants, moved_keeps}
use Rattle.play_model.proofs.Wanting.{Calling, Resting, Saying, resting, rests_is, fits_calling, fits_saying, no_operation, call_by, rests_by}
use Rattle.play_model.proofs.Sound.{or_false}
use Rattle.play_model.proofs.WriterTurns.{IsBetween, Course, TurnOf, Turned, Begins, begun_turn, heard_turn, new_course, call_some, call_none}
use Rattle.play_model.proofs.Dues.{submitted_dues, logged_length, aborted_length}
use Rattle.play_model.proofs.EachResult.{each_length}

-- ## What is under way, and how many results it still owes
abbrev Single : Task → Type 0
Single (task.Log bodies) = ⊥
Single _ = Unit {0}

abbrev IsLog : Task → Type 0
IsLog (task.Log bodies) = Unit {0}
IsLog _ = ⊥

abbrev Stage : Aim → Phase → List (List ℕ) → Option Task → Work → Type 0
Stage k p says None Free = IsBetween p
Stage k p says None (Tails until node heard) = IsBetween p × (says ≡ [])
Stage k p says None (Logs ahead dues) = ⊥
Stage k p says None Broken = ⊥
Stage k p says (Some t) Free = (aim_of t ≡ k) × IsInRound p × (says ≡ []) × Single t
Stage k p says (Some t) (Tails until node heard) = ⊥
Stage k p says (Some t) (Logs ahead dues) = (aim_of t ≡ k) × IsInRound p × (says ≡ []) × IsLog t
Stage k p says (Some t) Broken = ⊥

record Live (a : Actor) : Type 0 where
  holding : Holding
  holds : a.holds ≡ Some holding
  kind : Aim
  course : Course kind a.writer
  stage : Stage kind a.writer.phase a.says a.doing holding.work

abbrev due_of : Option Task → Work → ℕ
due_of None Free = 0
due_of None (Tails until node heard) = 1
due_of None (Logs ahead dues) = 0
due_of None Broken = 0
due_of (Some t) Free = 1
due_of (Some t) (Tails until node heard) = 1
due_of (Some t) (Logs ahead dues) = length dues
due_of (Some t) Broken = 0

-- the results to be said, those of what is under way, and those of the actions to come
record Owes (says : List (List ℕ)) (n : ℕ) (todo : List Action) (texts : List (List ℕ)) : Type 0 where
  due : List (List ℕ)
  rest : List (List ℕ)
  all : texts ≡ says ++ (due ++ rest)
  count : length due ≡ n
  are_results : AreResults todo rest

abbrev OwesBy : (a : Actor) → Live a → List Action → List (List ℕ) → Type 0
OwesBy a l todo texts = Owes a.says (due_of a.doing l.holding.work) todo texts

-- ## An action
-- what an action leaves, and its results
record Taken (d : Action) (a b : Actor) : Type 0 where
  live : Live b
  owes : (ds : List Action) (texts : List (List ℕ)) → OwesBy b live ds texts → Owes [] 0 (d ∷ ds) texts

owes_action : (d : Action) (says : List (List ℕ)) (n : ℕ) (ds : List Action) (texts : List (List ℕ))
    → ((xs : List (List ℕ)) → length xs ≡ n → AreResultsOf d (says ++ xs)) → Owes says n ds texts → Owes [] 0 (d ∷ ds) texts
unfolding AreResults
owes_action d says n ds texts f h = record {
  due = [];
  rest = texts;
  all = refl;
  count = refl;
  are_results = (says ++ h.due, h.rest, h.all ∙ sym (append_assoc says h.due h.rest), f h.due h.count, h.are_results);
}

-- an actor between actions
record Idle (a : Actor) : Type 0 where
  live : Live a
  free : live.holding.work ≡ Free
  none : a.doing ≡ None
  quiet : a.says ≡ []
  between : IsBetween a.writer.phase

-- it says these texts
says_live : (a b : Actor) (i : Idle a) (h : Holding) → b.holds ≡ Some h → h.work ≡ Free → b.writer ≡ a.writer → b.doing ≡ None → Live b
says_live a b i h e f g n = record {
  holding = h;
  holds = e;
  kind = i.live.kind;
  course = subst (λ (w : WriterView). Course i.live.kind w) (sym g) i.live.course;
  stage = subst (λ (x : Work). Stage i.live.kind b.writer.phase b.says b.doing x) (sym f)
      (subst (λ (o : Option Task). Stage i.live.kind b.writer.phase b.says o Free) (sym n) (subst (λ (w : WriterView). IsBetween w.phase) (sym g) i.between));
}

free_due : (o : Option Task) (x : Work) → o ≡ None → x ≡ Free → due_of o x ≡ 0
free_due o x e f = ap (λ (z : Option Task). due_of z x) e ∙ ap (λ (y : Work). due_of None y) f

said : (d : Action) (a b : Actor) (i : Idle a) (h : Holding) → b.holds ≡ Some h → h.work ≡ Free → b.writer ≡ a.writer → b.doing ≡ None
    → ((xs : List (List ℕ)) → length xs ≡ 0 → AreResultsOf d (b.says ++ xs)) → Taken d a b
unfolding says_live
said d a b i h e f g n are = record {
  live = says_live a b i h e f g n;
  owes = λ ds texts o. owes_action d b.says 0 ds texts are (subst (λ (k : ℕ). Owes b.says k ds texts) (free_due b.doing h.work n f) o);
}

-- as it was, but for these texts
said_same : (d : Action) (a b : Actor) (i : Idle a) → b.holds ≡ a.holds → b.writer ≡ a.writer → b.doing ≡ a.doing → ((xs : List (List ℕ)) → length xs ≡ 0 → AreResultsOf d (b.says ++ xs)) → Taken d a b
said_same d a b i e g n are = said d a b i i.live.holding (e ∙ i.live.holds) i.free g (n ∙ i.none) are

-- a number of texts, and no more of them
as_many : (says : List (List ℕ)) (n : ℕ) → length says ≡ n → (xs : List (List ℕ)) → length xs ≡ 0 → length (says ++ xs) ≡ n
as_many says n e xs f = omega (arith, length-append says xs, e, f)

-- it goes on with a task that has one result
begun_live : (a : Actor) (t : Task) (i : Idle a) → Single t → Course (aim_of t) (writer_begun a.writer t).writer → IsInRound (writer_begun a.writer t).writer.phase
    → Live (record a { writer = (writer_begun a.writer t).writer; doing = Some t })
begun_live a t i single c r = record {
  holding = i.live.holding;
  holds = i.live.holds;
  kind = aim_of t;
  course = c;
  stage = subst (λ (x : Work). Stage (aim_of t) (writer_begun a.writer t).writer.phase a.says (Some t) x) (sym i.free) (refl, r, i.quiet, single);
}

one_more : (says xs : List (List ℕ)) → says ≡ [] → length xs ≡ 1 → length (says ++ xs) ≡ 1
one_more says xs e f = omega (arith, length-append says xs, ap length e, f)

goes_task : (d : Action) (t : Task) (a : Actor) (i : Idle a) → ((xs : List (List ℕ)) → length xs ≡ 1 → AreResultsOf d xs) → Single t → (writer_begun a.writer t).begun ≡ begun.Going
    → Taken d a (record a { writer = (writer_begun a.writer t).writer; doing = Some t })
unfolding Begins begun_live
goes_task d t a i are single e = by (begun_turn t a.writer i.live.course.other)
  where
    by : Begins t a.writer (writer_begun a.writer t) → Taken d a (record a { writer = (writer_begun a.writer t).writer; doing = Some t })
    by (inr h) = absurd (h.0 e)
    by (inl h) = record {
      live = begun_live a t i single h.1 h.2;
      owes = λ ds texts o.
          owes_action d a.says 1 ds texts (λ xs f. subst (λ (says : List (List ℕ)). AreResultsOf d (says ++ xs)) (sym i.quiet) (are xs f))
          (subst (λ (x : Work). Owes a.says (due_of (Some t) x) ds texts) i.free o);
    }

none_more : (says xs : List (List ℕ)) → says ≡ [] → length xs ≡ 0 → says ++ xs ≡ []
none_more says xs e f = ap (λ (l : List (List ℕ)). l ++ xs) e ∙ nil_from_length xs f

few_more : (says xs : List (List ℕ)) → length says ≤ 1 → length xs ≡ 0 → length (says ++ xs) ≤ 1
few_more says xs e f = omega (arith, length-append says xs, e, f)

none_few : (says : List (List ℕ)) → says ≡ [] → length says ≤ 1
none_few says e = omega (arith, ap length e)

names_due : (t : Task) → IsNamesTask t → results_due t ≡ 1
names_due task.Takeover h = refl
names_due task.Roll h = refl
names_due task.Close h = refl
names_due (task.Log bodies) h = absurd h
names_due (task.Purge min) h = absurd h

names_single : (t : Task) → IsNamesTask t → Single t
names_single task.Takeover h = tt
names_single task.Roll h = tt
names_single task.Close h = tt
names_single (task.Log bodies) h = absurd h
names_single (task.Purge min) h = absurd h

does_taken : (t : Task) (a : Actor) (b : Begun) → Idle a → IsNamesTask t → (writer_begun a.writer t).begun ≡ b → Taken (Does t) a (task_begun t (writer_begun a.writer t).writer a b)
unfolding task_begun inactive_results too_long_results
does_taken t a begun.Going i n e = goes_task (Does t) t a i (λ xs f. f ∙ sym (names_due t n)) (names_single t n) e
does_taken t a begun.NotActive i n e = said_same (Does t) a (record a { says = inactive_results t }) i refl refl refl (as_many (inactive_results t) (results_due t) (each_length t _))
does_taken t a (begun.TooLong number) i n e = said_same (Does t) a (record a { says = too_long_results t number }) i refl refl refl
    (as_many (too_long_results t number) (results_due t) (each_length t _))

late_taken : (k n : ℕ) (o : Option Request) (a : Actor) → Idle a → Taken (DoLate k n) a (make_copy k n o a)
unfolding make_copy
late_taken k n None a i = said_same (DoLate k n) a (record a { says = late_none ∷ [] }) i refl refl refl (λ xs f. few_more (late_none ∷ []) xs (omega arith) f)
late_taken k n (Some q) a i = said_same (DoLate k n) a _ i refl refl refl (λ xs f. few_more a.says xs (none_few a.says i.quiet) f)

-- edits that are submitted
sync_taken : (b : Begun) (es : List EditView) (x : Submission) (h : Holding) (a : Actor) → Idle a → length x.dues ≡ length es → (writer_begun a.writer (task.Log x.bodies)).begun ≡ b
    → Taken (Submits es) a (begin_sync b (writer_begun a.writer (task.Log x.bodies)).writer x h a)
unfolding Begins
sync_taken begun.Going es x h a i many e = by (begun_turn (task.Log x.bodies) a.writer i.live.course.other)
  where
    by : Begins (task.Log x.bodies) a.writer (writer_begun a.writer (task.Log x.bodies)) → Taken (Submits es) a (begin_sync begun.Going (writer_begun a.writer (task.Log x.bodies)).writer x h a)
    by (inr g) = absurd (g.0 e)
    by (inl g) = record {
      live = record { holding = with_work (Logs x.ahead x.dues) h; holds = refl; kind = aim.Log; course = g.1; stage = (refl, g.2, i.quiet, tt) };
      owes = λ ds texts o. owes_action (Submits es) a.says (length x.dues) ds texts (λ xs f. omega (arith, length-append a.says xs, ap length i.quiet, f, many)) o;
    }
sync_taken begun.NotActive es x h a i many e = said_same (Submits es) a _ i refl refl refl (as_many (dues_aborted _ x.dues) (length es) (aborted_length _ x.dues ∙ many))
sync_taken (begun.TooLong number) es x h a i many e = said_same (Submits es) a _ i refl refl refl (as_many (dues_aborted _ x.dues) (length es) (aborted_length _ x.dues ∙ many))

synced_taken : (bodies : List (List ℕ)) (es : List EditView) (x : Submission) (h : Holding) (a : Actor) → Idle a → length x.dues ≡ length es → Taken (Submits es) a (after_sync bodies x h a)
synced_taken [] es x h a i many = said_same (Submits es) a _ i refl refl refl (as_many (dues_logged 0 x.dues) (length es) (logged_length 0 x.dues ∙ many))
synced_taken (b ∷ bs) es x h a i many = sync_taken (writer_begun a.writer (task.Log x.bodies)).begun es x h a i many refl

logged_taken : (b : Bool) (es : List EditView) (h : Holding) (a : Actor) → Idle a → Taken (Submits es) a (logged_when b es h a)
unfolding logged_when
logged_taken true es h a i =
    let x : Submission = submit_edits a.writer es (nothing_submitted h.space) in
    let many : length x.dues ≡ length es = let n = submitted_dues a.writer es (nothing_submitted h.space) in omega (arith, n) in
    synced_taken x.bodies es x h a i many
logged_taken false es h a i = said_same (Submits es) a _ i refl refl refl (as_many (map _ es) (length es) (length-map es _))

trim_taken : (extra : ℕ) (b : Bool) (min : Option ℕ) (a : Actor) → Idle a → is_writing a.writer.phase ≡ b → Taken (Trims extra) a (trim_at b min a)
unfolding trim_at
trim_taken extra false min a i e = said_same (Trims extra) a _ i refl refl refl (as_many (codes "trim inactive" ∷ []) 1 refl)
trim_taken extra true None a i e = said_same (Trims extra) a _ i refl refl refl (as_many (codes "trim noimage" ∷ []) 1 refl)
trim_taken extra true (Some min) a i e = goes_task (Trims extra) (task.Purge min) a i (λ xs f. f) tt (purge_begins a.writer min e)

unless_taken : (d : Action) (b : Bool) (c a : Actor) → Idle a → ((xs : List (List ℕ)) → length xs ≡ 1 → AreResultsOf d xs) → Taken d a c → Taken d a (unless_active b c a)
unless_taken d true c a i are t = said_same d a _ i refl refl refl (λ xs f. are (_ ∷ xs) (ap suc f))
unless_taken d false c a i are t = t

tail_taken : (h : Holding) (a : Actor) → Idle a → Taken DoTail a (tail_stepped None (pass_begun None h) a)
unfolding tail_stepped pass_begun
tail_taken h a i = record {
  live = record {
    holding = with_work (Tails None 1 []) h;
    holds = refl;
    kind = i.live.kind;
    course = i.live.course;
    stage = subst (λ (o : Option Task). Stage i.live.kind a.writer.phase a.says o (Tails None 1 [])) (sym i.none) (i.between, i.quiet);
  };
  owes = λ ds texts o. owes_action DoTail a.says 1 ds texts (λ xs f. one_more a.says xs i.quiet f) (subst (λ (t : Option Task). Owes a.says (due_of t (Tails None 1 [])) ds texts) i.none o);
}

saved_work : (h : Holding) → (save_image h).work ≡ h.work
unfolding save_image
saved_work h = refl

held_work : (h z : Holding) (o : Option Holding) → o ≡ Some h → o ≡ Some z → h.work ≡ z.work
held_work h z o e f = let same : h ≡ z = cc (e, f) in ap (λ (x : Holding). x.work) same

-- an action of an actor that holds a namespace
abbrev IsHeld : Action → Type 0
IsHeld (Submits es) = Unit {0}
IsHeld (Trims extra) = Unit {0}
IsHeld DoTail = Unit {0}
IsHeld Saves = Unit {0}
IsHeld Reloads = Unit {0}
IsHeld _ = ⊥

no_holding : {A : Type 0} (a : Actor) → Idle a → a.holds ≡ None → A
no_holding a i e = absurd (cc (e, i.live.holds))

held_taken : (d : Action) (o : Option Holding) (a : Actor) → IsHeld d → a.holds ≡ o → Idle a → Taken d a (take_named_action d o a)
unfolding take_named_action
held_taken (Does t) o a is e i = absurd is
held_taken (DoDrop k n) o a is e i = absurd is
held_taken (DoMute k n) o a is e i = absurd is
held_taken (DoLate k n) o a is e i = absurd is
held_taken (Submits es) None a is e i = no_holding a i e
held_taken (Submits es) (Some h) a is e i = logged_taken (is_writing a.writer.phase) es h a i
held_taken (Trims extra) None a is e i = no_holding a i e
held_taken (Trims extra) (Some h) a is e i = trim_taken extra (is_writing a.writer.phase) (min_to_keep extra h.images) a i refl
held_taken DoTail None a is e i = no_holding a i e
held_taken DoTail (Some h) a is e i = unless_taken DoTail (is_writing a.writer.phase) (tail_stepped None (pass_begun None h) a) a i (λ xs f. f) (tail_taken h a i)
held_taken Saves None a is e i = no_holding a i e
held_taken Saves (Some h) a is e i =
    unless_taken Saves (is_writing a.writer.phase) (begin_save h a) a i (λ xs f. f)
    (said Saves a (begin_save h a) i (save_image h) refl (saved_work h ∙ held_work h i.live.holding a.holds e i.live.holds ∙ i.free) refl i.none (as_many (begin_save h a).says 1 refl))
held_taken Reloads None a is e i = no_holding a i e
held_taken Reloads (Some h) a is e i =
    unless_taken Reloads (is_writing a.writer.phase) (begin_reload h a) a i (λ xs f. f)
    (said Reloads a (begin_reload h a) i (reload_image h) refl (reloaded_free h) refl i.none (as_many (begin_reload h a).says 1 refl))

action_taken_so : (d : Action) (a : Actor) → IsAction true d → Idle a → Taken d a (take_action d a)
unfolding take_action
action_taken_so (Does t) a d i = does_taken t a (writer_begun a.writer t).begun i d refl
action_taken_so (DoDrop k n) a d i = said_same (DoDrop k n) a _ i refl refl refl (λ xs f. none_more a.says xs i.quiet f)
action_taken_so (DoMute k n) a d i = said_same (DoMute k n) a _ i refl refl refl (λ xs f. none_more a.says xs i.quiet f)
action_taken_so (DoLate k n) a d i = late_taken k n _ a i
action_taken_so (Submits es) a d i = held_taken (Submits es) a.holds a tt refl i
action_taken_so (Trims extra) a d i = held_taken (Trims extra) a.holds a tt refl i
action_taken_so DoTail a d i = held_taken DoTail a.holds a tt refl i
action_taken_so Saves a d i = held_taken Saves a.holds a tt refl i
action_taken_so Reloads a d i = held_taken Reloads a.holds a tt refl i

-- ## Actions that are taken
stage_idle : (k : Aim) (says : List (List ℕ)) (o : Option Task) (x : Work) (t : ℕ) (w : WriterView) → Stage k w.phase says o x → Course k w
    → is_wanting (work_read x t (call_wanted (next_call w))) ≡ false
    → (x ≡ Free) × (o ≡ None) × IsBetween w.phase
unfolding is_wanting
stage_idle k says None Free t w s c e = (refl, refl, s)
stage_idle k says None (Tails until node heard) t w s c e = absurd (cc e)
stage_idle k says None (Logs ahead dues) t w s c e = absurd s
stage_idle k says None Broken t w s c e = absurd s
stage_idle k says (Some q) Free t w s c e = absurd (cc (rests_by (next_call w) e, call_some k w c s.1))
stage_idle k says (Some q) (Tails until node heard) t w s c e = absurd s
stage_idle k says (Some q) (Logs ahead dues) t w s c e = absurd (cc (rests_by (next_call w) e, call_some k w c s.1))
stage_idle k says (Some q) Broken t w s c e = absurd s

held_want : (a : Actor) (h : Holding) → a.holds ≡ Some h → read_first a.holds (call_wanted (next_call a.writer)) ≡ work_read h.work h.position (call_wanted (next_call a.writer))
unfolding read_first
held_want a h e = ap (λ (o : Option Holding). read_first o (call_wanted (next_call a.writer))) e

idle_of : (a : Actor) (l : Live a) → is_wanting (wants a) ≡ false → Idle a
idle_of a l e =
    let r : Resting a = resting a e in
    let f : (l.holding.work ≡ Free) × (a.doing ≡ None) × IsBetween a.writer.phase =
    stage_idle l.kind a.says a.doing l.holding.work l.holding.position a.writer l.stage l.course (ap is_wanting (sym (held_want a l.holding l.holds)) ∙ r.want) in
    record { live = l; free = f.0; none = f.1; quiet = r.says; between = f.2 }

whole_work : (k : Aim) (p : Phase) (says : List (List ℕ)) (o : Option Task) (x : Work) → Stage k p says o x → is_broken_work x ≡ false
whole_work k p says o Free s = refl
whole_work k p says o (Tails until node heard) s = refl
whole_work k p says o (Logs ahead dues) s = refl
whole_work k p says None Broken s = absurd s
whole_work k p says (Some t) Broken s = absurd s

live_whole : (a : Actor) → Live a → is_broken a ≡ false
unfolding is_broken
live_whole a l = ap is_broken_holding l.holds ∙ whole_work l.kind a.writer.phase a.says a.doing l.holding.work l.stage

record Settled (ds : List Action) (a : Actor) (l : Live a) (b : Actor) : Type 0 where
  live : Live b
  actions : AreActions true b.todo
  owes : (texts : List (List ℕ)) → OwesBy b live b.todo texts → OwesBy a l ds texts
  done : is_wanting (wants b) ≡ false → b.todo ≡ []

with_todo : (a : Actor) (ds : List Action) → Live a → Live (record a { todo = ds })
with_todo a ds l = record { holding = l.holding; holds = l.holds; kind = l.kind; course = l.course; stage = l.stage }

idle_owes : (a : Actor) (l : Live a) (i : Idle a) (ds : List Action) (texts : List (List ℕ)) → l.holding.work ≡ Free → Owes [] 0 ds texts → OwesBy a l ds texts
idle_owes a l i ds texts free h =
    subst (λ (s : List (List ℕ)). Owes s (due_of a.doing l.holding.work) ds texts) (sym i.quiet) (subst (λ (n : ℕ). Owes [] n ds texts) (sym (free_due a.doing l.holding.work i.none free)) h)

settled_so : (ds : List Action) (a : Actor) (l : Live a) → AreActions true ds → Settled ds a l (settle ds a)
unfolding settle AreActions with_todo
settled_so [] a l d = record { live = with_todo a [] l; actions = tt; owes = λ texts o. o; done = λ e. refl }
settled_so (d ∷ ds) a l e = by (is_wanting (wants a) || is_broken a) refl (λ g. settled_so ds (take_action d a) g e.1)
  where
    by : (b : Bool) → (is_wanting (wants a) || is_broken a) ≡ b → ((g : Live (take_action d a)) → Settled ds (take_action d a) g (settle ds (take_action d a)))
        → Settled (d ∷ ds) a l (cond b (record a { todo = while_wanting (is_wanting (wants a)) (d ∷ ds) }) (settle ds (take_action d a)))
    by true is go =
        let at_work : is_wanting (wants a) ≡ true = either_wants (is_wanting (wants a)) (is_broken a) is (live_whole a l) in
        subst (λ (ts : List Action). Settled (d ∷ ds) a l (record a { todo = ts })) (sym (waiting a (d ∷ ds) at_work)) (record {
          live = with_todo a (d ∷ ds) l;
          actions = e;
          owes = λ texts o. o;
          done = λ f. absurd (cc (at_work, ap is_wanting (sym (todo_wants a (d ∷ ds))) ∙ f));
        })
    by false is go =
        let i : Idle a = idle_of a l (or_false (is_wanting (wants a)) (is_broken a) is) in
        let t : Taken d a (take_action d a) = action_taken_so d a e.0 i in
        let s : Settled ds (take_action d a) t.live (settle ds (take_action d a)) = go t.live in
        record {
          live = s.live;
          actions = s.actions;
          owes = λ texts o.
              idle_owes a l i (d ∷ ds) texts (held_work l.holding i.live.holding a.holds l.holds i.live.holds ∙ i.free)
              (t.owes ds texts (s.owes texts o));
          done = s.done;
        }

-- ## A line of the record
-- an actor that is broken, or goes on with what it owes
record Next (n : ℕ) (b : Actor) : Type 0 where
  live : Live b
  owes : (todo : List Action) (texts : List (List ℕ)) → OwesBy b live todo texts → Owes [] n todo texts

abbrev Moved : ℕ → Actor → Type 0
Moved n b = (is_broken b ≡ true) ⊎ Next n b

owes_more : (says : List (List ℕ)) (m n : ℕ) (todo : List Action) (texts : List (List ℕ)) → length says + m ≡ n → Owes says m todo texts → Owes [] n todo texts
owes_more says m n todo texts e h = record {
  due = says ++ h.due;
  rest = h.rest;
  all = h.all ∙ sym (append_assoc says h.due h.rest);
  count = omega (arith, length-append says h.due, h.count, e);
  are_results = h.are_results;
}

-- it says its results next
says_next : (n : ℕ) (b : Actor) (h : Holding) (k : Aim) → b.holds ≡ Some h → h.work ≡ Free → b.doing ≡ None → Course k b.writer → IsBetween b.writer.phase → length b.says ≡ n → Next n b
says_next n b h k e f none c between many = record {
  live = record {
    holding = h;
    holds = e;
    kind = k;
    course = c;
    stage = subst (λ (x : Work). Stage k b.writer.phase b.says b.doing x) (sym f) (subst (λ (o : Option Task). Stage k b.writer.phase b.says o Free) (sym none) between);
  };
  owes = λ todo texts o. owes_more b.says 0 n todo texts (omega (arith, many)) (subst (λ (m : ℕ). Owes b.says m todo texts) (free_due b.doing h.work none f) o);
}

-- its tail asks the next node
tails_next : (b : Actor) (h : Holding) (k : Aim) (until : Option ℕ) (node : ℕ) (heard : List Heard) → b.holds ≡ Some h
    → h.work ≡ Tails until node heard → b.doing ≡ None → Course k b.writer → IsBetween b.writer.phase
    → b.says ≡ [] → Next 1 b
tails_next b h k until node heard e f none c between quiet = record {
  live = record {
    holding = h;
    holds = e;
    kind = k;
    course = c;
    stage = subst (λ (x : Work). Stage k b.writer.phase b.says b.doing x) (sym f)
        (subst (λ (o : Option Task). Stage k b.writer.phase b.says o (Tails until node heard)) (sym none) (between, quiet));
  };
  owes = λ todo texts o.
      owes_more b.says 1 1 todo texts (omega (arith, ap length quiet))
      (subst (λ (m : ℕ). Owes b.says m todo texts) (ap (λ (z : Option Task). due_of z h.work) none ∙ ap (λ (x : Work). due_of None x) f) o);
}

-- what a step of a tail leaves
abbrev Shape : TailStep → Type 0
Shape (GoesOn z) = (until : Option ℕ) × (node : ℕ) × (heard : List Heard) × (z.work ≡ Tails until node heard)
Shape (Ends end z) = z.work ≡ Free
Shape (Breaks z) = z.work ≡ Broken

pass_shape : (until : Option ℕ) (h : Holding) → Shape (pass_begun until h)
unfolding pass_begun
pass_shape until h = by (is_until until h.position)
  where
    by : (b : Bool) → Shape (cond b (Ends Reached (with_work Free h)) (GoesOn (with_work (Tails until 1 []) h)))
    by true = refl
    by false = (until, 1, [], refl)

applied_shape : (until : Option ℕ) (x : Applied) (h : Holding) → Shape (after_applied until x h)
applied_shape until (All s t) h = pass_shape until (record h { space = s; position = t })
applied_shape until (BadEntry s t) h = refl

none_shape : (m : ℕ) (until : Option ℕ) (node : ℕ) (heard : List Heard) (h : Holding) → Shape (no_edits m until node heard h)
none_shape m until node heard h = by (nat_lt node m)
  where
    by : (b : Bool) → Shape (cond b (GoesOn (with_work (Tails until (node + 1) heard) h)) (Ends (pass_end until heard) (with_work Free h)))
    by true = (until, node + 1, heard, refl)
    by false = refl

tail_shape : (m : ℕ) (until : Option ℕ) (node : ℕ) (heard : List Heard) (x : Heard) (h : Holding) → Shape (tail_hears m until node heard x h)
unfolding tail_hears
tail_shape m until node heard (Answer (reply.Edits batch)) h = applied_shape until (applied h.position (up_to until h.position batch.bodies) h.space) h
tail_shape m until node heard (Answer reply.Ok) h = none_shape m until node (heard ++ Answer reply.Ok ∷ []) h
tail_shape m until node heard (Answer (reply.State p)) h = none_shape m until node (heard ++ Answer (reply.State p) ∷ []) h
tail_shape m until node heard (Answer (reply.NewEpoch o)) h = none_shape m until node (heard ++ Answer (reply.NewEpoch o) ∷ []) h
tail_shape m until node heard (Answer (reply.Prepared x y z)) h = none_shape m until node (heard ++ Answer (reply.Prepared x y z) ∷ []) h
tail_shape m until node heard (Answer (reply.Segments ls)) h = none_shape m until node (heard ++ Answer (reply.Segments ls) ∷ []) h
tail_shape m until node heard (Answer (reply.Refused f)) h = none_shape m until node (heard ++ Answer (reply.Refused f) ∷ []) h
tail_shape m until node heard Silent h = none_shape m until node (heard ++ Silent ∷ []) h

stopped_course : (k : Aim) (w : WriterView) → Course k w → Course k (writer_stopped w)
stopped_course k w c = record { is = c.is; other = c.other; course = tt }

ended_next : (until : Option ℕ) (end : TailEnd) (z : Holding) (a : Actor) (k : Aim) → z.work ≡ Free → a.doing ≡ None → Course k a.writer → IsBetween a.writer.phase → Next 1 (tail_ended until end z a)
unfolding tail_ended
ended_next None end z a k f none c between = says_next 1 _ z k refl f none c between refl
ended_next (Some last) Reached z a k f none c between = says_next 1 _ (at_position a.writer.start z) k refl refl none c between refl
ended_next (Some last) Caught z a k f none c between = says_next 1 _ z k refl f none (stopped_course k a.writer c) tt refl
ended_next (Some last) (PurgedFrom first) z a k f none c between = says_next 1 _ z k refl f none (stopped_course k a.writer c) tt refl
ended_next (Some last) (BehindBy causes) z a k f none c between = says_next 1 _ z k refl f none (stopped_course k a.writer c) tt refl

tail_next : (until : Option ℕ) (x : TailStep) (a : Actor) (k : Aim) → Shape x → a.doing ≡ None → a.says ≡ [] → Course k a.writer → IsBetween a.writer.phase → Moved 1 (tail_stepped until x a)
unfolding tail_stepped is_broken
tail_next until (GoesOn z) a k s none quiet c between = inr (tails_next _ z k s.0 s.1 s.2 refl s.3 none c between quiet)
tail_next until (Ends end z) a k s none quiet c between = inr (ended_next until end z a k s none c between)
tail_next until (Breaks z) a k s none quiet c between = inl (ap is_broken_work s)

-- ## The end of a task
-- of one that has one result
single_done : (t : Task) (o : TaskOutcome) (h : Holding) (a : Actor) (k : Aim) → Single t → IsOf (aim_of t) o → h.work ≡ Free → a.holds ≡ Some h
    → a.doing ≡ None → a.says ≡ [] → Course k a.writer → IsBetween a.writer.phase
    → Moved 1 (task_done o t h a)
unfolding task_done
single_done task.Takeover (outcome.Takeover epoch first) h a k s is f e none quiet c between =
    tail_next (Some (first - 1)) (pass_begun (Some (first - 1)) (enters (first - 1) h)) a k (pass_shape (Some (first - 1)) (enters (first - 1) h)) none quiet c between
single_done task.Roll (outcome.Roll start) h a k s is f e none quiet c between = inr (says_next 1 _ (at_position start h) k refl refl none c between refl)
single_done task.Close (outcome.Close last) h a k s is f e none quiet c between = inr (says_next 1 _ (at_position last h) k refl refl none c between refl)
single_done (task.Purge min) outcome.Purge h a k s is f e none quiet c between = inr (says_next 1 _ h k e f none c between refl)
single_done (task.Log bodies) o h a k s is f e none quiet c between = absurd s
single_done task.Takeover (outcome.Log first last) h a k s is f e none quiet c between = absurd is
single_done task.Takeover (outcome.Roll start) h a k s is f e none quiet c between = absurd is
single_done task.Takeover (outcome.Close last) h a k s is f e none quiet c between = absurd is
single_done task.Takeover outcome.Purge h a k s is f e none quiet c between = absurd is
single_done task.Roll (outcome.Takeover epoch first) h a k s is f e none quiet c between = absurd is
single_done task.Roll (outcome.Log first last) h a k s is f e none quiet c between = absurd is
single_done task.Roll (outcome.Close last) h a k s is f e none quiet c between = absurd is
single_done task.Roll outcome.Purge h a k s is f e none quiet c between = absurd is
single_done task.Close (outcome.Takeover epoch first) h a k s is f e none quiet c between = absurd is
single_done task.Close (outcome.Log first last) h a k s is f e none quiet c between = absurd is
single_done task.Close (outcome.Roll start) h a k s is f e none quiet c between = absurd is
single_done task.Close outcome.Purge h a k s is f e none quiet c between = absurd is
single_done (task.Purge min) (outcome.Takeover epoch first) h a k s is f e none quiet c between = absurd is
single_done (task.Purge min) (outcome.Log first last) h a k s is f e none quiet c between = absurd is
single_done (task.Purge min) (outcome.Roll start) h a k s is f e none quiet c between = absurd is
single_done (task.Purge min) (outcome.Close last) h a k s is f e none quiet c between = absurd is

single_aborted : (t : Task) (causes : List Cause) (x : Work) → Single t → x ≡ Free → length (aborted_texts x t causes) ≡ 1
single_aborted t causes x s e = ap (λ (y : Work). length (aborted_texts y t causes)) e ∙ by t s
  where
    by : (u : Task) → Single u → length (aborted_texts Free u causes) ≡ 1
    by task.Takeover h = each_length task.Takeover _
    by task.Roll h = each_length task.Roll _
    by task.Close h = each_length task.Close _
    by (task.Log bodies) h = absurd h
    by (task.Purge min) h = refl

-- the actor that heard the answer, with its task over
abbrev Over : Actor → Holding → Aim → Type 0
Over a h k = (a.holds ≡ Some h) × (a.doing ≡ None) × (a.says ≡ []) × Course k a.writer

single_turn : (t : Task) (u : Turn) (h : Holding) (a : Actor) (k : Aim) → Single t → aim_of t ≡ k → h.work ≡ Free → Over a h k → u ≢ turn.Going
    → TurnOf k a.writer.phase u → Moved 1 (held_turn u t h a)
unfolding held_turn
single_turn t turn.Going h a k s e f o off is = absurd (off refl)
single_turn t (turn.Done x) h a k s e f o off is = single_done t x h a k s (subst (λ (z : Aim). IsOf z x) (sym e) is.0) f o.0 o.1 o.2 o.3 is.1
single_turn t turn.Aborted h a k s e f o off is = inr (says_next 1 _ (reload_image h) k refl (reloaded_free h) o.1 o.3 is (single_aborted t a.writer.causes h.work s f))
single_turn t (turn.EpochLimit m) h a k s e f o off is = inr (says_next 1 _ h k o.0 f o.1 o.3 is.1 refl)

log_done : (t : Task) (x : TaskOutcome) (h : Holding) (ahead : Space) (dues : List Due) (a : Actor) (k : Aim) → IsLog t → IsOf (aim_of t) x
    → h.work ≡ Logs ahead dues → Over a h k → IsBetween a.writer.phase → Moved (length dues) (task_done x t h a)
unfolding task_done logs_done
log_done (task.Log bodies) (outcome.Log first last) h ahead dues a k s is f o between =
    subst (λ (w : Work). Moved (length dues) (logs_done w first last h a)) (sym f)
    (inr (says_next (length dues) _ (record h { space = ahead; position = last; work = Free }) k refl refl o.1 o.3 between (logged_length first dues)))
log_done (task.Log bodies) (outcome.Takeover epoch first) h ahead dues a k s is f o between = absurd is
log_done (task.Log bodies) (outcome.Roll start) h ahead dues a k s is f o between = absurd is
log_done (task.Log bodies) (outcome.Close last) h ahead dues a k s is f o between = absurd is
log_done (task.Log bodies) outcome.Purge h ahead dues a k s is f o between = absurd is
log_done task.Takeover x h ahead dues a k s is f o between = absurd s
log_done task.Roll x h ahead dues a k s is f o between = absurd s
log_done task.Close x h ahead dues a k s is f o between = absurd s
log_done (task.Purge min) x h ahead dues a k s is f o between = absurd s

log_limit_apart : (t : Task) (k : Aim) → IsLog t → aim_of t ≡ k → k ≡ aim.Takeover → ⊥
log_limit_apart (task.Log bodies) k s e f = cc (e, f)
log_limit_apart task.Takeover k s e f = s
log_limit_apart task.Roll k s e f = s
log_limit_apart task.Close k s e f = s
log_limit_apart (task.Purge min) k s e f = s

log_turn : (t : Task) (u : Turn) (h : Holding) (ahead : Space) (dues : List Due) (a : Actor) (k : Aim) → IsLog t → aim_of t ≡ k
    → h.work ≡ Logs ahead dues → Over a h k → u ≢ turn.Going → TurnOf k a.writer.phase u
    → Moved (length dues) (held_turn u t h a)
unfolding held_turn
log_turn t turn.Going h ahead dues a k s e f o off is = absurd (off refl)
log_turn t (turn.Done x) h ahead dues a k s e f o off is = log_done t x h ahead dues a k s (subst (λ (z : Aim). IsOf z x) (sym e) is.0) f o is.1
log_turn t turn.Aborted h ahead dues a k s e f o off is =
    inr (says_next (length dues) _ (reload_image h) k refl (reloaded_free h) o.1 o.3 is
    (ap (λ (w : Work). length (aborted_texts w t a.writer.causes)) f ∙ aborted_length (abort_text a.writer.causes) dues))
log_turn t (turn.EpochLimit m) h ahead dues a k s e f o off is = absurd (log_limit_apart t k s e is.0)

-- a task goes on
going_next : (a : Actor) (t : Task) (h : Holding) (k : Aim) (n : ℕ) → a.holds ≡ Some h → a.doing ≡ Some t → a.says ≡ [] → Course k a.writer
    → Stage k a.writer.phase a.says (Some t) h.work → due_of (Some t) h.work ≡ n → Next n a
going_next a t h k n e d quiet c s due = record {
  live = record { holding = h; holds = e; kind = k; course = c; stage = subst (λ (o : Option Task). Stage k a.writer.phase a.says o h.work) (sym d) s };
  owes = λ todo texts o. owes_more a.says n n todo texts (omega (arith, ap length quiet)) (subst (λ (m : ℕ). Owes a.says m todo texts) (ap (λ (z : Option Task). due_of z h.work) d ∙ due) o);
}

turn_moves : (n : ℕ) (t : Task) (u : Turn) (h : Holding) (a : Actor) → a.holds ≡ Some h → (u ≡ turn.Going → Moved n a)
    → (u ≢ turn.Going → Moved n (held_turn u t h (record a { doing = None }))) → Moved n (turn_taken u (Some t) a)
unfolding turn_taken turn_with
turn_moves n t turn.Going h a e g f = g refl
turn_moves n t (turn.Done o) h a e g f = subst (λ (x : Option Holding). Moved n (turn_with x (turn.Done o) t (record a { doing = None }))) (sym e) (f (λ y. cc y))
turn_moves n t turn.Aborted h a e g f = subst (λ (x : Option Holding). Moved n (turn_with x turn.Aborted t (record a { doing = None }))) (sym e) (f (λ y. cc y))
turn_moves n t (turn.EpochLimit m) h a e g f = subst (λ (x : Option Holding). Moved n (turn_with x (turn.EpochLimit m) t (record a { doing = None }))) (sym e) (f (λ y. cc y))

-- the actor, told of the call
abbrev told_of_call : Actor → ℕ → Request → Told → Actor
told_of_call a node q t = record a { past = a.past ++ Call node q t ∷ []; writer = (writer_heard a.writer node (heard_of t)).writer }

single_moves : (a : Actor) (node : ℕ) (q : Request) (t : Told) (s : Task) (h : Holding) (k : Aim) → a.holds ≡ Some h → h.work ≡ Free
    → a.doing ≡ Some s → Course k a.writer → Stage k a.writer.phase a.says (Some s) Free
    → Moved 1 (turn_taken (writer_heard a.writer node (heard_of t)).turn (Some s) (told_of_call a node q t))
single_moves a node q t s h k e f d c g =
    let j : Judgment = writer_heard a.writer node (heard_of t) in
    let x : Turned k j = heard_turn k a.writer node (heard_of t) c g.1 in
    turn_moves 1 s j.turn h (told_of_call a node q t) e
    (λ u. inr (going_next (told_of_call a node q t) s h k 1 e d g.2 x.course
    (subst (λ (w : Work). Stage k j.writer.phase a.says (Some s) w) (sym f) (g.0, subst (λ (v : Turn). TurnOf k j.writer.phase v) u x.turn, g.2, g.3)) (ap (due_of (Some s)) f)))
    (λ off. single_turn s j.turn h (record (told_of_call a node q t) { doing = None }) k g.3 g.0 f (e, refl, g.2, x.course) off x.turn)

log_moves : (a : Actor) (node : ℕ) (q : Request) (t : Told) (s : Task) (h : Holding) (ahead : Space) (dues : List Due) (k : Aim) → a.holds ≡ Some h
    → h.work ≡ Logs ahead dues → a.doing ≡ Some s → Course k a.writer
    → Stage k a.writer.phase a.says (Some s) (Logs ahead dues) → Moved (length dues) (turn_taken (writer_heard a.writer node (heard_of t)).turn (Some s) (told_of_call a node q t))
log_moves a node q t s h ahead dues k e f d c g =
    let j : Judgment = writer_heard a.writer node (heard_of t) in
    let x : Turned k j = heard_turn k a.writer node (heard_of t) c g.1 in
    turn_moves (length dues) s j.turn h (told_of_call a node q t) e
    (λ u. inr (going_next (told_of_call a node q t) s h k (length dues) e d g.2 x.course
    (subst (λ (w : Work). Stage k j.writer.phase a.says (Some s) w) (sym f) (g.0, subst (λ (v : Turn). TurnOf k j.writer.phase v) u x.turn, g.2, g.3)) (ap (due_of (Some s)) f)))
    (λ off. log_turn s j.turn h ahead dues (record (told_of_call a node q t) { doing = None }) k g.3 g.0 f (e, refl, g.2, x.course) off x.turn)

between_calls : (w : WriterView) (node : ℕ) (q : Request) → IsBetween w.phase → call_wanted (next_call w) ≡ WantsCall node q → ⊥
between_calls w node q b e = cc (call_none w b, call_by (next_call w) node q e)

stage_moves : (a : Actor) (node : ℕ) (q : Request) (t : Told) (h : Holding) (k : Aim) (o : Option Task) (x : Work) → a.holds ≡ Some h → h.work ≡ x
    → a.doing ≡ o → Course k a.writer → Stage k a.writer.phase a.says o x
    → work_read x h.position (call_wanted (next_call a.writer)) ≡ WantsCall node q → Moved (due_of o x) (heard_in_work x h node (heard_of t) (record a { past = a.past ++ Call node q t ∷ [] }))
stage_moves a node q t h k None Free e f d c s want = absurd (between_calls a.writer node q s want)
stage_moves a node q t h k None (Tails until next heard) e f d c s want =
    tail_next until (tail_hears (length a.writer.left) until next heard (heard_of t) h) (record a { past = a.past ++ Call node q t ∷ [] }) k
    (tail_shape (length a.writer.left) until next heard (heard_of t) h) d s.1 c s.0
stage_moves a node q t h k None (Logs ahead dues) e f d c s want = absurd s
stage_moves a node q t h k None Broken e f d c s want = absurd s
stage_moves a node q t h k (Some u) Free e f d c s want =
    subst (λ (z : Option Task). Moved 1 (turn_taken (writer_heard a.writer node (heard_of t)).turn z (told_of_call a node q t))) (sym d) (single_moves a node q t u h k e f d c s)
stage_moves a node q t h k (Some u) (Tails until next heard) e f d c s want = absurd s
stage_moves a node q t h k (Some u) (Logs ahead dues) e f d c s want =
    subst (λ (z : Option Task). Moved (length dues) (turn_taken (writer_heard a.writer node (heard_of t)).turn z (told_of_call a node q t))) (sym d) (log_moves a node q t u h ahead dues k e f d c s)
stage_moves a node q t h k (Some u) Broken e f d c s want = absurd s

call_moves : (a : Actor) (l : Live a) (node : ℕ) (q : Request) (t : Told) → Calling node q a
    → Moved (due_of a.doing l.holding.work) (heard_by a.holds node (heard_of t) (record a { past = a.past ++ Call node q t ∷ [] }))
unfolding heard_by
call_moves a l node q t c =
    subst (λ (o : Option Holding). Moved (due_of a.doing l.holding.work) (heard_by o node (heard_of t) (record a { past = a.past ++ Call node q t ∷ [] }))) (sym l.holds)
    (stage_moves a node q t l.holding l.kind a.doing l.holding.work l.holds refl refl l.course l.stage (sym (held_want a l.holding l.holds) ∙ c.want))

-- what a line leaves
record LineSaid (r : Record) (a : Actor) (l : Live a) (b : Actor) : Type 0 where
  live : Live b
  owes : (rs : List Record) → OwesBy b live a.todo (results_in rs) → OwesBy a l a.todo (results_in (r ∷ rs))

said_stage : (k : Aim) (p : Phase) (says rest : List (List ℕ)) (x : List ℕ) (o : Option Task) (w : Work) → says ≡ x ∷ rest → Stage k p says o w → Stage k p (drop 1 says) o w
said_stage k p says rest x None Free e s = s
said_stage k p says rest x None (Tails until node heard) e s = absurd (cc (e, s.1))
said_stage k p says rest x None (Logs ahead dues) e s = s
said_stage k p says rest x None Broken e s = s
said_stage k p says rest x (Some t) Free e s = absurd (cc (e, s.2))
said_stage k p says rest x (Some t) (Tails until node heard) e s = s
said_stage k p says rest x (Some t) (Logs ahead dues) e s = absurd (cc (e, s.2))
said_stage k p says rest x (Some t) Broken e s = s

said_owes : (says rest : List (List ℕ)) (x : List ℕ) (n : ℕ) (todo : List Action) (texts : List (List ℕ)) → says ≡ x ∷ rest → Owes (drop 1 says) n todo texts → Owes says n todo (x ∷ texts)
said_owes says rest x n todo texts e h = record {
  due = h.due;
  rest = h.rest;
  all = ap (λ (l : List (List ℕ)). x ∷ l) (h.all ∙ ap (λ (l : List (List ℕ)). drop 1 l ++ (h.due ++ h.rest)) e) ∙ ap (λ (l : List (List ℕ)). l ++ (h.due ++ h.rest)) (sym e);
  count = h.count;
  are_results = h.are_results;
}

called : (a : Actor) (l : Live a) (node : ℕ) (q : Request) (t : Told) (b : Actor) → a.says ≡ [] → Moved (due_of a.doing l.holding.work) b → (is_broken b ≡ true) ⊎ LineSaid (Call node q t) a l b
unfolding results_in
called a l node q t b quiet (inl e) = inl e
called a l node q t b quiet (inr x) = inr (record {
  live = x.live;
  owes = λ rs o. subst (λ (s : List (List ℕ)). Owes s (due_of a.doing l.holding.work) a.todo (results_in rs)) (sym quiet) (x.owes a.todo (results_in rs) o);
})

line_said : (r : Record) (a : Actor) (l : Live a) → Fits (wants a) r
    → (is_broken (moved_on r (record a { past = a.past ++ r ∷ [] })) ≡ true) ⊎ LineSaid r a l (moved_on r (record a { past = a.past ++ r ∷ [] }))
unfolding moved_on results_in
line_said (Call node q t) a l f =
    let c : Calling node q a = fits_calling a node q t f in
    called a l node q t (heard_by a.holds node (heard_of t) (record a { past = a.past ++ Call node q t ∷ [] })) c.says (call_moves a l node q t c)
line_said (Late node q) a l f = inr (record {
  live = record { holding = l.holding; holds = l.holds; kind = l.kind; course = l.course; stage = l.stage };
  owes = λ rs o. o;
})
line_said (Operator node ask d) a l f = absurd (no_operation (wants a) node ask d f)
line_said (Outcome x) a l f =
    let s : Saying x a = fits_saying a x f in
    inr (record {
      live = record { holding = l.holding; holds = l.holds; kind = l.kind; course = l.course; stage = said_stage l.kind a.writer.phase a.says s.rest x a.doing l.holding.work s.says l.stage };
      owes = λ rs o. said_owes a.says s.rest x (due_of a.doing l.holding.work) a.todo (results_in rs) s.says o;
    })

-- ## Along a record
broken_by : (b c : Bool) (x y : Actor) → c ≡ true → is_broken x ≡ true → is_broken (cond (b || c) x y) ≡ true
broken_by true c x y e h = h
broken_by false true x y e h = h
broken_by false false x y e h = absurd (cc e)

broken_todo : (a : Actor) (x : List Action) → is_broken (record a { todo = x }) ≡ is_broken a
unfolding is_broken
broken_todo a x = refl

broken_settled : (ds : List Action) (a : Actor) → is_broken a ≡ true → is_broken (settle ds a) ≡ true
unfolding settle
broken_settled [] a e = broken_todo a [] ∙ e
broken_settled (d ∷ ds) a e = broken_by (is_wanting (wants a)) (is_broken a) (record a { todo = while_wanting (is_wanting (wants a)) (d ∷ ds) }) (settle ds (take_action d a)) e
    (broken_todo a (while_wanting (is_wanting (wants a)) (d ∷ ds)) ∙ e)

never_first : (a : Actor) (rs : List Record) → NeverBroken a rs → is_broken a ≡ false
unfolding NeverBroken
never_first a [] h = h
never_first a (r ∷ rs) h = h.0

nothing_due : (todo : List Action) → todo ≡ [] → Owes [] 0 todo []
unfolding AreResults
nothing_due todo e = record { due = []; rest = []; all = refl; count = refl; are_results = subst (λ (ds : List Action). AreResults ds []) (sym e) refl }

-- the actor once it has heard a line
abbrev after_line : Record → Actor → Actor
after_line r a = moved_on r (record a { past = a.past ++ r ∷ [] })

line_owes : (r : Record) (rs : List Record) (a : Actor) (l : Live a) → AreActions true a.todo → NeverBroken (settle (after_line r a).todo (after_line r a)) rs
    → ((z : Live (settle (after_line r a).todo (after_line r a))) → AreActions true (settle (after_line r a).todo (after_line r a)).todo
    → (is_wanting (wants (settle (after_line r a).todo (after_line r a))) ≡ false → (settle (after_line r a).todo (after_line r a)).todo ≡ [])
    → OwesBy (settle (after_line r a).todo (after_line r a)) z (settle (after_line r a).todo (after_line r a)).todo (results_in rs))
    → (is_broken (after_line r a) ≡ true) ⊎ LineSaid r a l (after_line r a) → OwesBy a l a.todo (results_in (r ∷ rs))
line_owes r rs a l d whole go (inl broken) =
    let b : Actor = after_line r a in
    absurd (cc (broken_settled b.todo b broken, never_first (settle b.todo b) rs whole))
line_owes r rs a l d whole go (inr x) =
    let b : Actor = after_line r a in
    let same : b.todo ≡ a.todo = (moved_keeps r (record a { past = a.past ++ r ∷ [] })).0 in
    let s : Settled b.todo b x.live (settle b.todo b) = settled_so b.todo b x.live (subst (AreActions true) (sym same) d) in
    x.owes rs (subst (λ (ds : List Action). OwesBy b x.live ds (results_in rs)) same (s.owes (results_in rs) (go s.live s.actions s.done)))

led_owes : (rs : List Record) (a : Actor) (l : Live a) → AreActions true a.todo → (is_wanting (wants a) ≡ false → a.todo ≡ []) → IsLed a rs
    → NeverBroken a rs → wants (actor_after a rs) ≡ Rests → OwesBy a l a.todo (results_in rs)
unfolding IsLed actor_after results_in NeverBroken goes_on settle_again
led_owes [] a l d done h whole e =
    let off : is_wanting (wants a) ≡ false = rests_is (wants a) e in
    let i : Idle a = idle_of a l off in
    idle_owes a l i a.todo [] (held_work l.holding i.live.holding a.holds l.holds i.live.holds ∙ i.free) (nothing_due a.todo (done off))
led_owes (r ∷ rs) a l d done h whole e =
    line_owes r rs a l d whole.1 (λ z ds over. led_owes rs (settle (moved_on r (record a { past = a.past ++ r ∷ [] })).todo
    (moved_on r (record a { past = a.past ++ r ∷ [] }))) z ds over h.1 whole.1 e) (line_said r a l h.0)

fresh_live : (n : ℕ) → 1 ≤ n → Live (fresh_actor true n)
unfolding fresh_actor
fresh_live n h = record { holding = new_holding; holds = refl; kind = aim.Takeover; course = new_course n h; stage = tt }

pub each_named_result : (n : ℕ) (ds : List Action) (rs : List Record) → 1 ≤ n → AreActions true ds → IsLed (settle ds (fresh_actor true n)) rs → NeverBroken (settle ds (fresh_actor true n)) rs
    → wants (actor_after (settle ds (fresh_actor true n)) rs) ≡ Rests → AreResults ds (results_in rs)
unfolding fresh_actor fresh_live
each_named_result n ds rs h d led whole e =
    let new : Actor = fresh_actor true n in
    let s : Settled ds new (fresh_live n h) (settle ds new) = settled_so ds new (fresh_live n h) d in
    let o : Owes [] 0 ds (results_in rs) = s.owes (results_in rs) (led_owes rs (settle ds new) s.live s.actions s.done led whole e) in
    subst (AreResults ds) (sym (o.all ∙ ap (λ (x : List (List ℕ)). x ++ o.rest) (nil_from_length o.due o.count))) o.are_results
