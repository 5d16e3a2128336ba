-- A task that a writer is given: it begins under the writer's takeover, or leaves the writer as it
-- was.
use Rattle.std.proofs.Common.{◌≡◌, ℕ, ◌<◌, ◌⊎◌, inl, inr, List, [], ◌∷◌, Bool, true, false, length, refl, sym, ap, ◌∙◌, subst, arith, map, replicate}
use Rattle.std.specs.List.{list_all}
use Rattle.writer_core.specs.declared.round.Round.{Round}
use Rattle.writer_core.specs.declared.round.Round.TheVariants as round
use Rattle.writer_core.specs.declared.phase.Phase.{Phase}
use Rattle.writer_core.specs.declared.phase.Phase.TheVariants as phase
use Rattle.writer_core.specs.declared.task.Task.{Task}
use Rattle.writer_core.specs.declared.task.Task.TheVariants as task
use Rattle.writer_core.specs.declared.task.Begun.{Begun}
use Rattle.writer_core.specs.declared.task.Begun.TheVariants as begun
use Rattle.writer_core.specs.Views.{WriterView}
use Rattle.writer_core.specs.Writer.{is_writing, writer_begun, HasBody}
use Rattle.writer_core.specs.Whole.{Takeover, progress_from, has_begun, next_begun, next_task, round_after}
use Rattle.writer_core.proofs.Plain.{plain}
use Rattle.writer_core.proofs.PlainRounds.{IsWhole, alike_phase}
use Rattle.writer_core.proofs.PlainTasks.{IsUnder, BeginsAlike, goes, stays, begun_alike, Stays, not_writing}
use Rattle.writer_core.proofs.Filling.{fills_first}
use Rattle.writer_core.proofs.WholeLaws.{with_tasks, Reaches, reaches_task}
use Rattle.writer_core.proofs.WholeRounds.{unslotted_alike}
use Rattle.journal_history.specs.Entries.{Entry}
use Rattle.run_safety.specs.Run.{may_follow}
use Rattle.run_safety.proofs.Tales.{Tale}
use Rattle.run_safety.proofs.Fair.{IsTold, told_still}
use Rattle.run_safety.proofs.TaleSteps.{put_here, Continues, continues_not, grows_task, all_more, gone_on, gone_continues, heard_later}
use Rattle.run_safety.proofs.WriterRange.{Sized}
use Rattle.run_safety.proofs.Tracked.{IsSilent, Stands, calling, fetching, writing, IsBefore, Tracked, is_free, Status, free, asking, tracked}
use Rattle.run_safety.proofs.RoundCalls.{Gives}

-- the writer that was given the task
abbrev pub its_begin : Task → WriterView → WriterView
its_begin t v = (writer_begun v t).writer

-- ## A takeover
none_left : (l : List Bool) → map (λ b. false) l ≡ replicate (length l) false
none_left [] = refl
none_left (b ∷ l) = ap (λ (x : List Bool). false ∷ x) (none_left l)

takes_over : (n : ℕ) (a : Tale) (past : List Entry) (c : ℕ) (x : WriterView) → length x.left ≡ n → Status n a past c (its_begin task.Takeover x)
unfolding writer_begun
takes_over n a past c x e = asking refl refl (none_left x.left ∙ ap (λ (m : ℕ). replicate m false) e)

-- ## A task under the epoch
may_be : (t : Task) → IsUnder t → HasBody t → may_follow t ≡ true
may_be task.Takeover u b = absurd u
may_be (task.Log []) u b = absurd (b refl)
may_be (task.Log (body ∷ bodies)) u b = refl
may_be task.Roll u b = refl
may_be task.Close u b = refl
may_be (task.Purge min) u b = refl

task_is : (u : WriterView) (t : Task) (r : Round) (more : List Task) → u.phase ≡ phase.Writing → (writer_begun u t).begun ≡ begun.Going → (writer_begun u t).writer.phase ≡ phase.InRound r
    → round_after u.phase u (t ∷ more) ≡ round_after (writer_begun u t).writer.phase (writer_begun u t).writer more
unfolding next_task
task_is u t r more e f g =
    let v : WriterView = (writer_begun u t).writer in
    ap (λ (p : Phase). round_after p u (t ∷ more)) e
    ∙ ap (λ (b : Begun). next_begun (has_begun b) (progress_from v.phase v more) (next_task u more)) f
    ∙ ap (λ (p : Phase). progress_from p v more) g
    ∙ sym (ap (λ (p : Phase). round_after p v more) g)

abbrev task_tale : Tale → ℕ → Task → Tale
task_tale a k t = gone_on a k (a.top k) (with_tasks (a.story.takeover k) (t ∷ []))

task_goes : (n : ℕ) (a : Tale) (past : List Entry) (c : ℕ) (v : WriterView) (t : Task) → IsTold n a past → (h : Tracked n a past c v) → v.phase ≡ phase.Writing → may_follow t ≡ true
    → plain v ≡ plain h.writer → IsSilent ((a.story.takeover h.k).heard (a.top h.k)) → (r : Round) → IsWhole r → (writer_begun h.writer t).begun ≡ begun.Going
    → (writer_begun v t).writer.phase ≡ phase.InRound r → plain (writer_begun v t).writer ≡ plain (writer_begun h.writer t).writer
    → Gives n c a past past (λ b. Status n b past c (writer_begun v t).writer)
task_goes n a past c v t told h is may same silent r whole going in_round alike = (
  task_tale a h.k t,
  told_still n a (task_tale a h.k t) past on.tells told,
  on,
  tracked (record {
    k = h.k;
    known = h.known;
    by = ap (λ (x : Takeover). x.caller) takeover ∙ h.by;
    follow = ap (λ (x : Takeover). list_all may_follow x.tasks) takeover ∙ all_more (a.story.takeover h.k).tasks t h.follow may;
    writer = u;
    reaches = subst (λ (x : Takeover). Reaches n x ((task_tale a h.k t).top h.k) u) (sym takeover) (subst (λ (s : ℕ). Reaches n new s u) (sym top) reaches);
    stands = subst (λ (x : Takeover). Stands w u (x.heard ((task_tale a h.k t).top h.k))) (sym takeover) (subst (λ (s : ℕ). Stands w u (new.heard s)) (sym top) stands);
    above = λ x l i. ap (λ (y : Takeover). y.heard x i) takeover ∙ h.above x (omega (arith, l, top)) i;
    heard = λ x i reply e. heard_later c a (task_tale a h.k t) past past h.k x i reply on (h.heard x i reply (ap (λ (y : Takeover). y.heard x i) (sym takeover) ∙ e));
    placed = λ old e p whose turn. placed old e (h.placed old e p whose turn);
  }),
)
  where
    new : Takeover
    new = with_tasks (a.story.takeover h.k) (t ∷ [])

    w : WriterView
    w = (writer_begun v t).writer

    u : WriterView
    u = (writer_begun h.writer t).writer

    on : Continues c a past (task_tale a h.k t) past
    on = gone_continues c a past h.k (a.top h.k) (with_tasks (a.story.takeover h.k) (t ∷ [])) (grows_task (a.top h.k) (a.story.takeover h.k) t may) h.by (omega arith)

    takeover : (task_tale a h.k t).story.takeover h.k ≡ with_tasks (a.story.takeover h.k) (t ∷ [])
    takeover = put_here a.story.takeover h.k (with_tasks (a.story.takeover h.k) (t ∷ []))

    top : (task_tale a h.k t).top h.k ≡ a.top h.k
    top = put_here a.top h.k (a.top h.k)

    reaches : Reaches n (with_tasks (a.story.takeover h.k) (t ∷ [])) (a.top h.k) (writer_begun h.writer t).writer
    reaches = reaches_task n (a.story.takeover h.k) (a.top h.k) h.writer t (writer_begun h.writer t).writer h.reaches
        (λ more. task_is h.writer t r more (sym (alike_phase v h.writer same) ∙ is) going (sym (alike_phase (writer_begun v t).writer (writer_begun h.writer t).writer alike) ∙ in_round))

    stands : Stands (writer_begun v t).writer (writer_begun h.writer t).writer ((a.story.takeover h.k).heard (a.top h.k))
    stands = calling r whole in_round (unslotted_alike (writer_begun v t).writer (writer_begun h.writer t).writer alike)
        (fills_first 1 ((a.story.takeover h.k).heard (a.top h.k)) (writer_begun v t).writer.slots (writer_begun h.writer t).writer.slots silent (ap (λ (x : WriterView). x.slots) alike))

    placed : (old : List Entry) (e : Entry) → (a.story.round (length old) < a.top h.k) ⊎ ((a.story.round (length old) ≡ a.top h.k) × IsBefore v.phase v.slots e.node)
        → (a.story.round (length old) < (task_tale a h.k t).top h.k)
        ⊎ ((a.story.round (length old) ≡ (task_tale a h.k t).top h.k)
        × IsBefore (writer_begun v t).writer.phase (writer_begun v t).writer.slots e.node)
    placed old e (inl l) = inl (omega (arith, l, top))
    placed old e (inr l) = absurd (subst (λ (p : Phase). IsBefore p v.slots e.node) is l.1)

not_writing_in : (r : Round) → phase.InRound r ≡ phase.Writing → ⊥
not_writing_in r e = cc e

task_by : (n : ℕ) (a : Tale) (past : List Entry) (c : ℕ) (x : WriterView) (t : Task) → IsTold n a past → (h : Tracked n a past c x) → x.phase ≡ phase.Writing → IsUnder t → HasBody t
    → Stands x h.writer ((a.story.takeover h.k).heard (a.top h.k)) → Gives n c a past past (λ b. Status n b past c (its_begin t x))
task_by n a past c x t told h is under body (calling r i e same fills) = absurd (not_writing_in r (sym e ∙ is))
task_by n a past c x t told h is under body (fetching node start end bodies e same silent) = absurd (not_writing_in (round.Fetch node start end bodies) (sym e ∙ is))
task_by n a past c x t told h is under body (writing e same silent) = by (begun_alike x h.writer t under is same)
  where
    by : BeginsAlike x h.writer t → Gives n c a past past (λ b. Status n b past c (its_begin t x))
    by (goes r whole mine his in_round alike) =
        task_goes n a past c x t told h is (may_be t under body) same silent r whole his in_round alike
    by (stays off left other) =
        subst (λ (w : WriterView). Gives n c a past past (λ b. Status n b past c w)) (sym left)
        (a, told, continues_not c a past, tracked h)

writing_is : (p : Phase) → is_writing p ≡ true → p ≡ phase.Writing
writing_is phase.Writing e = refl
writing_is phase.Idle e = absurd (cc e)
writing_is phase.Stopped e = absurd (cc e)
writing_is (phase.InRound r) e = absurd (cc e)

under_status : (n : ℕ) (a : Tale) (past : List Entry) (c : ℕ) (x : WriterView) (t : Task) → IsTold n a past → IsUnder t → HasBody t → Status n a past c x
    → Gives n c a past past (λ b. Status n b past c (its_begin t x))
under_status n a past c x t told under body s = by (is_writing x.phase) refl
  where
    by : (b : Bool) → is_writing x.phase ≡ b → Gives n c a past past (λ y. Status n y past c (its_begin t x))
    by false e =
        let off : Stays x (writer_begun x t) = not_writing x t under e in
        subst (λ (w : WriterView). Gives n c a past past (λ y. Status n y past c w)) (sym off.1)
        (a, told, continues_not c a past, s)
    by true e = on s
      where
        is : x.phase ≡ phase.Writing
        is = writing_is x.phase e

        on : Status n a past c x → Gives n c a past past (λ y. Status n y past c (its_begin t x))
        on (free f) = absurd (cc (sym f ∙ ap is_free is))
        on (asking f g l) = absurd (not_writing_in round.State (sym f ∙ is))
        on (tracked h) = task_by n a past c x t told h is under body h.stands

pub task_status : (n : ℕ) (a : Tale) (past : List Entry) (c : ℕ) (x : WriterView) (t : Task) → IsTold n a past → Sized n x → HasBody t → Status n a past c x
    → Gives n c a past past (λ b. Status n b past c (its_begin t x))
task_status n a past c x task.Takeover told sized body s = (a, told, continues_not c a past, takes_over n a past c x sized.left)
task_status n a past c x (task.Log bodies) told sized body s = under_status n a past c x (task.Log bodies) told tt body s
task_status n a past c x task.Roll told sized body s = under_status n a past c x task.Roll told tt body s
task_status n a past c x task.Close told sized body s = under_status n a past c x task.Close told tt body s
task_status n a past c x (task.Purge min) told sized body s = under_status n a past c x (task.Purge min) told tt body s
