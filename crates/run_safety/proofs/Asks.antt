-- A writer that asks for the promises, and the takeover that it begins.
use Rattle.std.proofs.Common.{◌≡◌, ℕ, suc, ◌+◌, ◌≤◌, ◌&&◌, List, [], Bool, true, false, cond, length, refl, sym, ap, ◌∙◌, subst, arith, Option, Some, None, is_some, nat_lt, map, replicate}
use Rattle.std.specs.List.{list_all, list_any}
use Rattle.journal_core.specs.Limits.{max_number}
use Rattle.journal_core.specs.declared.request.Request.{Request}
use Rattle.journal_core.specs.declared.reply.Reply.{Reply}
use Rattle.journal_core.specs.declared.heard.Heard.{Heard as HeardOf}
use Rattle.writer_core.specs.declared.round.Round.{Round}
use Rattle.writer_core.specs.declared.round.Round.TheVariants as round
use Rattle.writer_core.specs.declared.phase.Phase.{Phase}
use Rattle.writer_core.specs.declared.phase.Phase.TheVariants as phase
use Rattle.writer_core.specs.declared.phase.Aim.{Aim}
use Rattle.writer_core.specs.declared.phase.Aim.TheVariants as aim
use Rattle.writer_core.specs.declared.slot.Slot.TheVariants.{Waiting}
use Rattle.writer_core.specs.declared.turn.Turn.TheVariants as turn
use Rattle.writer_core.specs.Views.{WriterView}
use Rattle.writer_core.specs.Answers.{is_waiting, has_majority}
use Rattle.writer_core.specs.Best.{greatest_promise}
use Rattle.writer_core.specs.Rounds.{request_in, numbers_fit, keep_going, stops_with, begin_propose, with_causes, judgment_by, judgment}
use Rattle.writer_core.specs.Writer.{with_answer, judgment_when, heard_at, writer_heard}
use Rattle.writer_core.specs.Whole.{Takeover, proposer, writer_at}
use Rattle.writer_core.proofs.Plain.{plain}
use Rattle.writer_core.proofs.Filling.{fills_first}
use Rattle.writer_core.proofs.WholeLaws.{Reaches}
use Rattle.writer_core.proofs.WholeRounds.{IsCalling, unslotted_alike}
use Rattle.journal_history.specs.Entries.{Entry}
use Rattle.run_safety.specs.Run.{may_follow}
use Rattle.journal_history.specs.Moving.{epoch_of}
use Rattle.run_safety.proofs.Tales.{Tale}
use Rattle.run_safety.proofs.Fair.{IsTold, told_still}
use Rattle.run_safety.proofs.TaleSteps.{put_here, Continues, continues_not, taken_over, taken_continues}
use Rattle.run_safety.proofs.Tracked.{calling, Status, free, asking, tracked, Quiet, aside, quiet_entry}
use Rattle.run_safety.proofs.CallLeft.{entry, HasEpoch, CallLeft, nothing, unheard, answered}
use Rattle.run_safety.proofs.RoundCalls.{Gives}

-- ## The takeover that it begins
abbrev begun_takeover : ℕ → ℕ → Takeover
begun_takeover c told = record { caller = c; epoch = told + 1; tasks = []; heard = λ s i. None }

first_round : (n c told : ℕ) → Reaches n (begun_takeover c told) 0 (proposer n (told + 1))
unfolding writer_at
first_round n c told more = refl

proposing_alike : (n told : ℕ) (w : WriterView) → w.aim ≡ aim.Takeover → w.left ≡ replicate n false → plain (begin_propose told w) ≡ plain (proposer n (told + 1))
proposing_alike n told w e f =
    ap (λ (x : Aim). plain (record (begin_propose told w) { aim = x })) e
    ∙ ap (λ (l : List Bool). plain (record (begin_propose told w) { aim = aim.Takeover; left = l; slots = map (λ x. Waiting) l })) f

abbrev new_tale : Tale → ℕ → ℕ → Tale
new_tale a c told = taken_over a (begun_takeover c told)

proposing_status : (n : ℕ) (a : Tale) (past : List Entry) (c told : ℕ) (w : WriterView) → IsTold n a past → w.aim ≡ aim.Takeover → w.left ≡ replicate n false
    → Gives n c a past past (λ b. Status n b past c (begin_propose told w))
proposing_status n a past c told w is e f = (
  new_tale a c told,
  told_still n a (new_tale a c told) past goes.tells is,
  goes,
  tracked (record {
    k = k;
    known = omega arith;
    by = ap (λ (t : Takeover). t.caller) same;
    follow = ap (λ (t : Takeover). list_all may_follow t.tasks) same;
    writer = proposer n (told + 1);
    reaches = subst (λ (t : Takeover). Reaches n t ((new_tale a c told).top k) (proposer n (told + 1))) (sym same)
        (subst (λ (s : ℕ). Reaches n (begun_takeover c told) s (proposer n (told + 1))) (sym top) (first_round n c told));
    stands = calling round.Propose tt refl (unslotted_alike (begin_propose told w) (proposer n (told + 1)) alike)
        (fills_first 1 (((new_tale a c told).story.takeover k).heard ((new_tale a c told).top k)) (begin_propose told w).slots (proposer n (told + 1)).slots
        (λ i. silent ((new_tale a c told).top k) i) (ap (λ (x : WriterView). x.slots) alike));
    above = λ x l i. silent x i;
    heard = λ x i reply g. absurd (no_answer (silent x i) g);
    placed = λ old x p whose_is turn. let known : a.story.whose (length old) ≤ a.count = (is.labels old x p).known in absurd (omega (arith, whose_is, known));
  }),
)
  where
    k : ℕ
    k = suc a.count

    goes : Continues c a past (new_tale a c told) past
    goes = taken_continues c a past (begun_takeover c told)

    same : (new_tale a c told).story.takeover (suc a.count) ≡ begun_takeover c told
    same = put_here a.story.takeover (suc a.count) (begun_takeover c told)

    top : (new_tale a c told).top (suc a.count) ≡ 0
    top = put_here a.top (suc a.count) 0

    alike : plain (begin_propose told w) ≡ plain (proposer n (told + 1))
    alike = proposing_alike n told w e f

    silent : (x i : ℕ) → ((new_tale a c told).story.takeover (suc a.count)).heard x i ≡ None
    silent x i = ap (λ (t : Takeover). t.heard x i) same

    no_answer : {o : Option Reply} {reply : Reply} → o ≡ None → o ≡ Some reply → ⊥
    no_answer x y = cc (x, y)

-- ## Its answers
after_by : (n : ℕ) (a : Tale) (past : List Entry) (c told : ℕ) (b : Bool) (w : WriterView) → IsTold n a past → w.aim ≡ aim.Takeover → w.left ≡ replicate n false
    → Gives n c a past past (λ t. Status n t past c (cond b (keep_going (begin_propose told w)) (stops_with (turn.EpochLimit told) w)).writer)
after_by n a past c told true w is e f = proposing_status n a past c told w is e f
after_by n a past c told false w is e f = (a, is, continues_not c a past, free refl)

state_by : (n : ℕ) (a : Tale) (past : List Entry) (c : ℕ) (b : Bool) (w : WriterView) → IsTold n a past → w.aim ≡ aim.Takeover → w.left ≡ replicate n false
    → Gives n c a past past (λ t. Status n t past c (judgment_by b round.State w).writer)
state_by n a past c true w is e f = after_by n a past c (greatest_promise w.slots) (nat_lt (greatest_promise w.slots) max_number) (with_causes round.State w) is e f
state_by n a past c false w is e f = (a, is, continues_not c a past, free refl)

state_judged : (n : ℕ) (a : Tale) (past : List Entry) (c : ℕ) (w : WriterView) → IsTold n a past → w.aim ≡ aim.Takeover → w.left ≡ replicate n false
    → Gives n c a past past (λ t. Status n t past c (judgment round.State w).writer)
unfolding judgment
state_judged n a past c w is e f = state_by n a past c (numbers_fit w round.State && has_majority round.State w.slots) w is e f

when_by : (n : ℕ) (a : Tale) (past : List Entry) (c : ℕ) (b : Bool) (w : WriterView) → IsTold n a past → w.phase ≡ phase.InRound round.State → w.aim ≡ aim.Takeover → w.left ≡ replicate n false
    → Gives n c a past past (λ t. Status n t past c (judgment_when b round.State w).writer)
when_by n a past c true w is p e f = (a, is, continues_not c a past, asking p e f)
when_by n a past c false w is p e f = state_judged n a past c w is e f

pub hears_asking : (n : ℕ) (a : Tale) (past : List Entry) (c : ℕ) (v : WriterView) (node : ℕ) (d : HeardOf) → IsTold n a past
    → v.phase ≡ phase.InRound round.State → v.aim ≡ aim.Takeover → v.left ≡ replicate n false
    → Gives n c a past past (λ t. Status n t past c (writer_heard v node d).writer)
unfolding writer_heard
hears_asking n a past c v node d is p e f =
    subst (λ (q : Phase). Gives n c a past past (λ t. Status n t past c (heard_at q v node d).writer)) (sym p)
    (when_by n a past c (list_any is_waiting (with_answer v node d).slots) (with_answer v node d) is p e f)

-- ## Its calls move no node
pub asks_no_epoch : (v : WriterView) (node : ℕ) (r : Request) → IsCalling v node r → v.phase ≡ phase.InRound round.State → HasEpoch r → ⊥
unfolding epoch_of
asks_no_epoch v node r call p some = off (sym (ap (λ (x : Request). is_some (epoch_of x)) asks) ∙ some)
  where
    one : phase.InRound call.round ≡ phase.InRound round.State → call.round ≡ round.State
    one x = cc

    asks : r ≡ request_in v round.State
    asks = call.request ∙ ap (λ (q : Round). request_in v q) (one (sym call.phase ∙ p))

    off : is_some (epoch_of (request_in v round.State)) ≡ true → ⊥
    off x = cc x

pub asked : (n : ℕ) (a : Tale) (past next : List Entry) (c node : ℕ) (r : Request) (d : HeardOf) → (HasEpoch r → ⊥) → IsTold n a past
    → CallLeft n past c node r d next → Gives n c a past next (λ b. Unit {0})
unfolding Quiet
asked n a past next c node r d off told (nothing same quiet) = subst (λ (l : List Entry). Gives n c a past l (λ b. Unit {0})) (sym same) (a, told, continues_not c a past, tt)
asked n a past next c node r d off told (unheard move same quiet turn enters) =
    let q : Quiet n c a past (entry node move) =
    quiet_entry n c a past (entry node move) 0 0 (omega arith) (omega arith) (λ x. off (turn x)) told
    (enters (aside a past 0 0) 0 0 (put_here a.story.whose (length past) 0) (put_here a.story.round (length past) 0) (λ some. absurd (off some)) (λ x. absurd (off (turn x)))) in
    subst (λ (l : List Entry). Gives n c a past l (λ b. Unit {0})) (sym same) (q.0, q.1, q.2, tt)
asked n a past next c node r d off told (answered reply same is some enters) = absurd (off some)
