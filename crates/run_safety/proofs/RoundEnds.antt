-- An answer that a writer under an epoch hears, and the round that ends with it.
use Rattle.std.proofs.Common.{◌≡◌, ◌≢◌, ℕ, suc, ◌+◌, ◌-◌, ◌<◌, ◌≤◌, ◌⊎◌, inl, inr, List, Bool, true, false, length, refl, sym, ap, ◌∙◌, subst, arith, Option, Some, slice_get, map}
use Rattle.std.specs.Prelude.{slice_set}
use Rattle.std.specs.List.{list_all, list_any}
use Rattle.journal_core.specs.declared.request.Request.{Request}
use Rattle.journal_core.specs.declared.reply.Reply.{Reply}
use Rattle.journal_core.specs.declared.heard.Heard.{Heard as HeardOf}
use Rattle.writer_core.specs.declared.round.Round.{Round}
use Rattle.writer_core.specs.declared.round.Round.TheVariants as round
use Rattle.writer_core.specs.declared.phase.Phase.{Phase}
use Rattle.writer_core.specs.declared.phase.Phase.TheVariants as phase
use Rattle.writer_core.specs.declared.slot.Slot.{Slot}
use Rattle.writer_core.specs.declared.slot.Slot.TheVariants.{Waiting, Told}
use Rattle.writer_core.specs.declared.task.Task.{Task}
use Rattle.writer_core.specs.Views.{WriterView}
use Rattle.writer_core.specs.Answers.{is_waiting}
use Rattle.writer_core.specs.Rounds.{Judgment, judgment, after_fetch}
use Rattle.writer_core.specs.Writer.{node_in, with_answer, judgment_when, heard_in, heard_at, writer_heard}
use Rattle.writer_core.specs.Whole.{Takeover, heard_of, fill_slots, round_heard, round_after, next_round, calls_in}
use Rattle.writer_core.proofs.Plain.{plain_heard, plain_slot, plain}
use Rattle.writer_core.proofs.PlainRounds.{IsWhole, IsUnderEpoch, IsAlike, alike_phase, judged_alike, fetched_alike}
use Rattle.writer_core.proofs.Filling.{Fills, fills_first, fills_more, fills_whole}
use Rattle.writer_core.proofs.WholeLaws.{Reaches, reaches_next}
use Rattle.writer_core.proofs.WholeRounds.{unslotted, IsFirst, whole_first, whole_judged, whole_heard, calls_waits, waits_calls, set_waits, IsCalling, unslotted_alike}
use Rattle.journal_history.specs.Entries.{Entry}
use Rattle.run_safety.specs.Run.{WasHeard, may_follow}
use Rattle.run_safety.proofs.Tales.{Tale}
use Rattle.run_safety.proofs.Fair.{IsTold, told_still}
use Rattle.run_safety.proofs.TaleSteps.{put_here, Continues, grows_not, gone_on, gone_continues, continues_not, heard_later}
use Rattle.run_safety.proofs.Tracked.{IsSilent, Stands, calling, fetching, writing, IsBefore, Tracked, is_free, Status, free, tracked}
use Rattle.run_safety.proofs.RoundCalls.{Gives, Called, from_is}

-- ## A round that ended, before the next one begins
pub record Ended (n : ℕ) (a : Tale) (past : List Entry) (c : ℕ) (v : WriterView) : Type 0 where
  pub k : ℕ
  pub known : k ≤ a.count
  pub by : (a.story.takeover k).caller ≡ c
  pub follow : list_all may_follow (a.story.takeover k).tasks ≡ true
  pub writer : WriterView
  pub round : Round
  pub phase : writer.phase ≡ phase.InRound round
  pub reaches : Reaches n (a.story.takeover k) (a.top k) writer
  pub alike : IsAlike v (round_heard round ((a.story.takeover k).heard (a.top k)) writer).writer
  pub above : (x : ℕ) → a.top k < x → IsSilent ((a.story.takeover k).heard x)
  pub heard : (x i : ℕ) (reply : Reply) → (a.story.takeover k).heard x i ≡ Some reply → WasHeard a.story past k x i reply

-- a writer that begins a round, or waits for a task, or is done with its epoch
data Begins (v u : WriterView) (heard : ℕ → Option Reply) : Type 0 where
  done : is_free v.phase ≡ true → Begins v u heard
  stands : Stands v u heard → Begins v u heard

whole_begins : (r : Round) (v u : WriterView) (heard : ℕ → Option Reply) → IsWhole r → v.phase ≡ phase.InRound r → plain v ≡ plain u → IsSilent heard → Begins v u heard
whole_begins r v u heard i e same silent = stands (calling r i e (unslotted_alike v u same) (fills_first 1 heard v.slots u.slots silent (ap (λ (w : WriterView). w.slots) same)))

begins : (v u : WriterView) (heard : ℕ → Option Reply) (p : Phase) → v.phase ≡ p → IsUnderEpoch p → plain v ≡ plain u → IsSilent heard → Begins v u heard
begins v u heard phase.Idle e i same silent = done (ap is_free e)
begins v u heard phase.Stopped e i same silent = done (ap is_free e)
begins v u heard phase.Writing e i same silent = stands (writing e same silent)
begins v u heard (phase.InRound round.State) e i same silent = absurd i
begins v u heard (phase.InRound (round.Fetch node start end bodies)) e i same silent = stands (fetching node start end bodies e same silent)
begins v u heard (phase.InRound round.Propose) e i same silent = whole_begins round.Propose v u heard tt e same silent
begins v u heard (phase.InRound (round.Prepare start)) e i same silent = whole_begins (round.Prepare start) v u heard tt e same silent
begins v u heard (phase.InRound (round.Accept batch)) e i same silent = whole_begins (round.Accept batch) v u heard tt e same silent
begins v u heard (phase.InRound (round.Finalize start end)) e i same silent = whole_begins (round.Finalize start end) v u heard tt e same silent
begins v u heard (phase.InRound round.Start) e i same silent = whole_begins round.Start v u heard tt e same silent
begins v u heard (phase.InRound round.Open) e i same silent = whole_begins round.Open v u heard tt e same silent
begins v u heard (phase.InRound (round.Write bodies)) e i same silent = whole_begins (round.Write bodies) v u heard tt e same silent
begins v u heard (phase.InRound (round.Purge min)) e i same silent = whole_begins (round.Purge min) v u heard tt e same silent

-- the next round, by the table
next_is : (r : Round) (heard : ℕ → Option Reply) (u : WriterView) (more : List Task) → u.phase ≡ phase.InRound r
    → next_round heard (round_after u.phase u more) ≡ round_after (round_heard r heard u).writer.phase (round_heard r heard u).writer more
next_is r heard u more e = ap (λ (p : Phase). next_round heard (round_after p u more)) e

-- the tale with the takeover a round further
abbrev its_next : Tale → ℕ → Tale
its_next a k = gone_on a k (suc (a.top k)) (a.story.takeover k)

pub ended_status : (n : ℕ) (a : Tale) (past : List Entry) (c : ℕ) (v : WriterView) → IsTold n a past → Ended n a past c v → Gives n c a past past (λ b. Status n b past c v)
ended_status n a past c v told h = (its_next a h.k, told_still n a (its_next a h.k) past goes.tells told, goes, by (begins v u silent_heard v.phase refl h.alike.1 h.alike.0 quiet))
  where
    silent_heard : ℕ → Option Reply
    silent_heard = (a.story.takeover h.k).heard (suc (a.top h.k))

    quiet : IsSilent ((a.story.takeover h.k).heard (suc (a.top h.k)))
    quiet = h.above (suc (a.top h.k)) (omega arith)

    u : WriterView
    u = (round_heard h.round ((a.story.takeover h.k).heard (a.top h.k)) h.writer).writer

    goes : Continues c a past (its_next a h.k) past
    goes = gone_continues c a past h.k (suc (a.top h.k)) (a.story.takeover h.k) (grows_not (a.top h.k) (a.story.takeover h.k)) h.by (omega arith)

    same : (its_next a h.k).story.takeover h.k ≡ a.story.takeover h.k
    same = put_here a.story.takeover h.k (a.story.takeover h.k)

    top : (its_next a h.k).top h.k ≡ suc (a.top h.k)
    top = put_here a.top h.k (suc (a.top h.k))

    reaches : Reaches n (a.story.takeover h.k) (suc (a.top h.k)) u
    reaches = reaches_next n (a.story.takeover h.k) (a.top h.k) h.writer u h.reaches (λ more. next_is h.round ((a.story.takeover h.k).heard (a.top h.k)) h.writer more h.phase)

    by : Begins v u silent_heard → Status n (its_next a h.k) past c v
    by (done e) = free e
    by (stands s) = tracked (record {
      k = h.k;
      known = h.known;
      by = ap (λ (t : Takeover). t.caller) same ∙ h.by;
      follow = ap (λ (t : Takeover). list_all may_follow t.tasks) same ∙ h.follow;
      writer = u;
      reaches = subst (λ (t : Takeover). Reaches n t ((its_next a h.k).top h.k) u) (sym same) (subst (λ (x : ℕ). Reaches n (a.story.takeover h.k) x u) (sym top) reaches);
      stands = subst (λ (t : Takeover). Stands v u (t.heard ((its_next a h.k).top h.k))) (sym same) (subst (λ (x : ℕ). Stands v u ((a.story.takeover h.k).heard x)) (sym top) s);
      above = λ x l i. ap (λ (t : Takeover). t.heard x i) same ∙ h.above x (omega (arith, l, top)) i;
      heard = λ x i reply e. heard_later c a (its_next a h.k) past past h.k x i reply goes (h.heard x i reply (ap (λ (t : Takeover). t.heard x i) (sym same) ∙ e));
      placed = λ old e p is turn.
          let within : a.story.round (length old) ≤ a.top (a.story.whose (length old)) = (told.labels old e p).within in
          let low : a.story.round (length old) ≤ a.top h.k = subst (λ (j : ℕ). a.story.round (length old) ≤ a.top j) is within in
          inl (omega (arith, low, top));
    })

-- ## An answer in a round that is heard slot by slot
with_tracked : (n : ℕ) (a : Tale) (past : List Entry) (c : ℕ) (v : WriterView) (node : ℕ) (d : HeardOf) (h : Called n a past c v node d) (q : Round) → IsWhole q → v.phase ≡ phase.InRound q
    → plain (unslotted v) ≡ plain (unslotted h.writer) → Fills 1 h.heard_by v.slots h.writer.slots → IsFirst v.slots node → Tracked n a past c (with_answer v node d)
with_tracked n a past c v node d h q whole is same fills f = record {
  k = h.k;
  known = h.known;
  by = h.by;
  follow = h.follow;
  writer = h.writer;
  reaches = h.reaches;
  stands = calling q whole is same (subst (λ (j : ℕ). Fills 1 heard (slice_set v.slots j (Told d)) h.writer.slots) at
      (fills_more 1 f.place h.heard_by heard d v.slots h.writer.slots f.waits (ap (λ (j : ℕ). plain_heard (heard_of (heard j))) here ∙ h.answer) (λ j off. h.rest j (λ e. off (e ∙ sym here))) fills));
  above = h.above;
  heard = h.heard;
  placed = λ old e p whose_is turn. placed e (h.placed old e p whose_is turn);
}
  where
    heard : ℕ → Option Reply
    heard = (a.story.takeover h.k).heard (a.top h.k)

    at : f.place ≡ node - 1
    at = omega (arith, f.is)

    here : 1 + f.place ≡ node
    here = omega (arith, f.is)

    lower : (j : ℕ) → IsBefore v.phase v.slots j ⊎ (j ≡ node) → (i : ℕ) → calls_in q (slice_set v.slots (node - 1) (Told d)) i ≡ true → j < i
    lower j before i e =
        let w : (0 < i) × (slice_get (slice_set v.slots (node - 1) (Told d)) (i - 1) ≡ Some Waiting) = calls_waits q (slice_set v.slots (node - 1) (Told d)) i whole e in
        let o : (i - 1 ≢ node - 1) × (slice_get v.slots (i - 1) ≡ Some Waiting) = set_waits v.slots (node - 1) (i - 1) d w.1 in
        let back : i - 1 + 1 ≡ i = omega (arith, w.0) in
        by before (ap (λ (x : ℕ). calls_in q v.slots x) (sym back) ∙ waits_calls q v.slots (i - 1) whole o.1) w.0 o.0 (f.first (i - 1) o.1)
      where
        by : IsBefore v.phase v.slots j ⊎ (j ≡ node) → calls_in q v.slots i ≡ true → 0 < i → i - 1 ≢ node - 1 → f.place ≤ i - 1 → j < i
        by (inl b) calls_it some off first = subst (λ (p : Phase). IsBefore p v.slots j) is b i calls_it
        by (inr b) calls_it some off first = let ne : i - 1 ≢ f.place = λ (x : i - 1 ≡ f.place). off (x ∙ at) in omega (arith, b, some, ne, first, f.is)

    placed : (e : Entry) {x y : ℕ} → (x < y) ⊎ ((x ≡ y) × (IsBefore v.phase v.slots e.node ⊎ (e.node ≡ node))) → (x < y) ⊎ ((x ≡ y) × IsBefore v.phase (slice_set v.slots (node - 1) (Told d)) e.node)
    placed e (inl l) = inl l
    placed e (inr l) = inr (l.0, subst (λ (p : Phase). IsBefore p (slice_set v.slots (node - 1) (Told d)) e.node) (sym is) (λ i g. lower e.node l.1 i g))

whole_alike : (q : Round) (v u : WriterView) (heard : ℕ → Option Reply) → IsWhole q → v.phase ≡ phase.InRound q → plain (unslotted v) ≡ plain (unslotted u) → Fills 1 heard v.slots u.slots
    → list_any is_waiting v.slots ≡ false → IsAlike (judgment q v).writer (round_heard q heard u).writer
whole_alike q v u heard whole is same fills none =
    let slots : map plain_slot v.slots ≡ map plain_slot (fill_slots 1 heard u.slots) = fills_whole 1 heard v.slots u.slots none fills in
    let alike : plain v ≡ plain (record u { slots = fill_slots 1 heard u.slots }) =
    ap (λ (l : List Slot). record (plain (unslotted v)) { slots = l }) slots ∙ ap (λ (w : WriterView). record w { slots = map plain_slot (fill_slots 1 heard u.slots) }) same in
    subst (λ (j : Judgment). IsAlike (judgment q v).writer j.writer) (sym (whole_judged q heard u whole)) (judged_alike q v (record u { slots = fill_slots 1 heard u.slots }) whole is alike)

whole_ends : (n : ℕ) (a : Tale) (past : List Entry) (c : ℕ) (v : WriterView) (h : Tracked n a past c v) (q : Round) → IsWhole q → v.phase ≡ phase.InRound q
    → list_any is_waiting v.slots ≡ false → Stands v h.writer ((a.story.takeover h.k).heard (a.top h.k)) → Ended n a past c (judgment q v).writer
whole_ends n a past c v h q whole is none (calling r i e same fills) = record {
  k = h.k;
  known = h.known;
  by = h.by;
  follow = h.follow;
  writer = h.writer;
  round = q;
  phase = sym (ap (λ (w : WriterView). w.phase) same) ∙ is;
  reaches = h.reaches;
  alike = whole_alike q v h.writer ((a.story.takeover h.k).heard (a.top h.k)) whole is same fills none;
  above = h.above;
  heard = h.heard;
}
whole_ends n a past c v h q whole is none (fetching node start end bodies e same silent) = absurd (subst IsWhole (one (sym is ∙ e)) whole)
  where
    one : phase.InRound q ≡ phase.InRound (round.Fetch node start end bodies) → q ≡ round.Fetch node start end bodies
    one x = cc
whole_ends n a past c v h q whole is none (writing e same silent) = absurd (off (sym is ∙ e))
  where
    off : phase.InRound q ≡ phase.Writing → ⊥
    off x = cc x

hears_whole : (n : ℕ) (a : Tale) (past : List Entry) (c : ℕ) (v : WriterView) (node : ℕ) (d : HeardOf) → IsTold n a past → (q : Round) → IsWhole q → v.phase ≡ phase.InRound q
    → Tracked n a past c (with_answer v node d) → Gives n c a past past (λ b. Status n b past c (heard_in q v node d).writer)
hears_whole n a past c v node d told q whole is h =
    subst (λ (j : Judgment). Gives n c a past past (λ b. Status n b past c j.writer)) (sym (whole_heard q v node d whole)) (by (list_any is_waiting (with_answer v node d).slots) refl)
  where
    by : (b : Bool) → list_any is_waiting (with_answer v node d).slots ≡ b → Gives n c a past past (λ t. Status n t past c (judgment_when b q (with_answer v node d)).writer)
    by true e = (a, told, continues_not c a past, tracked h)
    by false e = ended_status n a past c (judgment q (with_answer v node d)).writer told (whole_ends n a past c (with_answer v node d) h q whole is e h.stands)

-- ## An answer in a round that asks one node
fetch_ends : (n : ℕ) (a : Tale) (past : List Entry) (c : ℕ) (v : WriterView) (node : ℕ) (d : HeardOf) (h : Called n a past c v node d) (start end : ℕ) (bodies : List (List ℕ))
    → v.phase ≡ phase.InRound (round.Fetch node start end bodies) → plain v ≡ plain h.writer → Ended n a past c (after_fetch node start end bodies d v).writer
fetch_ends n a past c v node d h start end bodies is same = record {
  k = h.k;
  known = h.known;
  by = h.by;
  follow = h.follow;
  writer = h.writer;
  round = round.Fetch node start end bodies;
  phase = sym (alike_phase v h.writer same) ∙ is;
  reaches = h.reaches;
  alike = fetched_alike node start end bodies d (heard_of ((a.story.takeover h.k).heard (a.top h.k) node)) v h.writer is same (sym h.answer);
  above = h.above;
  heard = h.heard;
}

-- ## An answer is heard
pub hears_called : (n : ℕ) (a : Tale) (past : List Entry) (c : ℕ) (v : WriterView) (node : ℕ) (d : HeardOf) (r : Request) → IsTold n a past → IsCalling v node r
    → (h : Called n a past c v node d) → Gives n c a past past (λ b. Status n b past c (writer_heard v node d).writer)
unfolding writer_heard
hears_called n a past c v node d r told call h = by h.stands
  where
    round_same : (q : Round) → v.phase ≡ phase.InRound q → call.round ≡ q
    round_same q is = one (sym call.phase ∙ is)
      where
        one : phase.InRound call.round ≡ phase.InRound q → call.round ≡ q
        one x = cc

    in_round : (q : Round) → v.phase ≡ phase.InRound q → Gives n c a past past (λ b. Status n b past c (heard_in q v node d).writer)
        → Gives n c a past past (λ b. Status n b past c (heard_at v.phase v node d).writer)
    in_round q is g = subst (λ (p : Phase). Gives n c a past past (λ b. Status n b past c (heard_at p v node d).writer)) (sym is) g

    by : Stands v h.writer h.heard_by → Gives n c a past past (λ b. Status n b past c (heard_at v.phase v node d).writer)
    by (calling q whole is same fills) =
        let f : IsFirst v.slots node = whole_first q v.slots node whole (sym (ap (λ (p : Round). node_in p v.slots) (round_same q is)) ∙ call.node_is) in
        in_round q is (hears_whole n a past c v node d told q whole is (with_tracked n a past c v node d h q whole is same fills f))
    by (fetching from start end bodies is same silent) =
        let here : from ≡ node = from_is call.round node from start end bodies v.slots (round_same (round.Fetch from start end bodies) is) call.node_is in
        let at : v.phase ≡ phase.InRound (round.Fetch node start end bodies) = is ∙ ap (λ (j : ℕ). phase.InRound (round.Fetch j start end bodies)) here in
        in_round (round.Fetch node start end bodies) at (ended_status n a past c (after_fetch node start end bodies d v).writer told (fetch_ends n a past c v node d h start end bodies at same))
    by (writing is same silent) = absurd (off (sym call.phase ∙ is))
      where
        off : phase.InRound call.round ≡ phase.Writing → ⊥
        off x = cc x
