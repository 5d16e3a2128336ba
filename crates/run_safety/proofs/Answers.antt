-- What a round that was done leaves: the answers that were heard, the best of them, and the next
-- task.
use Rattle.std.proofs.Common.{◌≡◌, ℕ, suc, ◌+◌, ◌<◌, ◌≤◌, ◌⊎◌, ◌&&◌, Bool, true, false, List, [], ◌∷◌, length, Option, Some, None, refl, inl, inr, arith, subst, sym, ap, ◌∙◌}
use Rattle.std.specs.List.{list_all}
use Rattle.std.proofs.lemmas.Bool.{cases_Bool, and_parts, eqb-true, leb-true, ltb-true}
use Rattle.std.proofs.lemmas.List.{length-map}
use Rattle.journal_core.specs.Segments.{any_body}
use Rattle.journal_core.specs.declared.segment_info.SegmentInfo.{SegmentInfo}
use Rattle.journal_core.specs.declared.reply.Reply.{Reply}
use Rattle.journal_core.specs.declared.reply.Reply.TheVariants.{Ok, State as StateTold, NewEpoch as EpochTaken, Prepared, Edits, Segments, Refused}
use Rattle.journal_core.specs.declared.heard.Heard.TheVariants.{Answer, Silent}
use Rattle.journal_core.proofs.Stored.{some_body}
use Rattle.writer_core.specs.declared.round.Round.{Round as TableRound}
use Rattle.writer_core.specs.declared.round.Round.TheVariants as table
use Rattle.writer_core.specs.declared.phase.Phase.TheVariants as phase
use Rattle.writer_core.specs.declared.slot.Slot.{Slot}
use Rattle.writer_core.specs.declared.slot.Slot.TheVariants.{Waiting, LeftOut, Told}
use Rattle.writer_core.specs.declared.task.Task.{Task}
use Rattle.writer_core.specs.declared.task.Task.TheVariants as task
use Rattle.writer_core.specs.Views.{WriterView}
use Rattle.writer_core.specs.Answers.{fits_prepare, fits_propose, fits_round, has_majority}
use Rattle.writer_core.specs.Best.{Best, best_of, segment_in, segment_told, greatest_newest, newest_in, newest_told}
use Rattle.writer_core.specs.Rounds.{end_record, to_all, Judgment, numbers_fit, next_serial, with_causes, judgment_by, judgment, after_round, keep_going, begin_recovery}
use Rattle.writer_core.specs.Writer.{log_limit, log_begins, writer_begun}
use Rattle.writer_core.specs.Whole.{Takeover, TaskProgress, fill_slots, progress_from, has_begun, next_begun, next_task, round_after}
use Rattle.run_safety.specs.Run.{may_follow}
use Rattle.run_safety.proofs.Slots.{none≢some, some_same, true≢false, At, At-range, IsFresh, AllWait, all_fresh, to_all_wait, to_others_fresh}
use Rattle.run_safety.proofs.Slots.{filled_length, filled_heard, filled_all, ok_from, in_ok, ok_majority, ok_slot, TellsSegment, best_told}
use Rattle.run_safety.proofs.Slots.{told_newest, TellsNewest, newest_told_by, newest_told_least}
use Rattle.run_safety.proofs.SeenLaws.{Writer, seen_round, seen_next, seen, is_ok_kind}
use Rattle.run_safety.proofs.Frames.{Done, Newest, Counted, Framed, low_of, end_below, IsWriting, IsGet, IsAsking, committed_after, opens_found_none, gets, goes_on, Stands, Next}

-- ## A round that was judged
abbrev pub After : Judgment → List Task → TaskProgress → Type 0
After j tasks next = round_after j.writer.phase j.writer tasks ≡ Some next

pub judged_by_passed : (b : Bool) (r : TableRound) (w : WriterView) (tasks : List Task) (next : TaskProgress) → After (judgment_by b r w) tasks next
    → (b ≡ true) × After (after_round r (with_causes r w)) tasks next
judged_by_passed true r w tasks next e = (refl, e)
judged_by_passed false r w tasks next e = none≢some next e

pub judged_passed : (r : TableRound) (w : WriterView) (tasks : List Task) (next : TaskProgress) → After (judgment r w) tasks next
    → (has_majority r w.slots ≡ true) × After (after_round r (with_causes r w)) tasks next
unfolding judgment
judged_passed r w tasks next e =
    let p = judged_by_passed (numbers_fit w r && has_majority r w.slots) r w tasks next e in
    ((and_parts (numbers_fit w r) (has_majority r w.slots) p.0).1, p.1)

-- a round in which each was called, heard whole
pub heard_done : (n : ℕ) (r : TableRound) (w : WriterView) (heard : ℕ → Option Reply) (x : Writer) → IsFresh w.slots → length w.slots ≡ n
    → has_majority r (fill_slots 1 heard w.slots) ≡ true → ((reply : Reply) → fits_round r reply ≡ true → is_ok_kind x.round reply ≡ true)
    → Done n x heard
heard_done n r w heard x fresh len enough kind = record {
  nodes = ok_from r 1 (fill_slots 1 heard w.slots);
  majority = ok_majority n r (fill_slots 1 heard w.slots) whole enough;
  each = λ i m. (let y = in_ok r 1 (fill_slots 1 heard w.slots) i m in
      let ok = ok_slot r y.0 y.2 in
      let range = At-range 1 (fill_slots 1 heard w.slots) i y.0 y.1 in (
        ok.0,
        record {
          from_one = range.0;
          up_to_n = omega (arith, range.1, whole);
          was_heard = filled_heard 1 heard w.slots fresh i ok.0 (subst (λ z. At 1 (fill_slots 1 heard w.slots) i z) ok.1 y.1);
          kind = kind ok.0 ok.2;
        },
      ));
}
  where
    whole : length (fill_slots 1 heard w.slots) ≡ n
    whole = filled_length 1 heard w.slots ∙ len

-- ## A proposal
newest_slot : (slot : Slot) (m : ℕ) → newest_in slot ≡ Some m → (reply : Reply) × (slot ≡ Told (Answer reply)) × (fits_propose reply ≡ true) × (told_newest reply ≡ Some m)
newest_slot Waiting m e = none≢some m e
newest_slot LeftOut m e = none≢some m e
newest_slot (Told Silent) m e = none≢some m e
newest_slot (Told (Answer (EpochTaken newest))) m e = elim (cases_Bool (fits_propose (EpochTaken newest))) [
  | inl t ↦ (EpochTaken newest, refl, t, subst (λ b. newest_told b (EpochTaken newest) ≡ Some m) t e)
  | inr f ↦ none≢some m (subst (λ b. newest_told b (EpochTaken newest) ≡ Some m) f e)
]
newest_slot (Told (Answer Ok)) m e = none≢some m e
newest_slot (Told (Answer (StateTold p))) m e = none≢some m e
newest_slot (Told (Answer (Prepared a b c))) m e = none≢some m e
newest_slot (Told (Answer (Edits b))) m e = none≢some m e
newest_slot (Told (Answer (Segments l))) m e = none≢some m e
newest_slot (Told (Answer (Refused x))) m e = none≢some m e

newest_in_slot : (reply : Reply) (k : ℕ) → fits_propose reply ≡ true → told_newest reply ≡ Some k → newest_in (Told (Answer reply)) ≡ Some k
newest_in_slot (EpochTaken newest) k f e = subst (λ b. newest_told b (EpochTaken newest) ≡ Some k) (sym f) e
newest_in_slot Ok k f e = none≢some k e
newest_in_slot (StateTold p) k f e = none≢some k e
newest_in_slot (Prepared a b c) k f e = none≢some k e
newest_in_slot (Edits b) k f e = none≢some k e
newest_in_slot (Segments l) k f e = none≢some k e
newest_in_slot (Refused x) k f e = none≢some k e

pub newest_heard : (n : ℕ) (heard : ℕ → Option Reply) (slots : List Slot) → AllWait slots → length slots ≡ n → Newest n heard (greatest_newest (fill_slots 1 heard slots))
newest_heard n heard slots wait len = record {
  by = λ m e. (let t : TellsNewest 1 (fill_slots 1 heard slots) m = newest_told_by 1 (fill_slots 1 heard slots) m e in
      let r = newest_slot t.slot m t.tells in
      let range = At-range 1 (fill_slots 1 heard slots) t.node t.slot t.at in
      let whole : length (fill_slots 1 heard slots) ≡ length slots = filled_length 1 heard slots in
      (t.node, r.0, range.0, omega (arith, range.1, len), filled_heard 1 heard slots (all_fresh slots wait) t.node r.0 (subst (λ z. At 1 (fill_slots 1 heard slots) t.node z) r.1 t.at), r.2, r.3));
  least = λ i k reply one up h f e. newest_told_least 1 (fill_slots 1 heard slots) i k (Told (Answer reply))
      (filled_all 1 heard slots wait i reply one (omega (arith, up, len)) h) (newest_in_slot reply k f e);
}

-- a told start is at least 1
pub newest_one : (reply : Reply) (m : ℕ) → fits_propose reply ≡ true → told_newest reply ≡ Some m → 1 ≤ m
newest_one (EpochTaken None) m f e = none≢some m e
newest_one (EpochTaken (Some k)) m f e = let is : k ≡ m = some_same e in let lt : 0 < k = ltb-true 0 k (and_parts _ _ f).0 in omega arith
newest_one Ok m f e = none≢some m e
newest_one (StateTold p) m f e = none≢some m e
newest_one (Prepared a b c) m f e = none≢some m e
newest_one (Edits b) m f e = none≢some m e
newest_one (Segments l) m f e = none≢some m e
newest_one (Refused x) m f e = none≢some m e

-- ## The answers to a prepare
pub segment_slot : (m : ℕ) (slot : Slot) (g : SegmentInfo) → segment_in m slot ≡ Some g
    → (writer committed : ℕ) × (slot ≡ Told (Answer (Prepared writer committed (Some g))))
    × (fits_prepare m (Prepared writer committed (Some g)) ≡ true)
segment_slot m Waiting g e = none≢some g e
segment_slot m LeftOut g e = none≢some g e
segment_slot m (Told Silent) g e = none≢some g e
segment_slot m (Told (Answer (Prepared a b c))) g e = elim (cases_Bool (fits_prepare m (Prepared a b c))) [
  | inl t ↦ (let is : c ≡ Some g = subst (λ z. segment_told z (Prepared a b c) ≡ Some g) t e in
      (a, b, ap (λ z. Told (Answer (Prepared a b z))) is, subst (λ z. fits_prepare m (Prepared a b z) ≡ true) is t))
  | inr f ↦ none≢some g (subst (λ z. segment_told z (Prepared a b c) ≡ Some g) f e)
]
segment_slot m (Told (Answer Ok)) g e = none≢some g e
segment_slot m (Told (Answer (StateTold p))) g e = none≢some g e
segment_slot m (Told (Answer (EpochTaken p))) g e = none≢some g e
segment_slot m (Told (Answer (Edits b))) g e = none≢some g e
segment_slot m (Told (Answer (Segments l))) g e = none≢some g e
segment_slot m (Told (Answer (Refused x))) g e = none≢some g e

pub fits_info : (m writer committed : ℕ) (g : SegmentInfo) → fits_prepare m (Prepared writer committed (Some g)) ≡ true → (g.start ≡ m) × (m ≤ g.end)
fits_info m writer committed g k =
    let p = and_parts _ _ k in let q = and_parts _ _ p.1 in let u = and_parts _ _ q.1 in let v = and_parts _ _ u.1 in
    (eqb-true g.start m u.0, leb-true m g.end v.0)

-- the best answer that counts, and the node that gave it
pub record BestTold (n : ℕ) (t : Takeover) (m : ℕ) (slots : List Slot) (b : Best) : Type 0 where
  pub from_one : 1 ≤ b.node
  pub up_to_n : b.node ≤ n
  pub writer : ℕ
  pub committed : ℕ
  pub at : At 1 slots b.node (Told (Answer (Prepared writer committed (Some b.info))))
  pub was_heard : t.heard 1 b.node ≡ Some (Prepared writer committed (Some b.info))
  pub kind : fits_prepare m (Prepared writer committed (Some b.info)) ≡ true
  pub start : b.info.start ≡ m
  pub edit : m ≤ b.info.end

pub best_heard : (n : ℕ) (t : Takeover) (m : ℕ) (slots : List Slot) (b : Best) → Counted n t m slots → best_of m slots ≡ Some b → BestTold n t m slots b
best_heard n t m slots b c is =
    let tells : TellsSegment m 1 slots b = best_told m 1 slots b is in
    let reply = segment_slot m tells.slot b.info tells.tells in
    let range = At-range 1 slots b.node tells.slot tells.at in
    let info = fits_info m reply.0 reply.1 b.info reply.3 in
    record {
      from_one = range.0;
      up_to_n = omega (arith, range.1, c.all);
      writer = reply.0;
      committed = reply.1;
      at = subst (λ z. At 1 slots b.node z) reply.2 tells.at;
      was_heard = c.heard b.node (Prepared reply.0 reply.1 (Some b.info)) (subst (λ z. At 1 slots b.node z) reply.2 tells.at) reply.3;
      kind = reply.3;
      start = info.0;
      edit = info.1;
    }

abbrev pub under : WriterView → TableRound → List Task → TaskProgress
under w r tasks = record { writer = w; round = r; tasks = tasks }

-- what is known of the round before, where the best answer is taken
pub record Asked (n : ℕ) (t : Takeover) (s m : ℕ) (u : TaskProgress) (w : WriterView) : Type 0 where
  pub asking : IsAsking m (seen u).round
  pub from_one : 1 ≤ m
  pub committed : w.committed ≡ 0
  pub epoch : w.epoch ≡ t.epoch
  pub serial : w.serial ≡ s
  pub left : length w.left ≡ n
  pub tasks : list_all may_follow u.tasks ≡ true
  pub counted : Counted n t m w.slots
  pub done : (IsGet (seen u).round → ⊥) → Done n (seen u) (t.heard s)
  pub low : end_below (seen u) (seen u).round ≡ 0

pub recovering_next : (n : ℕ) (t : Takeover) (s m : ℕ) (u : TaskProgress) (w : WriterView) (next : TaskProgress) → Asked n t s m u w
    → (o : Option Best) → best_of m w.slots ≡ o → After (keep_going (begin_recovery m o (next_serial w))) u.tasks next → Next n t s u next
recovering_next n t s m u w next a None is e = subst (λ z. Next n t s u z) (some_same e) (record {
  sound = record {
    epoch = a.epoch;
    serial = omega (arith, a.serial);
    left = a.left;
    slots = length-map w.left _ ∙ a.left;
    tasks = a.tasks;
    frame = (omega (arith, a.from_one), refl, refl);
    stands = all_fresh (to_all w.left) (to_all_wait w.left);
  };
  step = opens_found_none m w.slots a.asking a.counted is refl;
  done = a.done;
  low = omega (arith, a.low);
})
recovering_next n t s m u w next a (Some b) is e =
    let best : BestTold n t m w.slots b = best_heard n t m w.slots b a.counted is in
    subst (λ z. Next n t s u z) (some_same e) (record {
      sound = record {
        epoch = a.epoch;
        serial = omega (arith, a.serial);
        left = a.left;
        slots = a.counted.all;
        tasks = a.tasks;
        frame = (a.committed, a.from_one, best.edit);
        stands = record { counted = a.counted; info = b.info; best = is; end_is = refl };
      };
      step = gets m b.node b.info.end w.slots a.asking (record { counted = a.counted; info = b.info; best = is; end_is = refl }) refl;
      done = a.done;
      low = omega (arith, a.low);
    })

-- ## The next task
record TaskNext (x : WriterView) (next : TaskProgress) : Type 0 where
  epoch : next.writer.epoch ≡ x.epoch
  serial : next.writer.serial ≡ x.serial
  left : length next.writer.left ≡ length x.left
  slots : length next.writer.slots ≡ length x.left
  fresh : IsFresh next.writer.slots
  tasks : list_all may_follow next.tasks ≡ true
  committed : next.writer.committed ≡ x.committed
  start : next.writer.start ≡ x.start
  next_is : next.writer.next ≡ x.next
  is : ((bodies : List (List ℕ)) × (next.round ≡ table.Write bodies) × (1 ≤ length bodies)) ⊎ ((min : ℕ) × (next.round ≡ table.Purge min))

task_next : (x : WriterView) (tasks : List Task) (next : TaskProgress) → list_all may_follow tasks ≡ true → next_task (record x { phase = phase.Writing }) tasks ≡ Some next → TaskNext x next
unfolding next_task writer_begun
task_next x [] next ok e = none≢some next e
task_next x (task.Takeover ∷ tasks) next ok e = true≢false (sym ok)
task_next x (task.Log bodies ∷ tasks) next ok e = go (log_limit (record x { phase = phase.Writing }) bodies) (λ f. task_next x tasks next p.1 f) e
  where
    p : (any_body bodies ≡ true) × (list_all may_follow tasks ≡ true)
    p = and_parts (any_body bodies) (list_all may_follow tasks) ok

    go : (o : Option ℕ) → (next_task (record x { phase = phase.Writing }) tasks ≡ Some next → TaskNext x next) →
        next_begun (has_begun (log_begins o bodies (record x { phase = phase.Writing })).begun)
        (progress_from (log_begins o bodies (record x { phase = phase.Writing })).writer.phase (log_begins o bodies (record x { phase = phase.Writing })).writer tasks)
        (next_task (record x { phase = phase.Writing }) tasks) ≡ Some next → TaskNext x next
    go (Some number) again f = again f
    go None again f = subst (λ z. TaskNext x z) (some_same f) (record {
      epoch = refl;
      serial = refl;
      left = refl;
      slots = length-map x.left _;
      fresh = to_others_fresh x.left;
      tasks = p.1;
      committed = refl;
      start = refl;
      next_is = refl;
      is = inl (bodies, refl, omega (arith, some_body bodies p.0));
    })
task_next x (task.Roll ∷ tasks) next ok e = subst (λ z. TaskNext x z) (some_same e) (record {
  epoch = refl;
  serial = refl;
  left = refl;
  slots = length-map x.left _;
  fresh = to_others_fresh x.left;
  tasks = ok;
  committed = refl;
  start = refl;
  next_is = refl;
  is = inl (end_record, refl, omega arith);
})
task_next x (task.Close ∷ tasks) next ok e = subst (λ z. TaskNext x z) (some_same e) (record {
  epoch = refl;
  serial = refl;
  left = refl;
  slots = length-map x.left _;
  fresh = to_others_fresh x.left;
  tasks = ok;
  committed = refl;
  start = refl;
  next_is = refl;
  is = inl (end_record, refl, omega arith);
})
task_next x (task.Purge min ∷ tasks) next ok e = subst (λ z. TaskNext x z) (some_same e) (record {
  epoch = refl;
  serial = refl;
  left = refl;
  slots = length-map x.left _;
  fresh = all_fresh (to_all x.left) (to_all_wait x.left);
  tasks = ok;
  committed = refl;
  start = refl;
  next_is = refl;
  is = inr (min, refl);
})

-- a task begins after a write, the start record or a purge
pub record Wrote (n : ℕ) (t : Takeover) (s : ℕ) (u : TaskProgress) (x : WriterView) : Type 0 where
  pub epoch : x.epoch ≡ t.epoch
  pub serial : x.serial ≡ suc s
  pub left : length x.left ≡ n
  pub tasks : list_all may_follow u.tasks ≡ true
  pub writing : IsWriting (seen u).round
  pub committed : x.committed ≡ committed_after (seen u) (seen u).round
  pub start : x.start ≡ u.writer.start
  pub start_one : 1 ≤ x.start
  pub start_below : x.start < x.next
  pub next_is : x.committed + 1 ≡ x.next
  pub low : end_below (seen u) (seen u).round ≤ x.next
  pub done : Done n (seen u) (t.heard s)

pub wrote_next : (n : ℕ) (t : Takeover) (s : ℕ) (u : TaskProgress) (x : WriterView) (next : TaskProgress) → Wrote n t s u x
    → round_after phase.Writing (record x { phase = phase.Writing }) u.tasks ≡ Some next → Next n t s u next
wrote_next n t s u x next a e = by d.is
  where
    d : TaskNext x next
    d = task_next x u.tasks next a.tasks e

    by : ((bodies : List (List ℕ)) × (next.round ≡ table.Write bodies) × (1 ≤ length bodies)) ⊎ ((min : ℕ) × (next.round ≡ table.Purge min)) → Next n t s u next
    by (inl r) = record {
      sound = record {
        epoch = d.epoch ∙ a.epoch;
        serial = d.serial ∙ a.serial;
        left = d.left ∙ a.left;
        slots = d.slots ∙ a.left;
        tasks = d.tasks;
        frame = subst (λ z. Framed (record {
          round = seen_round next.writer z;
          committed = next.writer.committed;
          start = next.writer.start;
          next = seen_next next.writer z;
        }) (seen_round next.writer z)) (sym r.1)
            (omega (arith, d.committed, d.next_is, a.next_is), refl, omega (arith, d.start, a.start_one), omega (arith, d.start, d.next_is, a.start_below), refl, r.2);
        stands = subst (λ z. Stands n t (suc s) next.writer.slots z) (sym r.1) d.fresh;
      };
      step = goes_on a.writing (subst (λ z. IsWriting (seen_round next.writer z)) (sym r.1) tt) (d.start ∙ a.start) (d.committed ∙ a.committed);
      done = λ no. a.done;
      low = subst (λ z. end_below (seen u) (seen u).round ≤ low_of (record {
        round = seen_round next.writer z;
        committed = next.writer.committed;
        start = next.writer.start;
        next = seen_next next.writer z;
      }) (seen_round next.writer z)) (sym r.1)
          (omega (arith, d.next_is, a.low));
    }
    by (inr r) = record {
      sound = record {
        epoch = d.epoch ∙ a.epoch;
        serial = d.serial ∙ a.serial;
        left = d.left ∙ a.left;
        slots = d.slots ∙ a.left;
        tasks = d.tasks;
        frame = subst (λ z. Framed (record {
          round = seen_round next.writer z;
          committed = next.writer.committed;
          start = next.writer.start;
          next = seen_next next.writer z;
        }) (seen_round next.writer z)) (sym r.1)
            (omega (arith, d.committed, d.next_is, a.next_is), omega (arith, d.start, a.start_one), omega (arith, d.start, d.next_is, a.start_below));
        stands = subst (λ z. Stands n t (suc s) next.writer.slots z) (sym r.1) d.fresh;
      };
      step = goes_on a.writing (subst (λ z. IsWriting (seen_round next.writer z)) (sym r.1) tt) (d.start ∙ a.start) (d.committed ∙ a.committed);
      done = λ no. a.done;
      low = subst (λ z. end_below (seen u) (seen u).round ≤ low_of (record {
        round = seen_round next.writer z;
        committed = next.writer.committed;
        start = next.writer.start;
        next = seen_next next.writer z;
      }) (seen_round next.writer z)) (sym r.1)
          (omega (arith, d.next_is, a.low));
    }
