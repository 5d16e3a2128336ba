-- A takeover that asked for the segment at m: no later start has a chosen edit below it, and before
-- a node's answer nothing of its own later rounds came there.
use Rattle.std.proofs.Common.{◌≡◌, ℕ, ◌<◌, ◌≤◌, ◌⊎◌, true, List, ◌∷◌, length, Option, Some, refl, inl, inr, arith, sym, ap, ◌∙◌}
use Rattle.journal_core.specs.Reads.{told_of}
use Rattle.journal_core.specs.Segments.{find_segment, newest, HasAt}
use Rattle.journal_core.specs.Step.{node_step}
use Rattle.journal_core.specs.Views.{HeadView}
use Rattle.journal_core.specs.declared.reply.Reply.{Reply}
use Rattle.journal_core.specs.declared.reply.Reply.TheVariants.{Ok, State as StateTold, NewEpoch as EpochTaken, Prepared, Edits, Segments, Refused}
use Rattle.journal_core.specs.declared.request.Request.{Request}
use Rattle.journal_core.specs.declared.request.Request.TheVariants.{NewEpoch, Prepare}
use Rattle.journal_core.specs.declared.segment.Segment.{Segment}
use Rattle.journal_core.specs.declared.segment_info.SegmentInfo.{SegmentInfo}
use Rattle.journal_core.specs.declared.heard.Heard.TheVariants.{Answer as AnswerHeard}
use Rattle.writer_core.specs.declared.round.Round.TheVariants as table
use Rattle.writer_core.specs.declared.slot.Slot.{Slot}
use Rattle.writer_core.specs.declared.slot.Slot.TheVariants.{Told}
use Rattle.writer_core.specs.Answers.{fits_propose, fits_prepare}
use Rattle.writer_core.specs.Whole.{Takeover}
use Rattle.run_safety.specs.Majority.{Member}
use Rattle.journal_history.specs.Entries.{Late, Entry, Answer, Heard, node_after, Earlier, now, before}
use Rattle.run_safety.specs.Run.{Story, Follows, IsNextEntry, IsNext, IsCall, IsInTurn, WasHeard}
use Rattle.run_safety.proofs.SeenLaws.{seen_first, Propose, Ask, Writer, seen_at, asked, is_ok_kind}
use Rattle.run_safety.proofs.Slots.{some_same, true≢false, At, At-range, AtLeast, told_newest, ok_from, in_ok, ok_slot, ok_majority}
use Rattle.run_safety.proofs.Places.{Earlier-trans, Earlier-tail, Follows-earlier, next_of}
use Rattle.run_safety.proofs.Majorities.{majorities_share}
use Rattle.journal_core.proofs.SegmentLists.{newest-above}
use Rattle.run_safety.proofs.Along.{node_here}
use Rattle.run_safety.proofs.Rounds.{Comes, comes}
use Rattle.run_safety.proofs.Frames.{OkHeard, Newest, Counted, IsGet}
use Rattle.run_safety.proofs.Before.{ask_before}
use Rattle.run_safety.proofs.Sent.{Sent, Sent-later, one_owner, Answered, answered_of, Answers, answers_of, Vote, vote_of, Order, the_same, first_before, second_before, order_of, to}
use Rattle.run_safety.proofs.Values.{edit_of}
use Rattle.run_safety.proofs.Oks.{newest_rises, PrepareTold, prepare_told}
use Rattle.run_safety.proofs.Shapes.{Maj}
use Rattle.run_safety.proofs.Finals.{OkAt, ok_at}
use Rattle.run_safety.proofs.Between.{head_promise, asking_entry, held_before}

-- an answer of the Ok kind to a prepare
pub prepared_kind : (m : ℕ) (reply : Reply) → fits_prepare m reply ≡ true → (writer : ℕ) × (known : ℕ) × (segment : Option SegmentInfo) × (reply ≡ Prepared writer known segment)
prepared_kind m (Prepared a b c) k = (a, b, c, refl)
prepared_kind m Ok k = true≢false (sym k)
prepared_kind m (StateTold p) k = true≢false (sym k)
prepared_kind m (EpochTaken p) k = true≢false (sym k)
prepared_kind m (Edits b) k = true≢false (sym k)
prepared_kind m (Segments l) k = true≢false (sym k)
prepared_kind m (Refused x) k = true≢false (sym k)

pub heard_in_turn : (caller : ℕ) (request : Request) (reply : Reply) → IsInTurn (Answer caller Heard request reply)
heard_in_turn caller request reply = λ e. let same : Heard ≡ Late = e in cc

module _ (n : ℕ) (story : Story) (past : List Entry) (run : Follows n story past) where
  -- ## One answer for each round and node
  -- a call of a takeover stands after all that it heard in that round at that node or above
  pub not_again : (a k : ℕ) (w : Writer) (i : ℕ) (reply other : Reply) (old : List Entry) → Earlier old past → (x : Answered n story old a k w i reply) → WasHeard story x.old a k i other → ⊥
  not_again a k w i reply other old p x h = clash (call.in_order (heard_in_turn x.caller (asked (story.takeover a).epoch k w.committed w.round) reply)
      h.0 h.1 h.2 (h.3.0 ∙ sym x.whose) (to (λ z. IsInTurn z) (sym h.3.3.2) (heard_in_turn h.3.3.0 h.3.3.1 other)))
    where
      next : IsNextEntry n story x.old x.entry
      next = next_of n story x.within (Follows-earlier n story p run)

      call : IsCall n story x.old x.caller x.entry.node (asked (story.takeover a).epoch k w.committed w.round) (Answer x.caller Heard (asked (story.takeover a).epoch k w.committed w.round) reply)
      call = (to (λ z. IsNext n story x.old x.entry.node (node_after x.entry.node x.old) z) x.move next.is_next).0

      clash : (story.round (length h.0) < story.round (length x.old)) ⊎ (story.round (length h.0) ≡ story.round (length x.old)) × (h.1.node < x.entry.node) → ⊥
      clash (inl z) = omega (arith, h.3.1, x.which)
      clash (inr z) = let node : h.1.node ≡ i = h.3.2 in omega (arith, z.1, x.node)

  as_heard : (a k : ℕ) (w : Writer) (i : ℕ) (reply : Reply) {old more : List Entry} → (x : Answered n story old a k w i reply) → Earlier (x.entry ∷ x.old) more → WasHeard story more a k i reply
  as_heard a k w i reply x p = (x.old, x.entry, p, (x.whose, x.which, x.node, (x.caller, _, x.move)))

  pub answered_once : (a k : ℕ) (w v : Writer) (i : ℕ) (reply other : Reply) (old more : List Entry) → Earlier old past → Earlier more past
      → (x : Answered n story old a k w i reply) → (y : Answered n story more a k v i other) → x.old ≡ y.old
  answered_once a k w v i reply other old more p q x y = go (order_of (Earlier-trans x.within p) (Earlier-trans y.within q))
    where
      go : Order x.entry y.entry x.old y.old → x.old ≡ y.old
      go (the_same e) = e
      go (first_before e) = absurd (not_again a k v i other reply more q y (as_heard a k w i reply x e))
      go (second_before e) = absurd (not_again a k w i reply other old p x (as_heard a k v i other y e))

  -- ## A takeover that asked for m
  -- It is of epoch f, and went on from there: these are the answers that still count.
  pub record Asking (f m : ℕ) : Type 0 where
    pub a : ℕ
    pub s : ℕ
    pub w : Writer
    pub sent : Sent n story past a s w
    pub later : 1 < s
    pub epoch : (story.takeover a).epoch ≡ f
    pub asks : Writer
    pub at : seen_at n (story.takeover a) 1 ≡ Some asks
    pub is : asks.round ≡ Ask m
    pub slots : List Slot
    pub counted : Counted n (story.takeover a) m slots

  module _ (f m : ℕ) (x : Asking f m) where
    abbrev pub t : Takeover
    t = story.takeover x.a

    abbrev pub asked_first : Comes n t 0 x.asks
    asked_first = comes n t 0 x.asks x.at

    pub asked_newest : (asked_first.writer.round ≡ Propose) × Newest n (t.heard 0) (Some m)
    asked_newest = ask_before n t 0 x.asks m asked_first x.is

    -- ## The answers to the proposal
    abbrev pub votes : Answers n story x.sent.old x.a 0
    votes = answers_of n story past x.a x.s 0 x.w run x.sent (omega (arith, x.later)) (λ v at. to (λ r. IsGet r → ⊥) (sym (seen_first n t v at).0) (λ z. z))

    -- no later start has a chosen edit under a lower epoch
    pub no_later : (g c u : ℕ) (body : List ℕ) → g < f → Maj n past g c u body → c ≤ m
    no_later g c u body lt j = go (told_is v.told refl)
      where
        share : (i : ℕ) × Member i j.nodes × Member i votes.nodes
        share = majorities_share n j.nodes votes.nodes j.majority votes.majority

        i : ℕ
        i = share.0

        y : (reply : Reply) × Answered n story x.sent.old x.a 0 votes.w i reply × OkHeard n votes.w (t.heard 0) i reply
        y = votes.each i share.2

        is_proposal : votes.w.round ≡ Propose
        is_proposal = (seen_first n t votes.w votes.at).0

        v : Vote n story x.sent.old x.a i
        v = vote_of n story x.sent.old x.a i votes.w y.0 is_proposal y.1 y.2.was_heard

        q : (q : List Entry) × (h : Segment) × Earlier q y.1.old × (find_segment c (node_after i q).segments ≡ Some h) × (h.epoch ≡ g) × HasAt h u body
        q = held_before i g c u body y.1.entry y.1.old past (j.each i share.1) (Earlier-trans y.1.within x.sent.within) (omega (arith, lt, v.after, x.epoch))
            (asking_entry i c y.1.entry y.1.old y.1.caller Heard (NewEpoch t.epoch) y.0
            (to (λ r. y.1.entry.move ≡ Answer y.1.caller Heard (asked t.epoch 0 votes.w.committed r) y.0) is_proposal y.1.move) tt)

        top : (k : ℕ) × (newest (node_after i q.0).segments ≡ Some k) × (c ≤ k)
        top = newest-above c (node_after i q.0).segments q.1 q.3 (edit_of q.1 u body q.5)

        rise : (k : ℕ) × (newest (node_after i y.1.old).segments ≡ Some k) × (top.0 ≤ k)
        rise = newest_rises n story past run i top.0 q.2 (Earlier-trans (before now) (Earlier-trans y.1.within x.sent.within)) top.1

        told_is : (o : Option ℕ) → v.told ≡ o → (k : ℕ) × (c ≤ k) × (t.heard 0 i ≡ Some (EpochTaken (Some k)))
        told_is o e = (rise.0, omega (arith, top.2, rise.2), v.heard ∙ ap (λ z. Some (EpochTaken z)) (sym v.taken_is.newest_is ∙ rise.1))

        fits : fits_propose y.0 ≡ true
        fits = to (λ r. is_ok_kind r y.0 ≡ true) is_proposal y.2.kind

        go : (k : ℕ) × (c ≤ k) × (t.heard 0 i ≡ Some (EpochTaken (Some k))) → c ≤ m
        go z = (let reply_is : y.0 ≡ EpochTaken (Some z.0) = some_same (sym y.2.was_heard ∙ z.2) in
            let at_m : AtLeast z.0 (Some m) = asked_newest.1.least i z.0 y.0 y.2.from_one y.2.up_to_n y.2.was_heard fits (ap told_newest reply_is) in
            let le : c ≤ z.0 = z.1 in omega arith)

    -- ## The answers to the prepare that count
    abbrev pub Slot1 : ℕ → Reply → Type 0
    Slot1 i reply = At 1 x.slots i (Told (AnswerHeard reply)) × (fits_prepare m reply ≡ true)

    pub asks_kind : (reply : Reply) → fits_prepare m reply ≡ true → is_ok_kind x.asks.round reply ≡ true
    asks_kind reply k = to (λ r. is_ok_kind r reply ≡ true) (sym x.is) k

    pub answered_slot : (i : ℕ) (reply : Reply) → Slot1 i reply → Answered n story x.sent.old x.a 1 x.asks i reply
    answered_slot i reply y = answered_of n story x.sent.old x.a 1 x.asks i reply (Follows-earlier n story x.sent.within run) x.at
        (asks_kind reply y.1) (x.sent.heard_before 1 i reply x.later (x.counted.heard i reply y.0 y.1))

    pub counted_slot : (i : ℕ) → Member i (ok_from (table.Prepare m) 1 x.slots) → (reply : Reply) × Slot1 i reply
    counted_slot i mem =
        let y = in_ok (table.Prepare m) 1 x.slots i mem in
        let ok = ok_slot (table.Prepare m) y.0 y.2 in
        (ok.0, (to (λ z. At 1 x.slots i z) ok.1 y.1, ok.2))

    pub slot_heard : (i : ℕ) (reply : Reply) → Slot1 i reply → OkHeard n x.asks (t.heard 1) i reply
    slot_heard i reply y =
        let range = At-range 1 x.slots i (Told (AnswerHeard reply)) y.0 in
        record { from_one = range.0; up_to_n = omega (arith, range.1, x.counted.all); was_heard = x.counted.heard i reply y.0 y.1; kind = asks_kind reply y.1 }

    abbrev pub answers : Answers n story x.sent.old x.a 1
    answers = record {
      w = x.asks;
      at = x.at;
      nodes = ok_from (table.Prepare m) 1 x.slots;
      majority = ok_majority n (table.Prepare m) x.slots x.counted.all x.counted.enough;
      each = λ i mem. (let r = counted_slot i mem in (r.0, answered_slot i r.0 r.1, slot_heard i r.0 r.1));
    }

    -- one of them, with its place
    pub record AnswerAt (i : ℕ) : Type 0 where
      pub old : List Entry
      pub entry : Entry
      pub within : Earlier (entry ∷ old) past
      pub writer : ℕ
      pub known : ℕ
      pub segment : Option SegmentInfo
      pub at : At 1 x.slots i (Told (AnswerHeard (Prepared writer known segment)))
      pub fits : fits_prepare m (Prepared writer known segment) ≡ true
      pub heard : t.heard 1 i ≡ Some (Prepared writer known segment)
      pub answered : Answered n story x.sent.old x.a 1 x.asks i (Prepared writer known segment)
      pub is_old : answered.old ≡ old
      pub promise : (node_after i old).promised ≤ f
      pub after : f ≤ (node_after i (entry ∷ old)).promised
      pub tells : segment ≡ told_of (find_segment m (node_after i old).segments)
      pub quiet : (k : ℕ) → find_segment k (node_after i (entry ∷ old)).segments ≡ find_segment k (node_after i old).segments

    pub answer_ok : (i writer known : ℕ) (segment : Option SegmentInfo) → Slot1 i (Prepared writer known segment) → (y : AnswerAt i) × (y.segment ≡ segment)
    answer_ok i writer known segment slot = (
      record {
        old = y.old;
        entry = y.entry;
        within = inside;
        writer = writer;
        known = known;
        segment = segment;
        at = slot.0;
        fits = slot.1;
        heard = x.counted.heard i (Prepared writer known segment) slot.0 slot.1;
        answered = y;
        is_old = refl;
        promise = (let le : (node_after i y.old).promised ≤ t.epoch = p.promise in omega (arith, x.epoch));
        after = (let le : (node_after i y.old).promised ≤ t.epoch = p.promise in omega (arith, x.epoch, up));
        tells = p.tells;
        quiet = λ z. asking_entry i z y.entry y.old y.caller Heard (Prepare head m) (Prepared writer known segment) move tt;
      },
      refl,
    )
      where
        y : Answered n story x.sent.old x.a 1 x.asks i (Prepared writer known segment)
        y = answered_slot i (Prepared writer known segment) slot

        head : HeadView
        head = record { epoch = t.epoch; serial = 1; committed = x.asks.committed }

        inside : Earlier (y.entry ∷ y.old) past
        inside = Earlier-trans y.within x.sent.within

        move : y.entry.move ≡ Answer y.caller Heard (Prepare head m) (Prepared writer known segment)
        move = to (λ r. y.entry.move ≡ Answer y.caller Heard (asked t.epoch 1 x.asks.committed r) (Prepared writer known segment)) x.is y.move

        replied : (node_step (node_after i y.old) (Prepare head m)).reply ≡ Prepared writer known segment
        replied = to (λ r. (node_step (node_after i y.old) (asked t.epoch 1 x.asks.committed r)).reply ≡ Prepared writer known segment) x.is y.replied

        p : PrepareTold (node_after i y.old) head m segment
        p = prepare_told (node_after i y.old) head m writer known segment replied

        ok : OkAt x.sent.old i (Prepare head m)
        ok = ok_at n story x.sent.old x.a 1 x.asks i (Prepared writer known segment) (Ask m) x.is y

        up : t.epoch ≤ (node_after i (y.entry ∷ y.old)).promised
        up = to (λ z. t.epoch ≤ z.promised) (sym (node_here i y.entry y.old y.node))
            (head_promise (node_after i y.old) y.entry.move (Prepare head m) head (inl (y.caller, Heard, Prepared writer known segment, move)) ok.passed_by.at_once refl)

    pub answer_at : (i : ℕ) → Member i answers.nodes → AnswerAt i
    answer_at i mem = from (counted_slot i mem)
      where
        from : (reply : Reply) × Slot1 i reply → AnswerAt i
        from r = (let k = prepared_kind m r.0 r.1.1 in (answer_ok i k.0 k.1 k.2 (to (λ z. Slot1 i z) k.3 r.1)).0)

    -- a node gave one answer
    pub answer_once : (i : ℕ) (y z : AnswerAt i) → y.old ≡ z.old
    answer_once i y z = sym y.is_old ∙ (answered_once x.a 1 x.asks x.asks i (Prepared y.writer y.known y.segment)
        (Prepared z.writer z.known z.segment) x.sent.old x.sent.old x.sent.within x.sent.within y.answered z.answered ∙ z.is_old)

    -- nothing of this takeover's later rounds came to the node before its answer
    pub no_own : (i : ℕ) (y : AnswerAt i) (b k : ℕ) (u : Writer) → Sent n story y.old b k u → (story.takeover b).epoch ≡ f → 1 < k → ⊥
    no_own i y b k u p same_epoch lt = not_again x.a 1 x.asks i (Prepared y.writer y.known y.segment) (Prepared y.writer y.known y.segment) x.sent.old x.sent.within y.answered again
      where
        inside : Earlier y.old past
        inside = Earlier-tail y.within

        one : b ≡ x.a
        one = one_owner n story past b x.a k x.s u x.w run (Sent-later n story b k u inside p) x.sent (omega (arith, lt)) (omega (arith, x.later)) (same_epoch ∙ sym x.epoch)

        h : WasHeard story p.old b 1 i (Prepared y.writer y.known y.segment)
        h = p.heard_before 1 i (Prepared y.writer y.known y.segment) lt (to (λ z. (story.takeover z).heard 1 i ≡ Some (Prepared y.writer y.known y.segment)) (sym one) y.heard)

        again : WasHeard story y.answered.old x.a 1 i (Prepared y.writer y.known y.segment)
        again = to (λ z. WasHeard story z x.a 1 i (Prepared y.writer y.known y.segment)) (sym y.is_old)
            (to (λ z. WasHeard story y.old z 1 i (Prepared y.writer y.known y.segment)) one (h.0, h.1, Earlier-trans h.2 p.within, h.3))
