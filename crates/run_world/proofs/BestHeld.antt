-- The best answer that a writer fetches from is of a segment that its node held; so a final one is
-- as long as any other final one.
use Rattle.std.proofs.Common.{◌≡◌, ℕ, List, true, inl, inr, length, map, refl, sym, ap, ◌∙◌, subst, arith, Option, Some, None, cond}
use Rattle.std.proofs.lemmas.Bool.{cases_Bool, cond-true, cond-false}
use Rattle.journal_core.specs.Reads.{told_of}
use Rattle.journal_core.specs.Segments.{find_segment, has_edit, end_of, info_of}
use Rattle.journal_core.specs.Step.{node_step, fronted, row_reply}
use Rattle.journal_core.specs.declared.segment.Segment.{Segment}
use Rattle.journal_core.specs.declared.segment_info.SegmentInfo.{SegmentInfo}
use Rattle.journal_core.specs.declared.node_state.NodeState.{NodeState}
use Rattle.journal_core.specs.declared.request.Request.{Request}
use Rattle.journal_core.specs.declared.reply.Reply.TheVariants as reply
use Rattle.writer_core.specs.declared.round.Round.{Round as TableRound}
use Rattle.writer_core.specs.declared.round.Round.TheVariants as round
use Rattle.writer_core.specs.declared.phase.Phase.TheVariants as phase
use Rattle.writer_core.specs.Views.{WriterView}
use Rattle.writer_core.specs.Best.{Best, best_of, best_from}
use Rattle.writer_core.proofs.Plain.{plain_slot, best_plain}
use Rattle.writer_core.proofs.PlainRounds.{IsWhole}
use Rattle.journal_history.specs.Entries.{Entry, Heard, Earlier, now, node_after}
use Rattle.run_safety.specs.Run.{Story, Follows, WasHeard, IsNext}
use Rattle.run_safety.specs.Safe.{IsHeld}
use Rattle.run_safety.proofs.Places.{Earlier-trans, Earlier-tail, next_of}
use Rattle.journal_core.proofs.SegmentLists.{find-start}
use Rattle.run_safety.proofs.Slots.{none≢some, some_same}
use Rattle.run_safety.proofs.SeenLaws.{Round, Propose, Ask, Get, Recover, Finalizing, Open, Write, Clean, Other, asked}
use Rattle.run_safety.proofs.Frames.{Getting}
use Rattle.run_safety.proofs.Answers.{BestTold, best_heard}
use Rattle.run_safety.proofs.Oks.{Passed, passed, prepare_told}
use Rattle.run_safety.proofs.Sent.{OfRound, round_of, to}
use Rattle.run_safety.proofs.Safety.{finalised_agree}
use Rattle.run_safety.proofs.Tales.{Tale}
use Rattle.run_safety.proofs.Tracked.{Tracked, Stands, calling, fetching, writing}
use Rattle.run_world.proofs.Passing.{Fetching}
use Rattle.run_world.proofs.Rivals.{Within, within}

-- a segment that was told
pub record WasHeld (past : List Entry) (i : ℕ) (info : SegmentInfo) : Type 0 where
  pub segment : Segment
  pub held : IsHeld past i segment
  pub told_it : info_of segment ≡ info

told_by : (m : ℕ) (s : NodeState) (info : SegmentInfo) → Some info ≡ told_of (find_segment m s.segments) → (g : Segment) × (find_segment g.start s.segments ≡ Some g) × (info_of g ≡ info)
told_by m s info e = by (find_segment m s.segments) refl e
  where
    edit : (g : Segment) → find_segment m s.segments ≡ Some g → Some info ≡ cond (has_edit g) (Some (info_of g)) None → (h : Segment) × (find_segment h.start s.segments ≡ Some h) × (info_of h ≡ info)
    edit g found f = elim (cases_Bool (has_edit g)) [
      | inl t ↦ (g, subst (λ (k : ℕ). find_segment k s.segments ≡ Some g) (sym (find-start m s.segments g found)) found, some_same (sym (f ∙ cond-true (has_edit g) (Some (info_of g)) None t)))
      | inr n ↦ none≢some info (sym (f ∙ cond-false (has_edit g) (Some (info_of g)) None n))
    ]

    by : (o : Option Segment) → find_segment m s.segments ≡ o → Some info ≡ told_of o → (g : Segment) × (find_segment g.start s.segments ≡ Some g) × (info_of g ≡ info)
    by None is f = none≢some info (sym f)
    by (Some g) is f = edit g is f

-- only a prepare is answered so
prepare_of : (s : NodeState) (e k c : ℕ) (r : Round) (q : Request) (w l : ℕ) (info : SegmentInfo) → q ≡ asked e k c r
    → (node_step s q).reply ≡ reply.Prepared w l (Some info) → (g : Segment) × (find_segment g.start s.segments ≡ Some g) × (info_of g ≡ info)
prepare_of s e k c r q w l info is a = by r (subst (λ z. (node_step s z).reply ≡ reply.Prepared w l (Some info)) is a)
  where
    passes : (z : Request) → (node_step s z).reply ≡ reply.Prepared w l (Some info) → row_reply (fronted s z) z ≡ reply.Prepared w l (Some info)
    passes z f = let p : Passed s z = passed s z (reply.Prepared w l (Some info)) f tt in sym p.reply ∙ f

    by : (x : Round) → (node_step s (asked e k c x)).reply ≡ reply.Prepared w l (Some info) → (g : Segment) × (find_segment g.start s.segments ≡ Some g) × (info_of g ≡ info)
    by Propose f = absurd (cc (passes (asked e k c Propose) f))
    by (Ask m) f = told_by m s info (prepare_told s (record { epoch = e; serial = k; committed = c }) m w l (Some info) f).tells
    by (Get node m end bodies) f = absurd (cc (passes (asked e k c (Get node m end bodies)) f))
    by (Recover b) f = absurd (cc (passes (asked e k c (Recover b)) f))
    by (Finalizing m end) f = absurd (cc (passes (asked e k c (Finalizing m end)) f))
    by (Open m) f = absurd (cc (passes (asked e k c (Open m)) f))
    by (Write m b) f = absurd (cc (passes (asked e k c (Write m b)) f))
    by (Clean min) f = absurd (cc (passes (asked e k c (Clean min)) f))
    by Other f = absurd (cc (passes (asked e k c Other) f))

heard_held : (n : ℕ) (story : Story) (past : List Entry) (a s i w l : ℕ) (info : SegmentInfo) → Follows n story past → WasHeard story past a s i (reply.Prepared w l (Some info)) → WasHeld past i info
heard_held n story past a s i w l info f h =
    let e : Entry = h.1 in
    let next = next_of n story h.2 f in
    let call = to (λ m. IsNext n story h.0 e.node (node_after e.node h.0) m) h.3.3.2 next.is_next in
    let x : OfRound n story h.0 h.3.3.1 = round_of n story h.0 e h.3.3.1 next (inl (h.3.3.0, Heard, reply.Prepared w l (Some info), h.3.3.2)) in
    let g = prepare_of (node_after e.node h.0) (story.takeover x.a).epoch x.s x.w.committed x.w.round h.3.3.1 w l info x.is call.1 in
    record { segment = g.0; held = (h.0, Earlier-tail h.2, subst (λ (k : ℕ). find_segment g.0.start (node_after k h.0).segments ≡ Some g.0) h.3.2 g.1); told_it = g.2 }

-- the best answer that a writer fetches from
pub best_held : (n : ℕ) (a : Tale) (past : List Entry) (follows : Follows n a.story past) (c : ℕ) (v : WriterView) (t : Tracked n a past c v)
    (j m end : ℕ) (bodies : List (List ℕ)) → v.phase ≡ phase.InRound (round.Fetch j m end bodies)
    → (f : Fetching v j m end bodies) → WasHeld past j f.info
best_held n a past follows c v t j m end bodies is f = by t.stands
  where
    w : Within n a past follows c v t (round.Fetch j m end bodies)
    w = within n a past follows c v t (round.Fetch j m end bodies) is

    g : Getting n (a.story.takeover t.k) m j end t.writer.slots
    g = w.sound.stands

    by_slots : map plain_slot v.slots ≡ map plain_slot t.writer.slots → WasHeld past j f.info
    by_slots same =
        let one : best_of m v.slots ≡ best_of m t.writer.slots = sym (best_plain m 1 v.slots) ∙ ap (best_from m 1) same ∙ best_plain m 1 t.writer.slots in
        let both : ◌≡◌ {A = Best} (record { node = j; info = f.info }) (record { node = j; info = g.info }) = some_same (sym f.best ∙ one ∙ g.best) in
        let info : f.info ≡ g.info = ap (λ (b : Best). b.info) both in
        let b : BestTold n (a.story.takeover t.k) m t.writer.slots (record { node = j; info = g.info }) =
        best_heard n (a.story.takeover t.k) m t.writer.slots (record { node = j; info = g.info }) g.counted g.best in
        subst (λ (z : SegmentInfo). WasHeld past j z) (sym info)
        (heard_held n a.story past t.k 1 j b.writer b.committed g.info follows (t.heard 1 j (reply.Prepared b.writer b.committed (Some g.info)) b.was_heard))

    by : Stands v t.writer ((a.story.takeover t.k).heard (a.top t.k)) → WasHeld past j f.info
    by (calling q whole e same fills) = absurd (off q whole (sym e ∙ is))
      where
        off : (q : TableRound) → IsWhole q → phase.InRound q ≡ phase.InRound (round.Fetch j m end bodies) → ⊥
        off q i e = absurd (subst IsWhole (one e) i)
          where
            one : phase.InRound q ≡ phase.InRound (round.Fetch j m end bodies) → q ≡ round.Fetch j m end bodies
            one x = cc
    by (fetching node start last pieces e same silent) = by_slots (ap (λ (u : WriterView). u.slots) same)
    by (writing e same silent) = absurd (off (sym e ∙ is))
      where
        off : phase.Writing ≡ phase.InRound (round.Fetch j m end bodies) → ⊥
        off x = cc x

-- final segments that nodes hold are as long
pub as_long : (n : ℕ) (story : Story) (past more : List Entry) (j i : ℕ) (info : SegmentInfo) (g : Segment) → Follows n story more → Earlier past more
    → WasHeld past j info → find_segment info.start (node_after i more).segments ≡ Some g → g.is_final ≡ true → info.is_final ≡ true
    → end_of g ≡ info.end
as_long n story past more j i info g f p h found final is_final =
    let start : g.start ≡ info.start = find-start info.start (node_after i more).segments g found in
    let his : h.segment.start ≡ info.start = ap (λ (z : SegmentInfo). z.start) h.told_it in
    let his_final : h.segment.is_final ≡ true = ap (λ (z : SegmentInfo). z.is_final) h.told_it ∙ is_final in
    let his_end : end_of h.segment ≡ info.end = ap (λ (z : SegmentInfo). z.end) h.told_it in
    let here : find_segment g.start (node_after i more).segments ≡ Some g = subst (λ (k : ℕ). find_segment k (node_after i more).segments ≡ Some g) (sym start) found in
    let same : g.bodies ≡ h.segment.bodies = finalised_agree n story more f i j g h.segment (more, now, here) (h.held.0, Earlier-trans h.held.1 p, h.held.2) final his_final (start ∙ sym his) in
    let len : length g.bodies ≡ length h.segment.bodies = ap (λ (l : List (List ℕ)). length l) same in
    omega (arith, start, his, his_end, len)
