-- A node that answered a finalise with Ok holds the segment, unless a later start has an
-- acknowledged edit under an epoch that isn't above its promise.
use Rattle.std.proofs.Common.{◌≡◌, ℕ, ◌+◌, ◌<◌, ◌≤◌, ◌⊎◌, true, false, List, ◌∷◌, length, Option, Some, refl, inl, inr, arith, sym, ap, ◌∙◌, subst}
use Rattle.std.proofs.lemmas.Bool.{cases_lt, cases_eq, cond-true}
use Rattle.journal_core.specs.Limits.{head_of}
use Rattle.journal_core.specs.Segments.{find_segment, has_edit, end_of, IsNotFinal}
use Rattle.journal_core.specs.Step.{node_step, last_or_start}
use Rattle.journal_core.specs.Views.{HeadView}
use Rattle.journal_core.specs.declared.reply.Reply.{Reply}
use Rattle.journal_core.specs.declared.reply.Reply.TheVariants.{Ok}
use Rattle.journal_core.specs.declared.request.Request.{Request}
use Rattle.journal_core.specs.declared.request.Request.TheVariants.{Journal, Finalize}
use Rattle.journal_core.specs.declared.segment.Segment.{Segment}
use Rattle.journal_core.proofs.SegmentLists.{find-start}
use Rattle.journal_core.proofs.Steps.{front_le}
use Rattle.journal_core.proofs.Changes.{Change, same, created, grown, made_final, replaced, removed, NoEdit}
use Rattle.journal_history.specs.Entries.{Heard, Answer, Entry, Earlier, after_move, node_after}
use Rattle.run_safety.specs.Run.{Story, Follows, IsNext}
use Rattle.run_safety.specs.Safe.{SaidOk}
use Rattle.run_safety.specs.Parts.{IsAcknowledgedIn}
use Rattle.run_safety.proofs.Places.{Earlier-trans, Earlier-tail, next_of}
use Rattle.run_safety.proofs.SoundNodes.{stored_after, promise_earlier}
use Rattle.run_safety.proofs.Along.{Requested, Changes, along, node_here}
use Rattle.run_safety.proofs.Slots.{some_same, true≢false}
use Rattle.run_safety.proofs.SeenLaws.{Clean, Finalizing, Write, Writer, seen_at, asked, is_ok_kind}
use Rattle.run_safety.proofs.Frames.{Framed, OkHeard, IsGet, IsWriting}
use Rattle.run_safety.proofs.Rounds.{frame}
use Rattle.run_safety.proofs.Spans.{FirstWrite, first_write, clean_below_seal, clean_below_start}
use Rattle.run_safety.proofs.Sent.{Sent, OfRound, round_within, one_owner, Answered, Answers, answers_of, no_fetch, to}
use Rattle.run_safety.proofs.Values.{Wrote, purge_round, later_round, get_there}
use Rattle.run_safety.proofs.Oks.{passed, FinalizeHeld, finalize_held}
use Rattle.run_safety.proofs.Shapes.{InRound, write_opens}
use Rattle.run_safety.proofs.Epochs.{Fin, Opn, held_wrote, not_first, owner_same}
use Rattle.run_safety.proofs.ToldLaws.{final_fin, fin_le}
use Rattle.run_safety.proofs.Between.{head_promise}
use Rattle.run_safety.proofs.Induction.{said_ok, good}

-- what is final holds an edit, to its end
pub final_edit : (i m : ℕ) (past : List Entry) (g : Segment) → find_segment m (node_after i past).segments ≡ Some g → g.is_final ≡ true → (has_edit g ≡ true) × (last_or_start g ≡ end_of g)
final_edit i m past g found final =
    let edit : has_edit g ≡ true = ((stored_after i past).segments m g found).final_edit final in
    (edit, cond-true (has_edit g) (end_of g) g.start edit)

module _ (n : ℕ) (story : Story) (past : List Entry) (run : Follows n story past) where
  -- ## A purge comes after the first write of its segment was done
  purge_acknowledged : (a s : ℕ) (w : Writer) (min : ℕ) → Sent n story past a s w → w.round ≡ Clean min → IsAcknowledgedIn n past (story.takeover a).epoch w.start
  purge_acknowledged a s w min p is = (
    record { epoch = (story.takeover a).epoch; serial = fw.round; committed = ans.w.committed },
    fw.batch,
    refl,
    fr.5,
    (ans.nodes, ans.majority, λ i mem. by i (ans.each i mem)),
  )
    where
      fw : FirstWrite n (story.takeover a) s w.start
      fw = first_write n (story.takeover a) s w min p.at is

      ans : Answers n story p.old a fw.round
      ans = answers_of n story past a s fw.round w run p fw.before (no_fetch n (story.takeover a) fw.round fw.writer fw.at (to (λ r. IsGet r → ⊥) (sym fw.is) (λ z. z)))

      round : ans.w.round ≡ Write w.start fw.batch
      round = ap (λ z. z.round) (some_same (sym ans.at ∙ fw.at)) ∙ fw.is

      fr : (fw.writer.committed + 1 ≡ fw.batch.first) × (fw.writer.start ≡ w.start) × (1 ≤ w.start) × (w.start ≤ fw.batch.first)
          × (fw.writer.next ≡ fw.batch.first + length fw.batch.bodies) × (1 ≤ length fw.batch.bodies)
      fr = to (λ r. Framed fw.writer r) fw.is (frame n (story.takeover a) fw.round fw.writer fw.at)

      by : (i : ℕ) → (reply : Reply) × Answered n story p.old a fw.round ans.w i reply × OkHeard n ans.w ((story.takeover a).heard fw.round) i reply
          → SaidOk past i (Journal (record { epoch = (story.takeover a).epoch; serial = fw.round; committed = ans.w.committed }) w.start fw.batch)
      by i r = (
        r.1.old,
        r.1.entry,
        Earlier-trans r.1.within p.within,
        r.1.node,
        (
          r.1.caller,
          to (λ y. r.1.entry.move ≡ Answer r.1.caller Heard (asked (story.takeover a).epoch fw.round ans.w.committed (Write w.start fw.batch)) y)
              (said_ok r.0 (to (λ q. is_ok_kind q r.0 ≡ true) round r.2.kind))
              (to (λ q. r.1.entry.move ≡ Answer r.1.caller Heard (asked (story.takeover a).epoch fw.round ans.w.committed q) r.0) round r.1.move),
        ),
      )

  -- ## Which purge removes a final segment
  pub later_purge : (i m : ℕ) (old : List Entry) (g : Segment) → Earlier old past → find_segment m (node_after i old).segments ≡ Some g → g.is_final ≡ true
      → (a s : ℕ) (w : Writer) (min : ℕ) → Sent n story past a s w → w.round ≡ Clean min → g.epoch ≤ (story.takeover a).epoch → end_of g ≤ w.committed → m < w.start
  later_purge i m old g p found final a s w min sent is header low = elim (cases_lt m w.start) [
    | inl above ↦ above
    | inr le ↦ elim (cases_lt g.epoch (story.takeover a).epoch) [
      | inl less ↦ absurd (let below : end_of g < w.start = (good n story past run (story.takeover a).epoch).opened_end w.start opens g.epoch m (end_of g) less fin in omega (arith, le, ends.1, below))
      | inr more ↦ absurd (own (omega (arith, header, more)) le)
    ]
  ]
    where
      start : g.start ≡ m
      start = find-start m (node_after i old).segments g found

      fin : Fin n story past run g.epoch m (end_of g)
      fin = final_fin n story past run i m old g p found final

      ends : (1 ≤ m) × (m ≤ end_of g)
      ends = fin_le n story past run g.epoch m (end_of g) fin

      opens : Opn n story past run (story.takeover a).epoch w.start
      opens = write_opens n story past a s w w.start sent (to (λ q. IsWriting q) (sym is) tt) refl

      cleans : InRound n story past (story.takeover a).epoch (Clean min)
      cleans = record { a = a; s = s; w = w; sent = sent; epoch = refl; is = is }

      -- of the segment's own owner
      own : g.epoch ≡ (story.takeover a).epoch → w.start ≤ m → ⊥
      own same_epoch le = elim (cases_eq w.start m) [
        | inl at_m ↦ (let x : Fin n story past run (story.takeover a).epoch m (end_of g) = to (λ e. Fin n story past run e m (end_of g)) same_epoch fin in
            let one : x.a ≡ a = owner_same n story past run (story.takeover a).epoch (Finalizing m (end_of g)) (Clean min) x cleans
            (not_first n story past run (story.takeover a).epoch (Finalizing m (end_of g)) x (λ q. cc)) later in
            let less : w.committed < end_of g = clean_below_seal n (story.takeover a) s x.s w x.w min (end_of g) sent.at
            (to (λ z. seen_at n (story.takeover z) x.s ≡ Some x.w) one x.sent.at) is (x.is ∙ ap (λ z. Finalizing z (end_of g)) (sym at_m)) in
            omega (arith, low, less))
        | inr other ↦ (let body = get_there g.bodies 0 (omega (arith, start, ends.1, ends.0)) in
            let wrote : Wrote n story past g.epoch m m body.0 = held_wrote n story past run i g.epoch m m body.0
            (record { old = old; within = p; segment = g; found = found; header = refl; has = (0, omega (arith, start), body.1) }) in
            let one : wrote.a ≡ a = one_owner n story past wrote.a a wrote.s s wrote.w w run wrote.sent sent
            (later_round n story past wrote.a wrote.s wrote.w m m wrote.sent wrote.covers) later (wrote.epoch ∙ same_epoch) in
            let less : w.committed < m = clean_below_start n (story.takeover a) s wrote.s w wrote.w min m m sent.at
            (to (λ z. seen_at n (story.takeover z) wrote.s ≡ Some wrote.w) one wrote.sent.at) is wrote.covers (omega (arith, le, other)) in
            omega (arith, low, less, ends.1))
      ]
        where
          later : 0 < s
          later = not_first n story past run (story.takeover a).epoch (Clean min) cleans (λ q. cc)

  -- ## Kept along the run
  abbrev Gone : ℕ → ℕ → Type 0
  Gone i m = (epoch : ℕ) × (later : ℕ) × (epoch ≤ (node_after i past).promised) × (m < later) × IsAcknowledgedIn n past epoch later

  abbrev Holds : ℕ → ℕ → ℕ → Option Segment → Type 0
  Holds i m l o = ((g : Segment) × (o ≡ Some g) × (g.is_final ≡ true) × (end_of g ≡ l)) ⊎ Gone i m

  held_change : (i m l : ℕ) (e0 : Entry) (old : List Entry) → Earlier (e0 ∷ old) past → e0.node ≡ i → (r : Request)
      → Requested (node_after i old) e0.move r → (h0 : (h : HeadView) → head_of r ≡ Some h → (node_after i old).promised ≤ h.epoch)
      → ((h : HeadView) → head_of r ≡ Some h → h.epoch ≤ (node_after i past).promised)
      → (o new : Option Segment) → Change (node_after i old) r m o new → find_segment m (node_after i old).segments ≡ o → (g : Segment) → o ≡ Some g
      → g.is_final ≡ true → end_of g ≡ l → Holds i m l new
  held_change i m l e0 old p at r q up most o new same found g is final ends = inl (g, is, final, ends)
  held_change i m l e0 old p at r q up most o new (created h k none) found g is final ends =
      absurd (true≢false (sym (final_edit i m old g (found ∙ is) final).0 ∙ to NoEdit is none))
  held_change i m l e0 old p at r q up most (Some x) new (grown h b k header open_yet first) found g is final ends =
      absurd (true≢false (sym final ∙ to (λ z. z.is_final ≡ false) (some_same is) open_yet))
  held_change i m l e0 old p at r q up most (Some x) new (made_final h k k2 edit open_yet header last) found g is final ends =
      absurd (true≢false (sym final ∙ to (λ z. z.is_final ≡ false) (some_same is) open_yet))
  held_change i m l e0 old p at r q up most o new (replaced h b k first open_yet) found g is final ends = absurd (true≢false (sym final ∙ to IsNotFinal is open_yet))
  held_change i m l e0 old p at r q up most (Some x) new (removed h min k newer low shut) found g is final ends =
      let z : OfRound n story past r = round_within n story past old e0 r run p (subst (λ j. Requested (node_after j old) e0.move r) (sym at) q) in
      let w = purge_round (story.takeover z.a).epoch z.s z.w.committed z.w.round h min (sym k ∙ z.is) in
      let here : find_segment m (node_after i old).segments ≡ Some g = found ∙ is in
      let header : g.epoch ≤ (node_after i old).promised = ((stored_after i old).segments m g here).header in
      let above : (node_after i old).promised ≤ h.epoch = up h (ap head_of k) in
      let upto : last_or_start g ≤ h.committed = to (λ y. last_or_start y ≤ h.committed) (some_same is) low in
      let ending : last_or_start g ≡ end_of g = (final_edit i m old g here final).1 in
      let past_it : m < z.w.start = later_purge i m old g (Earlier-tail p) here final z.a z.s z.w min z.sent w.0 (omega (arith, header, above, w.1)) (omega (arith, upto, ending, w.2)) in
      let top : h.epoch ≤ (node_after i past).promised = most h (ap head_of k) in
      inr ((story.takeover z.a).epoch, z.w.start, omega (arith, top, w.1), past_it, purge_acknowledged z.a z.s z.w min z.sent w.0)

  pub finalised_stays : (i m l : ℕ) (h : HeadView) → SaidOk past i (Finalize h m l)
      → ((g : Segment) × (find_segment m (node_after i past).segments ≡ Some g) × (g.is_final ≡ true) × (end_of g ≡ l)) ⊎ Gone i m
  finalised_stays i m l h ok = along i m (Holds i m l) ok.2 first step
    where
      replied : (node_step (node_after i ok.0) (Finalize h m l)).reply ≡ Ok
      replied =
          (let said = to (λ z. IsNext n story ok.0 ok.1.node (node_after ok.1.node ok.0) z) ok.4.1 (next_of n story ok.2 run).is_next in
          to (λ z. (node_step (node_after z ok.0) (Finalize h m l)).reply ≡ Ok) ok.3 said.1)

      held : FinalizeHeld (node_after i ok.0) h m l
      held = finalize_held (node_after i ok.0) h m l (passed (node_after i ok.0) (Finalize h m l) Ok replied tt)

      first : Holds i m l (find_segment m (node_after i (ok.1 ∷ ok.0)).segments)
      first = inl (held.held, ap (λ z. find_segment m z.segments) (node_here i ok.1 ok.0 ok.3 ∙ ap (λ z. after_move (node_after i ok.0) z) ok.4.1) ∙ held.found, held.final, held.ends)

      step : (e : Entry) (old : List Entry) → Earlier (ok.1 ∷ ok.0) old → Earlier (e ∷ old) past → Changes i e old m
          → Holds i m l (find_segment m (node_after i old).segments) → Holds i m l (find_segment m (node_after i (e ∷ old)).segments)
      step e old a b c (inr gone) = inr gone
      step e old a b c (inl x) = held_change i m l e old b c.node c.by.request c.by.asked (λ hd is. front_le (node_after i old) c.by.request hd is c.by.passed)
          (λ hd is. (let one : hd.epoch ≤ (node_after i (e ∷ old)).promised =
          to (λ s. hd.epoch ≤ s.promised) (sym (node_here i e old c.node))
          (head_promise (node_after i old) e.move c.by.request hd c.by.asked c.by.passed is) in
          let rest : (node_after i (e ∷ old)).promised ≤ (node_after i past).promised = promise_earlier i b in omega (arith, one, rest)))
          _ _ c.by.change refl x.0 x.1 x.2 x.3
