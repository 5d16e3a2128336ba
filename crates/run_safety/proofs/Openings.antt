-- Why a segment is opened: no newest start was told, nothing of the segment was told, or the same
-- epoch finalised the segment before it.
use Rattle.std.proofs.Common.{◌≡◌, ℕ, zero, suc, ◌+◌, ◌<◌, ◌⊎◌, true, List, ◌∷◌, Option, Some, None, refl, inl, inr, arith, sym, ap, ◌∙◌}
use Rattle.journal_core.specs.declared.request.Request.TheVariants.{NewEpoch}
use Rattle.journal_core.specs.declared.reply.Reply.{Reply}
use Rattle.journal_core.specs.declared.reply.Reply.TheVariants.{NewEpoch as EpochTaken, Prepared}
use Rattle.journal_core.specs.declared.segment_info.SegmentInfo.{SegmentInfo}
use Rattle.journal_core.specs.declared.heard.Heard.TheVariants.{Answer as AnswerHeard}
use Rattle.writer_core.specs.declared.slot.Slot.TheVariants.{Told}
use Rattle.writer_core.specs.Answers.{fits_propose}
use Rattle.writer_core.specs.Best.{best_of, segment_told}
use Rattle.journal_history.specs.Entries.{Heard, Entry, Answer, Earlier}
use Rattle.run_safety.specs.Run.{Story, Follows}
use Rattle.run_safety.specs.Safe.{IsStart}
use Rattle.run_safety.specs.Parts.{IsFinalised, ToldNewest, ToldPrepare, NoneToldNewest, NoneToldPrepare}
use Rattle.run_safety.proofs.Places.{Earlier-trans}
use Rattle.run_safety.proofs.Slots.{some_same, IsTop, best_is_top, told_newest}
use Rattle.run_safety.proofs.SeenLaws.{Propose, Open, Writer, is_ok_kind, seen_first, asked}
use Rattle.run_safety.proofs.Frames.{Newest, OkHeard, IsGet}
use Rattle.run_safety.proofs.Rounds.{Comes, comes}
use Rattle.run_safety.proofs.Before.{OpenedBy, at_one, found_none, after_seal_of, open_before, proposal_first}
use Rattle.run_safety.proofs.Sent.{Sent, Answered, Answers, answers_of, Vote, vote_of, to}
use Rattle.run_safety.proofs.Epochs.{Opn}
use Rattle.run_safety.proofs.Prepares.{Asking, AnswerAt, answer_at, answers}
use Rattle.run_safety.proofs.Induction.{asking_of, seal_done}
use Rattle.run_safety.proofs.Safety.{all_good}
use Rattle.run_safety.proofs.Kept.{told_at, opening}

module _ (n : ℕ) (story : Story) (past : List Entry) (run : Follows n story past) where
  -- ## A proposal that was told no newest start
  none_told : (a s f : ℕ) (w : Writer) → (p : Sent n story past a s w) → 0 < s → (story.takeover a).epoch ≡ f → Newest n ((story.takeover a).heard 0) None → NoneToldNewest n past f
  none_told a s f w p late epoch none = (votes.nodes, votes.majority, λ i mem. at i (votes.each i mem))
    where
      votes : Answers n story p.old a 0
      votes = answers_of n story past a s 0 w run p late (λ v at. to (λ r. IsGet r → ⊥) (sym (seen_first n (story.takeover a) v at).0) (λ z. z))

      is_proposal : votes.w.round ≡ Propose
      is_proposal = (seen_first n (story.takeover a) votes.w votes.at).0

      at : (i : ℕ) → (y : (reply : Reply) × Answered n story p.old a 0 votes.w i reply × OkHeard n votes.w ((story.takeover a).heard 0) i reply) → ToldNewest past i f None
      at i y = (
        y.1.old,
        y.1.entry,
        Earlier-trans y.1.within p.within,
        y.1.node,
        (
          y.1.caller,
          to (λ e. y.1.entry.move ≡ Answer y.1.caller Heard (NewEpoch e) (EpochTaken None)) epoch
              (to (λ r. y.1.entry.move ≡ Answer y.1.caller Heard (asked (story.takeover a).epoch 0 votes.w.committed r) (EpochTaken None)) is_proposal
              (to (λ r. y.1.entry.move ≡ Answer y.1.caller Heard (asked (story.takeover a).epoch 0 votes.w.committed votes.w.round) r) (reply_is v.told refl) y.1.move)),
        ),
      )
        where
          fits : fits_propose y.0 ≡ true
          fits = to (λ r. is_ok_kind r y.0 ≡ true) is_proposal y.2.kind

          v : Vote n story p.old a i
          v = vote_of n story p.old a i votes.w y.0 is_proposal y.1 y.2.was_heard

          same_reply : y.0 ≡ EpochTaken v.told
          same_reply = some_same (sym y.2.was_heard ∙ v.heard)

          reply_is : (o : Option ℕ) → v.told ≡ o → y.0 ≡ EpochTaken None
          reply_is None is = same_reply ∙ ap (λ z. EpochTaken z) is
          reply_is (Some k) is = absurd (none.least i k y.0 y.2.from_one y.2.up_to_n y.2.was_heard fits (ap told_newest (same_reply ∙ ap (λ z. EpochTaken z) is)))

  -- ## A prepare that was told nothing
  nothing_told : (f m : ℕ) (x : Asking n story past run f m) → best_of m x.slots ≡ None → NoneToldPrepare n past f m
  nothing_told f m x none = ((answers n story past run f m x).nodes, (answers n story past run f m x).majority, λ i mem. at i (answer_at n story past run f m x i mem))
    where
      at : (i : ℕ) → (y : AnswerAt n story past run f m x i) → (old : List Entry) × ToldPrepare past old i f m None
      at i y = (y.answered.old, to (λ o. ToldPrepare past y.answered.old i f m o) (is_none y.segment refl) (told_at n story past run f m x i y))
        where
          is_none : (o : Option SegmentInfo) → y.segment ≡ o → y.segment ≡ None
          is_none None is = is
          is_none (Some info) is = absurd (to (λ o. IsTop info o) none
              (best_is_top m 1 x.slots i (Told (AnswerHeard (Prepared y.writer y.known y.segment))) info y.at (ap (λ z. segment_told z (Prepared y.writer y.known y.segment)) y.fits ∙ is)))

  -- ## An opening
  pub opening_cause : (f k : ℕ) → Opn n story past run f k
      → ((k ≡ 1) × NoneToldNewest n past f) ⊎ (NoneToldPrepare n past f k ⊎ ((first : ℕ) × (last : ℕ) × (last + 1 ≡ k) × IsFinalised n past f first last))
  opening_cause f k o = by_round o.s o.w o.sent o.is
    where
      by_round : (s : ℕ) (w : Writer) → Sent n story past o.a s w → w.round ≡ Open k
          → ((k ≡ 1) × NoneToldNewest n past f) ⊎ (NoneToldPrepare n past f k ⊎ ((first : ℕ) × (last : ℕ) × (last + 1 ≡ k) × IsFinalised n past f first last))
      by_round zero w p is = let no : Propose ≡ Open k = sym (seen_first n (story.takeover o.a) w p.at).0 ∙ is in cc
      by_round (suc s) w p is = by (open_before n (story.takeover o.a) s w k c is)
        where
          c : Comes n (story.takeover o.a) s w
          c = comes n (story.takeover o.a) s w p.at

          by : OpenedBy n (story.takeover o.a) s c.writer k → ((k ≡ 1) × NoneToldNewest n past f)
              ⊎ (NoneToldPrepare n past f k ⊎ ((first : ℕ) × (last : ℕ) × (last + 1 ≡ k) × IsFinalised n past f first last))
          by (at_one q none one) =
              (let first : s ≡ 0 = proposal_first n (story.takeover o.a) s c.writer c.at q in
              inl (one, none_told o.a (suc s) f w p (omega arith) o.epoch (to (λ z. Newest n ((story.takeover o.a).heard z) None) first none)))
          by (found_none slots q counted none) = inr (inl (nothing_told f k (asking_of n story past run f o.a s k w c.writer slots p o.epoch c.at q counted) none))
          by (after_seal_of m l q next) =
              inr (inr (m, l, omega (arith, next), seal_done n story past run f (all_good n story past run f) s o.a m l w c.writer p o.epoch c.at q))

  pub start_cause : (old : List Entry) (e : Entry) (f k : ℕ) → Earlier (e ∷ old) past → IsStart e f k
      → ((k ≡ 1) × NoneToldNewest n past f) ⊎ (NoneToldPrepare n past f k ⊎ ((first : ℕ) × (last : ℕ) × (last + 1 ≡ k) × IsFinalised n past f first last))
  start_cause old e f k p is = opening_cause f k (opening n story past run old e f k p is)
