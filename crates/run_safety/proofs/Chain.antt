-- Between the start of a segment for which a finalise was done and its end no other segment begins.
use Rattle.std.proofs.Common.{◌≡◌, ℕ, suc, ◌<◌, ◌≤◌, max, ◌⊎◌, List, length, Some, refl, inl, inr, arith, sym, ◌∙◌}
use Rattle.std.specs.Prelude.{slice_get}
use Rattle.std.proofs.lemmas.Bool.{cases_lt, cases_order}
use Rattle.journal_core.specs.Segments.{HasAt}
use Rattle.journal_core.specs.declared.request.Request.TheVariants.{Finalize}
use Rattle.journal_core.specs.declared.reply.Reply.TheVariants.{Ok}
use Rattle.journal_core.specs.declared.segment.Segment.{Segment}
use Rattle.run_safety.specs.Majority.{Member}
use Rattle.journal_history.specs.Entries.{Heard, Entry}
use Rattle.run_safety.specs.Run.{Story, Follows}
use Rattle.run_safety.specs.Safe.{IsHeld, SaidOk}
use Rattle.run_safety.specs.Parts.{IsFinalised}
use Rattle.run_safety.proofs.Majorities.{majorities_share}
use Rattle.run_safety.proofs.Sent.{OfRound, round_within, to}
use Rattle.run_safety.proofs.Values.{Wrote, finalize_round, wrote_once, get_within, get_there}
use Rattle.run_safety.proofs.Shapes.{Maj}
use Rattle.run_safety.proofs.Epochs.{Fin, After, WroteBy, in_recovery, in_opened, held_wrote, wrote_by_round, maj_wrote}
use Rattle.run_safety.proofs.Finals.{Sealed, sealed}
use Rattle.run_safety.proofs.ToldLaws.{fin_le, fin_once}
use Rattle.run_safety.proofs.Induction.{good}
use Rattle.run_safety.proofs.Safety.{all_good, chosen_once, start_after}

module _ (n : ℕ) (story : Story) (past : List Entry) (run : Follows n story past) where
  -- a finalise that was done was sent
  finalised_sent : (e m l : ℕ) → IsFinalised n past e m l → Fin n story past run e m l
  finalised_sent e m l f = by (f.2.2 some.0 some.1)
    where
      some : (i : ℕ) × Member i f.2.0 × Member i f.2.0
      some = majorities_share n f.2.0 f.2.0 f.2.1 f.2.1

      by : SaidOk past some.0 (Finalize f.0 m l) → Fin n story past run e m l
      by s =
          (let z : OfRound n story past (Finalize f.0 m l) = round_within n story past s.0 s.1 (Finalize f.0 m l) run s.2 (inl (s.4.0, Heard, Ok, s.4.1)) in
          let r = finalize_round (story.takeover z.a).epoch z.s z.w.committed z.w.round f.0 m l z.is in
          record { a = z.a; s = z.s; w = z.w; sent = z.sent; epoch = sym r.1 ∙ f.1; is = r.0 })

  -- the first txid of a segment that was begun among txids that another one's finalise covers
  between : (e m l f k : ℕ) (body : List ℕ) → Fin n story past run e m l → Wrote n story past f k k body → m < k → k ≤ l → ⊥
  between e m l f k body fin w above below = elim (cases_order f s.epoch) [
    | inl same ↦ (let x : Wrote n story past s.epoch k k body = to (λ z. Wrote n story past z k k body) same w in
        absurd (let starts : m ≡ k = (wrote_once n story past s.epoch m k k here.0 body run (maj_wrote n story past run s.epoch m k here.0 here.1) x).0 in omega (arith, starts, above)))
    | inr other ↦ elim other [
      | inl lower ↦ by_chain lower (start_after n story past run f k k body w)
      | inr higher ↦ by_writing higher (wrote_by_round n story past run f k k body w)
    ]
  ]
    where
      s : Sealed n story past run e m l
      s = sealed n story past run e m l fin

      here : (b : List ℕ) × Maj n past s.epoch m k b
      here = s.all k (omega (arith, above)) below

      one : 1 ≤ m
      one = (fin_le n story past run e m l fin).0

      by_writing : s.epoch < f → WroteBy n story past run f k k body → ⊥
      by_writing higher (in_opened o) = (let less : k < k = (good n story past run f).opened k o s.epoch m k here.0 higher here.1 in omega (arith, less))
      by_writing higher (in_recovery b first r has) = elim ((good n story past run f).recovered b r s.epoch m k here.0 higher here.1) [
        | inl less ↦ omega (arith, less, first)
        | inr at_m ↦ omega (arith, at_m.0, first, above)
      ]

      by_chain : f < s.epoch → After n story past run f k → ⊥
      by_chain lower (inl first) = omega (arith, first, above, one)
      by_chain lower (inr c) =
          (let t : Sealed n story past run c.0 c.1 c.2 = sealed n story past run c.0 c.1 c.2 c.4 in
          let y = t.all c.2 (fin_le n story past run c.0 c.1 c.2 c.4).1 (omega arith) in
          let z = s.all c.2 (omega (arith, c.5, above)) (omega (arith, c.5, below)) in
          let starts : c.1 ≡ m = (chosen_once n story past run t.epoch s.epoch c.1 m c.2 y.0 z.0 y.1 z.1).0 in
          let g : ℕ = suc (max c.0 e) in
          let ends : c.2 ≡ l = fin_once n story past run g c.0 e m c.2 l (all_good n story past run g) (omega arith) (omega arith) (to (λ q. Fin n story past run c.0 q c.2) starts c.4) fin in
          omega (arith, c.5, ends, below))

  pub starts_next : (e m l i : ℕ) (g : Segment) (t : ℕ) (x : List ℕ) → IsFinalised n past e m l → IsHeld past i g → HasAt g t x → (g.start ≤ m) ⊎ (l < g.start)
  starts_next e m l i g t x f held has = elim (cases_lt m g.start) [
    | inr le ↦ inl le
    | inl above ↦ elim (cases_lt l g.start) [
      | inl after ↦ inr after
      | inr within ↦ absurd (between e m l g.epoch g.start first.0 (finalised_sent e m l f)
          (held_wrote n story past run i g.epoch g.start g.start first.0
          (record { old = held.0; within = held.1; segment = g; found = held.2; header = refl; has = (0, omega arith, first.1) })) above within)
    ]
  ]
    where
      long : has.0 < length g.bodies
      long = get_within g.bodies has.0 x has.2

      first : (b : List ℕ) × (slice_get g.bodies 0 ≡ Some b)
      first = get_there g.bodies 0 (omega (arith, long))
