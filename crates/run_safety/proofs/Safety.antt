-- Acknowledged edits and final segments, from what every epoch keeps.
use Rattle.std.proofs.Common.{◌≡◌, ℕ, zero, suc, ◌+◌, ◌<◌, ◌≤◌, max, true, List, [], ◌∷◌, length, reverse, Some, refl, inl, inr, arith, sym, ap, ◌∙◌}
use Rattle.std.specs.Prelude.{slice_get}
use Rattle.std.proofs.lemmas.Bool.{cases_lt, cases_order}
use Rattle.journal_core.specs.Segments.{find_segment, end_of, HasAt}
use Rattle.journal_core.specs.Step.{node_step}
use Rattle.journal_core.specs.declared.reply.Reply.TheVariants.{Ok}
use Rattle.journal_core.specs.declared.request.Request.{Request}
use Rattle.journal_core.specs.declared.request.Request.TheVariants.{Start, Journal}
use Rattle.journal_core.specs.declared.segment.Segment.{Segment}
use Rattle.run_safety.specs.Majority.{Member}
use Rattle.journal_history.specs.Entries.{Entry, after_move, node_after, Earlier}
use Rattle.run_safety.specs.Run.{Story, Follows, IsNextEntry, IsNext, IsRun}
use Rattle.run_safety.specs.Safe.{IsHeld, IsChosen, IsOnLine, IsAcknowledged, Reaches, there, segment, AcknowledgedSurvive, FinalisedAgree, IsSafe}
use Rattle.run_safety.proofs.Places.{Earlier-trans, Earlier-tail, next_of}
use Rattle.run_safety.proofs.Majorities.{majorities_share}
use Rattle.journal_core.proofs.SegmentLists.{find-start}
use Rattle.run_safety.proofs.SoundNodes.{led_after}
use Rattle.run_safety.proofs.Along.{node_here}
use Rattle.run_safety.proofs.Slots.{some_same}
use Rattle.run_safety.proofs.Sent.{OfRound, round_within, to}
use Rattle.run_safety.proofs.Values.{Wrote, wrote_once, start_round, get_within, get_append_left}
use Rattle.run_safety.proofs.Oks.{passed, JournalHeld, journal_held, get_append_right}
use Rattle.run_safety.proofs.Shapes.{HeldAt, Maj}
use Rattle.run_safety.proofs.Epochs.{Fin, Opn, After, AllGood, WroteBy, in_recovery, in_opened, wrote_by_round, maj_wrote, held_wrote, wrote_above, has_place}
use Rattle.run_safety.proofs.Finals.{Sealed, sealed}
use Rattle.run_safety.proofs.ToldLaws.{has_chosen, final_fin, fin_once, fin_le}
use Rattle.run_safety.proofs.Induction.{good}

pub same_lists : {A : Type 0} (xs ys : List A) → length xs ≡ length ys → ((k : ℕ) → k < length xs → (y : A) × (slice_get xs k ≡ Some y) × (slice_get ys k ≡ Some y)) → xs ≡ ys
same_lists [] [] e each = refl
same_lists [] (y ∷ ys) e each = absurd (omega arith)
same_lists (x ∷ xs) [] e each = absurd (omega arith)
same_lists (x ∷ xs) (y ∷ ys) e each =
    let head = each 0 (omega arith) in
    let one : x ≡ y = some_same (head.1 ∙ sym head.2) in
    let rest : xs ≡ ys = same_lists xs ys (omega arith) (λ k lt. each (suc k) (omega arith)) in cc

pub body_at : (g : Segment) (m d : ℕ) (body : List ℕ) → g.start ≡ m → HasAt g (m + d) body → slice_get g.bodies d ≡ Some body
body_at g m d body start has = to (λ z. slice_get g.bodies z ≡ Some body) (let index : has.0 ≡ d = omega (arith, has.1) in index) has.2

module _ (n : ℕ) (story : Story) (past : List Entry) (run : Follows n story past) where
  pub all_good : (f : ℕ) → AllGood n story past run f
  all_good f = λ e lt. good n story past run e

  -- ## A body that is chosen at a txid is chosen once
  chosen_up : (e f m l t : ℕ) (x y : List ℕ) → e < f → Maj n past e m t x → Maj n past f l t y → (m ≡ l) × (x ≡ y)
  chosen_up e f m l t x y lt j k = go (wrote_by_round n story past run f l t y w)
    where
      w : Wrote n story past f l t y
      w = maj_wrote n story past run f l t y k

      above : (1 ≤ l) × (l ≤ t)
      above = wrote_above n story past run f l t y w

      go : WroteBy n story past run f l t y → (m ≡ l) × (x ≡ y)
      go (in_opened o) = (let h : t < l = (good n story past run f).opened l o e m t x lt j in absurd (omega (arith, above.1)))
      go (in_recovery b first r has) = elim ((good n story past run f).recovered b r e m t x lt j) [
        | inl h ↦ absurd (omega (arith, first, above.1))
        | inr h ↦ (let index : h.1.0 ≡ has.0 = omega (arith, h.1.1, has.1) in
            (sym h.0 ∙ first, some_same (sym h.1.2 ∙ (ap (λ z. slice_get b.bodies z) index ∙ has.2))))
      ]

  pub chosen_once : (e f m l t : ℕ) (x y : List ℕ) → Maj n past e m t x → Maj n past f l t y → (m ≡ l) × (x ≡ y)
  chosen_once e f m l t x y j k = elim (cases_order e f) [
    | inl same ↦ wrote_once n story past f m l t x y run (to (λ z. Wrote n story past z m t x) same (maj_wrote n story past run e m t x j)) (maj_wrote n story past run f l t y k)
    | inr other ↦ elim other [
      | inl lt ↦ chosen_up e f m l t x y lt j k
      | inr gt ↦ (let h = chosen_up f e l m t y x gt k j in (sym h.0, sym h.1))
    ]
  ]

  -- between the public definition and a majority of one start
  held_here : (i e t : ℕ) (x : List ℕ) → (h : (g : Segment) × IsHeld past i g × (g.epoch ≡ e) × HasAt g t x) → HeldAt past i e h.0.start t x
  held_here i e t x h = record { old = h.1.0; within = h.1.1; segment = h.0; found = h.1.2; header = h.2; has = h.3 }

  pub chosen_maj : (e t : ℕ) (x : List ℕ) → IsChosen n past e t x → (m : ℕ) × Maj n past e m t x
  chosen_maj e t x c =
      let i = majorities_share n c.0 c.0 c.1 c.1 in
      let one : Wrote n story past e (c.2 i.0 i.1).0.start t x = held_wrote n story past run i.0 e (c.2 i.0 i.1).0.start t x (held_here i.0 e t x (c.2 i.0 i.1)) in (
        (c.2 i.0 i.1).0.start,
        record {
          nodes = c.0;
          majority = c.1;
          each = λ k mem. (let own : Wrote n story past e (c.2 k mem).0.start t x = held_wrote n story past run k e (c.2 k mem).0.start t x (held_here k e t x (c.2 k mem)) in
              to (λ z. HeldAt past k e z t x) (wrote_once n story past e (c.2 k mem).0.start (c.2 i.0 i.1).0.start t x x run own one).0 (held_here k e t x (c.2 k mem)));
        },
      )

  pub maj_chosen : (e m t : ℕ) (x : List ℕ) → Maj n past e m t x → IsChosen n past e t x
  maj_chosen e m t x j = (
    j.nodes,
    j.majority,
    λ i mem.
        (let h : HeldAt past i e m t x = j.each i mem in
        let start : h.segment.start ≡ m = find-start m (node_after i h.old).segments h.segment h.found in
        (h.segment, (h.old, h.within, ap (λ z. find_segment z (node_after i h.old).segments) start ∙ h.found), h.header, h.has)),
  )

  -- ## All below a chosen txid is chosen
  pub within_segment : (e m t u : ℕ) (x : List ℕ) → Maj n past e m t x → m ≤ u → u ≤ t → (b : List ℕ) × Maj n past e m u b
  within_segment e m t u x j le up = (y.0, record { nodes = j.nodes; majority = j.majority; each = each })
    where
      held : (i : ℕ) → Member i j.nodes → (b : List ℕ) × HeldAt past i e m u b × Wrote n story past e m u b
      held i mem = (let h : HeldAt past i e m t x = j.each i mem in
          let start : h.segment.start ≡ m = find-start m (node_after i h.old).segments h.segment h.found in
          let lt : h.has.0 < length h.segment.bodies = get_within h.segment.bodies h.has.0 x h.has.2 in
          let b = has_place n story past run i m u h.old h.segment h.within h.found le (omega (arith, h.has.1)) in
          (b.0, record { old = h.old; within = h.within; segment = h.segment; found = h.found; header = h.header; has = b.1 }, to (λ z. Wrote n story past z m u b.0) h.header b.2))

      some : (i : ℕ) × Member i j.nodes × Member i j.nodes
      some = majorities_share n j.nodes j.nodes j.majority j.majority

      y : (b : List ℕ) × HeldAt past some.0 e m u b × Wrote n story past e m u b
      y = held some.0 some.1

      each : (i : ℕ) → Member i j.nodes → HeldAt past i e m u y.0
      each i mem = (let h = held i mem in to (λ z. HeldAt past i e m u z) (wrote_once n story past e m m u h.0 y.0 run h.2 y.2).1 h.1)

  pub start_after : (e m t : ℕ) (x : List ℕ) → Wrote n story past e m t x → After n story past run e m
  start_after e m t x w = go (wrote_by_round n story past run e m t x w)
    where
      go : WroteBy n story past run e m t x → After n story past run e m
      go (in_opened o) = (good n story past run e).opened_chain m o
      go (in_recovery b first r has) = to (λ z. After n story past run e z) first ((good n story past run e).recovered_chain b r)

  below_fuel : (fuel e m t u : ℕ) (x : List ℕ) → t < fuel → Maj n past e m t x → 1 ≤ u → u ≤ t → (f : ℕ) × (b : List ℕ) × IsChosen n past f u b
  below_fuel zero e m t u x lt j one up = absurd (omega arith)
  below_fuel (suc fuel) e m t u x lt j one up = elim (cases_lt u m) [
    | inr le ↦ (let b = within_segment e m t u x j le up in (e, b.0, maj_chosen e m u b.0 b.1))
    | inl under ↦ chain under (start_after e m t x w) (λ g k l y lt2 j2 up2. below_fuel fuel g k l u y lt2 j2 one up2)
  ]
    where
      w : Wrote n story past e m t x
      w = maj_wrote n story past run e m t x j

      above : (1 ≤ m) × (m ≤ t)
      above = wrote_above n story past run e m t x w

      chain : u < m → After n story past run e m → ((g k l : ℕ) (y : List ℕ) → l < fuel → Maj n past g k l y → u ≤ l
          → (f : ℕ) × (b : List ℕ) × IsChosen n past f u b) → (f : ℕ) × (b : List ℕ) × IsChosen n past f u b
      chain under (inl first) again = absurd (omega arith)
      chain under (inr c) again =
          (let s : Sealed n story past run c.0 c.1 c.2 = sealed n story past run c.0 c.1 c.2 c.4 in
          let y = s.all c.2 (fin_le n story past run c.0 c.1 c.2 c.4).1 (omega arith) in
          again s.epoch c.1 c.2 y.0 (omega (arith, c.5, above.1)) y.1 (omega (arith, c.5)))

  pub on_line : (e m t : ℕ) (x : List ℕ) → Maj n past e m t x → IsOnLine n past t x
  on_line e m t x j = record {
    from_one = (let a = wrote_above n story past run e m t x (maj_wrote n story past run e m t x j) in omega (arith, a.0, a.1));
    below = λ u one lt. below_fuel (suc t) e m t u x (omega arith) j one (omega arith);
    epoch = e;
    chosen = maj_chosen e m t x j;
    least = λ f b le c. (let k = chosen_maj f t b c in (chosen_once f e k.0 m t b x k.1 j).1);
  }

  -- ## What an acknowledged edit leaves
  acknowledged_maj : (e t : ℕ) (x : List ℕ) → IsAcknowledged n past e t x → (m : ℕ) × Maj n past e m t x
  acknowledged_maj e t x k = (k.1, record { nodes = k.5.0; majority = k.5.1; each = each })
    where
      each : (i : ℕ) → Member i k.5.0 → HeldAt past i e k.1 t x
      each i mem = (let c = k.5.2 i mem in
          let y : Entry = c.1 in
          let req : Request = Journal k.0 k.1 k.2 in
          let next : IsNextEntry n story c.0 y = next_of n story c.2 run in
          let said = to (λ z. IsNext n story c.0 y.node (node_after y.node c.0) z) c.4.1 next.is_next in
          let reply : (node_step (node_after i c.0) req).reply ≡ Ok = to (λ z. (node_step (node_after z c.0) req).reply ≡ Ok) c.3 said.1 in
          let h : JournalHeld (node_after i c.0) k.0 k.1 k.2 = journal_held (node_after i c.0) k.0 k.1 k.2 (led_after i c.0) (passed (node_after i c.0) req Ok reply tt) in
          record {
            old = y ∷ c.0;
            within = c.2;
            segment = h.held;
            found = ap (λ z. find_segment k.1 z.segments) (node_here i y c.0 c.3 ∙ ap (λ z. after_move (node_after i c.0) z) c.4.1) ∙ h.found;
            header = h.header ∙ k.3;
            has = to (λ z. HasAt h.held z x) (sym k.4.1) (h.has k.4.0 x k.4.2);
          })

  -- a final segment that covers a chosen txid has the chosen body
  final_has : (i e m t : ℕ) (x : List ℕ) (q : List Entry) (g : Segment) → Earlier q past → find_segment g.start (node_after i q).segments ≡ Some g
      → g.is_final ≡ true → g.start ≤ t → t < g.start + length g.bodies → Maj n past e m t x → HasAt g t x
  final_has i e m t x q g p is final le lt j =
      let fin : Fin n story past run g.epoch g.start (end_of g) = final_fin n story past run i g.start q g p is final in
      let s : Sealed n story past run g.epoch g.start (end_of g) = sealed n story past run g.epoch g.start (end_of g) fin in
      let y = s.all t le (omega arith) in
      let has : HasAt g t y.0 = has_chosen n story past run (suc g.epoch) i s.epoch g.start t y.0 q g (all_good (suc g.epoch)) (omega (arith, s.le)) (omega arith) p is (inl final) y.1 in
      to (λ z. HasAt g t z) (chosen_once s.epoch e g.start m t y.0 x y.1 j).1 has

  recovered_log : (old : List Entry) → Earlier old past → (e m t : ℕ) (x : List ℕ) → Maj n past e m t x → {kept first : ℕ} {log : List (List ℕ)}
      → Reaches n old kept first log → kept ≤ t → t < first → (k : ℕ) × (t ≡ kept + k) × (slice_get log k ≡ Some x)
  recovered_log old p e m t x j there le lt = absurd (omega arith)
  recovered_log old p e m t x j (segment {bodies = bodies} g lowest rest) le lt = elim (cases_lt t (g.start + length g.bodies)) [
    | inl here ↦ (let h = final_has lowest.0 e m t x old g p lowest.1.2 lowest.1.3 le here j in (h.0, h.1, get_append_left g.bodies bodies h.0 x h.2))
    | inr beyond ↦ (let h = recovered_log old p e m t x j rest beyond lt in (length g.bodies + h.0, omega (arith, h.1), get_append_right g.bodies bodies h.0 x h.2))
  ]

  pub acknowledged_survive : AcknowledgedSurvive n past
  acknowledged_survive e t x acked =
      let j = acknowledged_maj e t x acked in (
        on_line e j.0 t x j.1,
        λ f first kept log lt recovered.
            (let s = recovered.is_first in
            let z : OfRound n story past (Start s.2.0 first) = round_within n story past recovered.at_place s.0 (Start s.2.0 first) run s.1 s.2.2 in
            let r = start_round (story.takeover z.a).epoch z.s z.w.committed z.w.round s.2.0 first z.is in
            let opens : Opn n story past run f first = record { a = z.a; s = z.s; w = z.w; sent = z.sent; epoch = sym r.1 ∙ s.2.1; is = r.0 } in
            let below : t < first = (good n story past run f).opened first opens e j.0 t x lt j.1 in
            (below, λ le. recovered_log recovered.at_place (Earlier-tail s.1) e j.0 t x j.1 recovered.reaches le below)),
      )

  pub finalised_agree : FinalisedAgree past
  finalised_agree i k g h hg hh fg fh start =
      let pg : find_segment g.start (node_after i hg.0).segments ≡ Some g = hg.2 in
      let ph : find_segment g.start (node_after k hh.0).segments ≡ Some h = ap (λ z. find_segment z (node_after k hh.0).segments) start ∙ hh.2 in
      let a : Fin n story past run g.epoch g.start (end_of g) = final_fin n story past run i g.start hg.0 g hg.1 pg fg in
      let b : Fin n story past run h.epoch g.start (end_of h) = final_fin n story past run k g.start hh.0 h hh.1 ph fh in
      let f : ℕ = suc (max g.epoch h.epoch) in
      let ends : end_of g ≡ end_of h = fin_once n story past run f g.epoch h.epoch g.start (end_of g) (end_of h) (all_good f) (omega arith) (omega arith) a b in
      let lg = fin_le n story past run g.epoch g.start (end_of g) a in
      let s : Sealed n story past run g.epoch g.start (end_of g) = sealed n story past run g.epoch g.start (end_of g) a in
      same_lists g.bodies h.bodies (omega (arith, lg.0, lg.1))
      (λ d lt. both d s.epoch (omega (arith, s.le)) (s.all (g.start + d) (omega arith) (omega arith)))
    where
      both : (d e : ℕ) → e ≤ g.epoch → (y : (body : List ℕ) × Maj n past e g.start (g.start + d) body) → (body : List ℕ) × (slice_get g.bodies d ≡ Some body) × (slice_get h.bodies d ≡ Some body)
      both d e le y = (
        y.0,
        body_at g g.start d y.0 refl (has_chosen n story past run (suc (max g.epoch h.epoch)) i e g.start (g.start + d) y.0 hg.0 g
            (all_good (suc (max g.epoch h.epoch))) (omega arith) (omega arith) hg.1 hg.2 (inl fg) y.1),
        body_at h g.start d y.0 (sym start) (has_chosen n story past run (suc (max g.epoch h.epoch)) k e g.start (g.start + d) y.0 hh.0 h
            (all_good (suc (max g.epoch h.epoch))) (omega arith) (omega arith) hh.1
            (ap (λ z. find_segment z (node_after k hh.0).segments) start ∙ hh.2) (inl fh) y.1),
      )

  -- ## The line of what stood first begins the line of the whole
  chosen_later : {old : List Entry} (e t : ℕ) (x : List ℕ) → Earlier old past → IsChosen n old e t x → IsChosen n past e t x
  chosen_later e t x p c = (c.0, c.1, λ i mem. (let h = c.2 i mem in (h.0, (h.1.0, Earlier-trans h.1.1 p, h.1.2), h.2, h.3)))

  pub line_later : {old : List Entry} (t : ℕ) (x : List ℕ) → Earlier old past → IsOnLine n old t x → IsOnLine n past t x
  line_later t x p o = (let j = chosen_maj o.epoch t x (chosen_later o.epoch t x p o.chosen) in on_line o.epoch j.0 t x j.1)

  -- all bodies that are chosen at one txid agree
  pub chosen_agree : (e f t : ℕ) (x y : List ℕ) → IsChosen n past e t x → IsChosen n past f t y → x ≡ y
  chosen_agree e f t x y p q = (let j = chosen_maj e t x p in let k = chosen_maj f t y q in (chosen_once e f j.0 k.0 t x y j.1 k.1).1)

  -- and each is on the line
  pub chosen_on_line : (e t : ℕ) (x : List ℕ) → IsChosen n past e t x → IsOnLine n past t x
  chosen_on_line e t x c = (let j = chosen_maj e t x c in on_line e j.0 t x j.1)

-- so a run is safe
pub run_safe : (n : ℕ) (entries : List Entry) → IsRun n entries → IsSafe n entries
run_safe n entries run = record {
  acknowledged_survive = acknowledged_survive n run.0 (reverse entries) run.1;
  finalised_agree = finalised_agree n run.0 (reverse entries) run.1;
}
