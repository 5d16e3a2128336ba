-- What a node knows to be committed is chosen, so each edit that it serves is on the line.
use Rattle.std.proofs.Common.{◌≡◌, ℕ, zero, suc, ◌+◌, ◌-◌, ◌<◌, ◌≤◌, max, ◌⊎◌, ◌==◌, true, List, [], ◌∷◌, ◌++◌, length, take, map, Option, Some, None}
use Rattle.std.proofs.Common.{refl, inl, inr, arith, sym, ap, ◌∙◌, nat_lt, if◌then◌else◌}
use Rattle.std.specs.Prelude.{slice_get}
use Rattle.std.proofs.lemmas.Bool.{cond_both, cases_lt, cases_Bool, cases_eq, eqb-true, cond-true, cond-false}
use Rattle.journal_core.specs.Effects.{Effect, Promise, WriterEpoch, Commit, NewSegment, Append, Replace, MakeFinal as SealIt, Remove, after_effect, after_effects}
use Rattle.journal_core.specs.Limits.{head_of}
use Rattle.journal_core.specs.Reads.{served, served_open}
use Rattle.journal_core.specs.Segments.{find_segment, HasAt, end_of}
use Rattle.journal_core.specs.Step.{node_step, effects_of, row_effects, fronted, front_known, front_effects, is_final_one, may_go, refused_at_once}
use Rattle.journal_core.specs.Views.{HeadView}
use Rattle.journal_core.specs.declared.node_state.NodeState.{NodeState}
use Rattle.journal_core.specs.declared.request.Request.{Request}
use Rattle.journal_core.specs.declared.request.Request.TheVariants.{State, NewEpoch, Start, Journal, Finalize, Prepare, Fetch, Accept, Purge, Read, Manifest}
use Rattle.journal_core.specs.declared.segment.Segment.{Segment}
use Rattle.std.specs.List.{filter}
use Rattle.std.proofs.lemmas.List.{take_all}
use Rattle.journal_history.specs.Entries.{Entry, Move, Answer, Stop, Kill, Restart, after_move, node_after, Earlier, now, before}
use Rattle.run_safety.specs.Run.{Story, Follows}
use Rattle.run_safety.specs.Safe.{IsChosen, IsOnLine, IsOf}
use Rattle.run_safety.proofs.SeenLaws.{Round, Propose, Ask, Get, Other, Recover, Finalizing, Open, Write, Clean, asked}
use Rattle.run_safety.proofs.Places.{Earlier-trans}
use Rattle.journal_core.proofs.Steps.{Acted, at_once, by_row, done, acted, none≢some}
use Rattle.run_safety.proofs.SoundNodes.{promise_moved, led_after}
use Rattle.run_safety.proofs.Along.{Requested, node_here, node_elsewhere}
use Rattle.run_safety.proofs.Slots.{some_same}
use Rattle.run_safety.proofs.Sent.{OfRound, round_within, to}
use Rattle.run_safety.proofs.Values.{Wrote, wrote_once, get_within}
use Rattle.run_safety.proofs.Shapes.{Shape, by_recovery, by_opening, shaped, Maj}
use Rattle.run_safety.proofs.Epochs.{Fin, held_wrote, wrote_above, recovery_has, maj_wrote}
use Rattle.run_safety.proofs.Finals.{Sealed, sealed}
use Rattle.run_safety.proofs.ToldLaws.{final_fin, has_chosen}
use Rattle.run_safety.proofs.Between.{head_promise}
use Rattle.run_safety.proofs.Induction.{good}
use Rattle.run_safety.proofs.Safety.{on_line, maj_chosen}
use Rattle.run_safety.proofs.Committed.{UpTo, UpTo-more, head_upto}

known_after : (s : NodeState) (es : List Effect) → (after_effects s es).known ≡ s.known
unfolding after_effects
known_after s [] = refl
known_after s (e ∷ es) = known_after (after_effect s e) es

-- each commit has the property
abbrev CommitsOnly : (ℕ → Type 0) → List Effect → Type 0
CommitsOnly P [] = Unit {0}
CommitsOnly P (Commit t ∷ es) = P t × CommitsOnly P es
CommitsOnly P (Promise e ∷ es) = CommitsOnly P es
CommitsOnly P (WriterEpoch e ∷ es) = CommitsOnly P es
CommitsOnly P (NewSegment m e ∷ es) = CommitsOnly P es
CommitsOnly P (Append m b ∷ es) = CommitsOnly P es
CommitsOnly P (Replace e b ∷ es) = CommitsOnly P es
CommitsOnly P (SealIt m ∷ es) = CommitsOnly P es
CommitsOnly P (Remove m ∷ es) = CommitsOnly P es

commits_kept : (P : ℕ → Type 0) (k : ℕ) (s : NodeState) (es : List Effect) → P s.committed → CommitsOnly P es → P (after_effects s (take k es)).committed
unfolding after_effects
commits_kept P zero s es p c = p
commits_kept P (suc k) s [] p c = p
commits_kept P (suc k) s (Commit t ∷ es) p c = commits_kept P k (after_effect s (Commit t)) es c.0 c.1
commits_kept P (suc k) s (Promise e ∷ es) p c = commits_kept P k (after_effect s (Promise e)) es p c
commits_kept P (suc k) s (WriterEpoch e ∷ es) p c = commits_kept P k (after_effect s (WriterEpoch e)) es p c
commits_kept P (suc k) s (NewSegment m e ∷ es) p c = commits_kept P k (after_effect s (NewSegment m e)) es p c
commits_kept P (suc k) s (Append m b ∷ es) p c = commits_kept P k (after_effect s (Append m b)) es p c
commits_kept P (suc k) s (Replace e b ∷ es) p c = commits_kept P k (after_effect s (Replace e b)) es p c
commits_kept P (suc k) s (SealIt m ∷ es) p c = commits_kept P k (after_effect s (SealIt m)) es p c
commits_kept P (suc k) s (Remove m ∷ es) p c = commits_kept P k (after_effect s (Remove m)) es p c

commits_append : (P : ℕ → Type 0) (xs ys : List Effect) → CommitsOnly P xs → CommitsOnly P ys → CommitsOnly P (xs ++ ys)
commits_append P [] ys a b = b
commits_append P (Commit t ∷ xs) ys a b = (a.0, commits_append P xs ys a.1 b)
commits_append P (Promise e ∷ xs) ys a b = commits_append P xs ys a b
commits_append P (WriterEpoch e ∷ xs) ys a b = commits_append P xs ys a b
commits_append P (NewSegment m e ∷ xs) ys a b = commits_append P xs ys a b
commits_append P (Append m c ∷ xs) ys a b = commits_append P xs ys a b
commits_append P (Replace e c ∷ xs) ys a b = commits_append P xs ys a b
commits_append P (SealIt m ∷ xs) ys a b = commits_append P xs ys a b
commits_append P (Remove m ∷ xs) ys a b = commits_append P xs ys a b

commits_map : (P : ℕ → Type 0) (gs : List Segment) → CommitsOnly P (map (λ g. Remove g.start) gs)
commits_map P [] = tt
commits_map P (g ∷ gs) = commits_map P gs

commits_rows : (P : ℕ → Type 0) (s : NodeState) (r : Request) → P s.known → CommitsOnly P (row_effects s r)
commits_rows P s State p = tt
commits_rows P s (NewEpoch e) p = tt
commits_rows P s (Start h m) p = commits_append P (if s.writer == h.epoch then [] else WriterEpoch h.epoch ∷ []) (NewSegment m h.epoch ∷ [])
    (cond_both (s.writer == h.epoch) [] (WriterEpoch h.epoch ∷ []) (λ es. CommitsOnly P es) (λ e. tt) (λ e. tt)) tt
commits_rows P s (Journal h m b) p = tt
commits_rows P s (Finalize h m l) p = commits_append P (if is_final_one (find_segment m s.segments) then [] else SealIt m ∷ []) (if nat_lt s.committed s.known then Commit s.known ∷ [] else [])
    (cond_both (is_final_one (find_segment m s.segments)) [] (SealIt m ∷ []) (λ es. CommitsOnly P es) (λ e. tt) (λ e. tt))
    (cond_both (nat_lt s.committed s.known) (Commit s.known ∷ []) [] (λ es. CommitsOnly P es) (λ e. (p, tt)) (λ e. tt))
commits_rows P s (Prepare h m) p = tt
commits_rows P s (Fetch h m from) p = tt
commits_rows P s (Accept h b) p = cond_both (is_final_one (find_segment b.first s.segments)) [] (Replace h.epoch b ∷ []) (λ es. CommitsOnly P es) (λ e. tt) (λ e. tt)
commits_rows P s (Purge h l) p = commits_map P (filter (may_go s h.committed l) s.segments)
commits_rows P s (Read f) p = tt
commits_rows P s Manifest p = tt

commits_front : (P : ℕ → Type 0) (s : NodeState) (o : Option HeadView) → CommitsOnly P (front_effects s o)
commits_front P s None = tt
commits_front P s (Some h) = cond_both (nat_lt s.promised h.epoch) (Promise h.epoch ∷ []) [] (λ es. CommitsOnly P es) (λ e. tt) (λ e. tt)

-- the head of a request of a round
pub head_round : (e s c : ℕ) (r : Round) (q : Request) (h : HeadView) → q ≡ asked e s c r → head_of q ≡ Some h → (h.epoch ≡ e) × (h.committed ≡ c)
head_round e s c Propose q h is at = none≢some h (sym (ap head_of is) ∙ at)
head_round e s c (Ask m) q h is at = let one = some_same (sym at ∙ ap head_of is) in (ap (λ z. z.epoch) one, ap (λ z. z.committed) one)
head_round e s c (Get i m l bodies) q h is at = let one = some_same (sym at ∙ ap head_of is) in (ap (λ z. z.epoch) one, ap (λ z. z.committed) one)
head_round e s c Other q h is at = none≢some h (sym (ap head_of is) ∙ at)
head_round e s c (Recover b) q h is at = let one = some_same (sym at ∙ ap head_of is) in (ap (λ z. z.epoch) one, ap (λ z. z.committed) one)
head_round e s c (Finalizing m l) q h is at = let one = some_same (sym at ∙ ap head_of is) in (ap (λ z. z.epoch) one, ap (λ z. z.committed) one)
head_round e s c (Open m) q h is at = let one = some_same (sym at ∙ ap head_of is) in (ap (λ z. z.epoch) one, ap (λ z. z.committed) one)
head_round e s c (Write m b) q h is at = let one = some_same (sym at ∙ ap head_of is) in (ap (λ z. z.epoch) one, ap (λ z. z.committed) one)
head_round e s c (Clean l) q h is at = let one = some_same (sym at ∙ ap head_of is) in (ap (λ z. z.epoch) one, ap (λ z. z.committed) one)

module _ (n : ℕ) (story : Story) (past : List Entry) (run : Follows n story past) where
  abbrev Up : ℕ → ℕ → Type 0
  Up e c = UpTo n story past run e c

  up_max : (e a b : ℕ) → Up e a → Up e b → Up e (max a b)
  up_max e a b x y = λ u one up. elim (cases_lt a u) [ inr le ↦ x u one le | inl lt ↦ y u one (omega arith) ]

  abbrev pub Knows : NodeState → Type 0
  Knows s = Up s.promised s.known × Up s.promised s.committed

  -- the known txid after the front of a request that passed
  front_up : (s : NodeState) (p : ℕ) (r : Request) (o : Option HeadView) → head_of r ≡ o → ((h : HeadView) → head_of r ≡ Some h → Up p h.committed) → Up p s.known → Up p (fronted s r).known
  front_up s p r None is each k = to (λ z. Up p (front_known s.known z)) (sym is) k
  front_up s p r (Some h) is each k = to (λ z. Up p (front_known s.known z)) (sym is) (up_max p s.known h.committed k (each h is))

  answer_up : (s : NodeState) (r : Request) → Knows s → s.promised ≤ (node_step s r).state.promised
      → ((h : HeadView) → head_of r ≡ Some h → refused_at_once s r ≡ None → Up (node_step s r).state.promised h.committed) → Acted s r
      → Knows (node_step s r).state
  answer_up s r k le each (at_once x a e f) = rw e k
  answer_up s r k le each (by_row x a b e f) =
      let p : ℕ = (node_step s r).state.promised in
      let v : Up p (fronted s r).known = front_up s p r (head_of r) refl (λ h is. each h is a) (UpTo-more n story past run s.promised p s.known le k.0) in
      (to (λ z. Up p z) (sym (ap (λ z. z.state.known) e)) v, to (λ z. Up p z) (sym (ap (λ z. z.state.committed) e)) (UpTo-more n story past run s.promised p s.committed le k.1))
  answer_up s r k le each (done a b e f) =
      let p : ℕ = (node_step s r).state.promised in
      let v : Up p (fronted s r).known = front_up s p r (head_of r) refl (λ h is. each h is a) (UpTo-more n story past run s.promised p s.known le k.0) in
      let rows = row_effects (fronted s r) r in
      let c : Up p (after_effects (fronted s r) (take (length rows) rows)).committed =
      commits_kept (λ z. Up p z) (length rows) (fronted s r) rows (UpTo-more n story past run s.promised p s.committed le k.1)
      (commits_rows (λ z. Up p z) (fronted s r) r v) in (
        to (λ z. Up p z) (sym (ap (λ z. z.state.known) e ∙ known_after (fronted s r) rows)) v,
        to (λ z. Up p z) (ap (λ es. (after_effects (fronted s r) es).committed) (take_all (length rows) rows (omega arith)) ∙ sym (ap (λ z. z.state.committed) e)) c,
      )

  stop_up : (s : NodeState) (r : Request) (k p : ℕ) → Up p s.known → Up p s.committed
      → ((h : HeadView) → head_of r ≡ Some h → refused_at_once s r ≡ None → Up p h.committed) → Acted s r
      → Up p (after_effects s (take k (effects_of s r))).committed
  stop_up s r k p a b each (at_once x c e f) = rw f (commits_kept (λ z. Up p z) k s [] b tt)
  stop_up s r k p a b each (by_row x c d e f) = rw f (commits_kept (λ z. Up p z) k s (front_effects s (head_of r)) b (commits_front (λ z. Up p z) s (head_of r)))
  stop_up s r k p a b each (done c d e f) = rw f (commits_kept (λ z. Up p z) k s (front_effects s (head_of r) ++ row_effects (fronted s r) r) b
      (commits_append (λ z. Up p z) (front_effects s (head_of r)) (row_effects (fronted s r) r) (commits_front (λ z. Up p z) s (head_of r))
      (commits_rows (λ z. Up p z) (fronted s r) r (front_up s p r (head_of r) refl (λ h is. each h is c) a))))

  -- the head of a request of the run, at a promise that it reached
  head_up : (e : Entry) (old : List Entry) → Earlier (e ∷ old) past → (r : Request) → Requested (node_after e.node old) e.move r → (h : HeadView)
      → head_of r ≡ Some h → refused_at_once (node_after e.node old) r ≡ None →
      Up (after_move (node_after e.node old) e.move).promised h.committed
  head_up e old p r q h is a =
      let z : OfRound n story past r = round_within n story past old e r run p q in
      let k = head_round (story.takeover z.a).epoch z.s z.w.committed z.w.round r h z.is is in
      let le : h.epoch ≤ (after_move (node_after e.node old) e.move).promised = head_promise (node_after e.node old) e.move r h q a is in
      to (λ c. Up (after_move (node_after e.node old) e.move).promised c) (sym k.1)
      (UpTo-more n story past run (story.takeover z.a).epoch (after_move (node_after e.node old) e.move).promised z.w.committed (omega (arith, k.0)) (head_upto n story past run z.a z.s z.w z.sent))

  nothing_done : (s : NodeState) (r : Request) (k : ℕ) → (effects_of s r ≡ []) ⊎ (k ≡ 0) → (after_effects s (take k (effects_of s r))).committed ≡ s.committed
  unfolding after_effects
  nothing_done s r k (inl e) = rw e (take_nothing k)
    where
      take_nothing : (j : ℕ) → (after_effects s (take j [])).committed ≡ s.committed
      take_nothing zero = refl
      take_nothing (suc j) = refl
  nothing_done s r k (inr z) = rw z refl

  knows_move : (e : Entry) (old : List Entry) → Earlier (e ∷ old) past → (m : Move) → e.move ≡ m → Knows (node_after e.node old) → Knows (after_move (node_after e.node old) m)
  knows_move e old p (Answer c w r y) is k = answer_up (node_after e.node old) r k (promise_moved (node_after e.node old) (Answer c w r y))
      (λ h at a. to (λ m. Up (after_move (node_after e.node old) m).promised h.committed) is (head_up e old p r (inl (c, w, y, is)) h at a)) (acted (node_after e.node old) r)
  knows_move e old p (Stop c w r j) is k = (committed_up, committed_up)
    where
      s : NodeState
      s = node_after e.node old

      rise : s.promised ≤ (after_move s (Stop c w r j)).promised
      rise = promise_moved s (Stop c w r j)

      own : Up (after_move s (Stop c w r j)).promised s.committed
      own = UpTo-more n story past run s.promised (after_move s (Stop c w r j)).promised s.committed rise k.1

      by : (es : List Effect) → effects_of s r ≡ es → (i : ℕ) → j ≡ i → Up (after_move s (Stop c w r j)).promised (after_effects s (take j (effects_of s r))).committed
      by [] none i at = to (λ z. Up (after_move s (Stop c w r j)).promised z) (sym (nothing_done s r j (inl none))) own
      by (x ∷ xs) some zero at = to (λ z. Up (after_move s (Stop c w r j)).promised z) (sym (nothing_done s r j (inr at))) own
      by (x ∷ xs) some (suc i) at = stop_up s r j (after_move s (Stop c w r j)).promised (UpTo-more n story past run s.promised (after_move s (Stop c w r j)).promised s.known rise k.0) own
          (λ h head a. to (λ m. Up (after_move s m).promised h.committed) is (head_up e old p r (inr (c, w, j, is, omega arith)) h head a)) (acted s r)

      committed_up : Up (after_move s (Stop c w r j)).promised (after_effects s (take j (effects_of s r))).committed
      committed_up = by (effects_of s r) refl j refl
  knows_move e old p Kill is k = (k.1, k.1)
  knows_move e old p Restart is k = (k.1, k.1)

  pub knows : (i : ℕ) (old : List Entry) → Earlier old past → Knows (node_after i old)
  unfolding node_after
  knows i [] p = (λ u a b. absurd (omega arith), λ u a b. absurd (omega arith))
  knows i (e ∷ old) p = elim (cases_eq e.node i) [
    | inr other ↦ to (λ s. Knows s) (sym (node_elsewhere i e old other)) (knows i old (Earlier-trans (before now) p))
    | inl is ↦ to (λ s. Knows s) (sym (node_here i e old is))
        (to (λ j. Knows (after_move (node_after j old) e.move)) is (knows_move e old p e.move refl (to (λ j. Knows (node_after j old)) (sym is) (knows i old (Earlier-trans (before now) p)))))
  ]

  -- ## What a node serves
  get_taken : {A : Type 0} (c k : ℕ) (xs : List A) (x : A) → slice_get (take c xs) k ≡ Some x → (k < c) × (slice_get xs k ≡ Some x)
  get_taken zero k xs x e = none≢some x e
  get_taken (suc c) k [] x e = none≢some x e
  get_taken (suc c) zero (y ∷ ys) x e = (omega arith, e)
  get_taken (suc c) (suc k) (y ∷ ys) x e = let r = get_taken c k ys x e in (omega (arith, r.0), r.1)

  open_served : (i : ℕ) (g : Segment) (k : ℕ) (x : List ℕ) → find_segment g.start (node_after i past).segments ≡ Some g
      → (node_after i past).opened ≡ Some g.start → g.start + k ≤ (node_after i past).known → slice_get g.bodies k ≡ Some x
      → IsOnLine n past (g.start + k) x
  open_served i g k x is opened le has = elim (cases_lt c.0 g.epoch) [
    | inl less ↦ lower less (shaped n story past run i g.start g is).shape
    | inr ge ↦ (let eq : c.0 ≡ g.epoch = omega (arith, c.3, header) in
        let once = wrote_once n story past g.epoch c.1 g.start (g.start + k) c.2 x run
        (to (λ z. Wrote n story past z c.1 (g.start + k) c.2) eq (maj_wrote n story past run c.0 c.1 (g.start + k) c.2 c.4)) own in
        to (λ z. IsOnLine n past (g.start + k) z) once.1 (on_line n story past run c.0 c.1 (g.start + k) c.2 c.4))
  ]
    where
      own : Wrote n story past g.epoch g.start (g.start + k) x
      own = held_wrote n story past run i g.epoch g.start (g.start + k) x (record { old = past; within = now; segment = g; found = is; header = refl; has = (k, refl, has) })

      above : (1 ≤ g.start) × (g.start ≤ g.start + k)
      above = wrote_above n story past run g.epoch g.start (g.start + k) x own

      header : g.epoch ≡ (node_after i past).promised
      header = (let there = led_after i past g.start opened in let one : there.0 ≡ g = some_same (sym there.1 ∙ is) in ap (λ z. z.epoch) (sym one) ∙ there.2)

      c : (f : ℕ) × (m : ℕ) × (b : List ℕ) × (f ≤ (node_after i past).promised) × Maj n past f m (g.start + k) b
      c = (knows i past now).0 (g.start + k) (omega (arith, above.0)) le

      lower : c.0 < g.epoch → Shape n story past g.start g.epoch g.bodies → IsOnLine n past (g.start + k) x
      lower less (by_opening o) = absurd (let h : g.start + k < g.start = (good n story past run g.epoch).opened g.start o c.0 c.1 (g.start + k) c.2 less c.4 in omega arith)
      lower less (by_recovery b first r bodies) = elim ((good n story past run g.epoch).recovered b r c.0 c.1 (g.start + k) c.2 less c.4) [
        | inl h ↦ absurd (omega (arith, first))
        | inr h ↦ (let v = recovery_has n story past run g.epoch g.start (g.start + k) b x r first own in
            let index : h.1.0 ≡ v.0 = omega (arith, h.1.1, v.1) in
            let same_body : c.2 ≡ x = some_same (sym h.1.2 ∙ (ap (λ z. slice_get b.bodies z) index ∙ v.2)) in
            to (λ z. IsOnLine n past (g.start + k) z) same_body (on_line n story past run c.0 c.1 (g.start + k) c.2 c.4))
      ]

  final_served : (i : ℕ) (g : Segment) (k : ℕ) (x : List ℕ) → find_segment g.start (node_after i past).segments ≡ Some g → g.is_final ≡ true
      → slice_get g.bodies k ≡ Some x → IsOnLine n past (g.start + k) x
  final_served i g k x is final has =
      let fin : Fin n story past run g.epoch g.start (end_of g) = final_fin n story past run i g.start past g now is final in
      let s : Sealed n story past run g.epoch g.start (end_of g) = sealed n story past run g.epoch g.start (end_of g) fin in
      let lt : k < length g.bodies = get_within g.bodies k x has in
      let y = s.all (g.start + k) (omega arith) (omega arith) in
      let h : HasAt g (g.start + k) y.0 = has_chosen n story past run (suc g.epoch) i s.epoch g.start (g.start + k) y.0 past g
      (λ f b. good n story past run f) (omega (arith, s.le)) (omega arith) now is (inl final) y.1 in
      let index : h.0 ≡ k = omega (arith, h.1) in
      let same_body : y.0 ≡ x = some_same (sym h.2 ∙ (ap (λ z. slice_get g.bodies z) index ∙ has)) in
      to (λ z. IsOnLine n past (g.start + k) z) same_body (on_line n story past run s.epoch g.start (g.start + k) y.0 y.1)

  -- each edit that a node serves is on the line
  pub served_on_line : (i : ℕ) (g : Segment) (k : ℕ) (x : List ℕ) → find_segment g.start (node_after i past).segments ≡ Some g
      → slice_get (served (node_after i past) g) k ≡ Some x → IsOnLine n past (g.start + k) x
  served_on_line i g k x is has = elim (cases_Bool g.is_final) [
    | inl t ↦ final_served i g k x is t (to (λ z. slice_get z k ≡ Some x) (cond-true g.is_final g.bodies (served_open (node_after i past) g (node_after i past).opened) t) has)
    | inr f ↦ by_open (node_after i past).opened refl (to (λ z. slice_get z k ≡ Some x) (cond-false g.is_final g.bodies (served_open (node_after i past) g (node_after i past).opened) f) has)
  ]
    where
      by_open : (o : Option ℕ) → (node_after i past).opened ≡ o → slice_get (served_open (node_after i past) g o) k ≡ Some x → IsOnLine n past (g.start + k) x
      by_open None at e = none≢some x e
      by_open (Some m) at e = cond_both (g.start == m) (take (((node_after i past).known + 1) - g.start) g.bodies) [] (λ zs. slice_get zs k ≡ Some x → IsOnLine n past (g.start + k) x)
          (λ t v. (let same : g.start ≡ m = eqb-true g.start m t in let r = get_taken (((node_after i past).known + 1) - g.start) k g.bodies x v in
          open_served i g k x is (at ∙ ap (λ z. Some z) (sym same)) (omega (arith, r.0)) r.1))
          (λ f v. none≢some x v) e

  -- ## What is known to be committed is on the line
  up_line : (e c t : ℕ) → Up e c → 1 ≤ t → t ≤ c → (body : List ℕ) × IsOnLine n past t body
  up_line e c t up one le = (let y = up t one le in (y.2, on_line n story past run y.0 y.1 t y.2 y.4))

  pub known_on_line : (i t : ℕ) → 1 ≤ t → t ≤ (node_after i past).known → (body : List ℕ) × IsOnLine n past t body
  known_on_line i t one le = up_line (node_after i past).promised (node_after i past).known t (knows i past now).0 one le

  pub carried_on_line : (old : List Entry) (e : Entry) (r : Request) (h : HeadView) (t : ℕ) → Earlier (e ∷ old) past → IsOf e r → head_of r ≡ Some h
      → 1 ≤ t → t ≤ h.committed → (body : List ℕ) × IsOnLine n past t body
  carried_on_line old e r h t p q is one le =
      let z : OfRound n story past r = round_within n story past old e r run p q in
      let k = head_round (story.takeover z.a).epoch z.s z.w.committed z.w.round r h z.is is in
      up_line (story.takeover z.a).epoch z.w.committed t (head_upto n story past run z.a z.s z.w z.sent) one (omega (arith, k.1))

  -- ## and chosen, under epochs that are not above the promise, or the request's
  up_chosen : (e c t : ℕ) → Up e c → 1 ≤ t → t ≤ c → (f : ℕ) × (body : List ℕ) × (f ≤ e) × IsChosen n past f t body
  up_chosen e c t up one le = (let y = up t one le in (y.0, y.2, y.3, maj_chosen n story past run y.0 y.1 t y.2 y.4))

  pub known_chosen : (i t : ℕ) → 1 ≤ t → t ≤ (node_after i past).known → (f : ℕ) × (body : List ℕ) × (f ≤ (node_after i past).promised) × IsChosen n past f t body
  known_chosen i t one le = up_chosen (node_after i past).promised (node_after i past).known t (knows i past now).0 one le

  pub carried_chosen : (old : List Entry) (e : Entry) (r : Request) (h : HeadView) (t : ℕ) → Earlier (e ∷ old) past → IsOf e r → head_of r ≡ Some h
      → 1 ≤ t → t ≤ h.committed → (f : ℕ) × (body : List ℕ) × (f ≤ h.epoch) × IsChosen n past f t body
  carried_chosen old e r h t p q is one le =
      let z : OfRound n story past r = round_within n story past old e r run p q in
      let k = head_round (story.takeover z.a).epoch z.s z.w.committed z.w.round r h z.is is in
      let y = up_chosen (story.takeover z.a).epoch z.w.committed t (head_upto n story past run z.a z.s z.w z.sent) one (omega (arith, k.1)) in
      (y.0, y.1, omega (arith, y.2, k.0), y.3)
