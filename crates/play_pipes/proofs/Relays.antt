-- Each kind of step at a queue keeps its rule, and what its thread knows then.
use Rattle.std.proofs.Common.{◌≡◌, ◌≢◌, ℕ, zero, suc, Bool, true, false, true≢false, List, [], ◌∷◌, ◌++◌, length, set, sym, refl, ap, ◌∙◌, subst}
use Rattle.std.proofs.Common.{inl, inr, ◌⊎◌, ⊎_elim}
use Rattle.std.proofs.lemmas.List.{append_assoc}
use mathlib.Core.Option.{some, some-ne-none, some-injective}
use lib.ListN.{get_elem?}
use Rattle.crossbeam_queue.specs.Fifo.{Pushes, Pops, Forks, Merges, Learns}
use Rattle.crossbeam_queue.proofs.Lists.{at_set, at_snoc}
use Rattle.play_pipes.specs.declared.queue.Source.{Source}
use Rattle.play_pipes.specs.declared.queue.Log.{Log}
use Rattle.play_pipes.specs.Relay.{log, no_source, Begins, Knows, Sole, Stand, Relayed}

not_false : {b : Bool} → b ≡ false → b ≡ true → ⊥
not_false f t = true≢false (sym t ∙ f)

begins_more : {A : Type 0} (xs ys zs : List A) → Begins xs ys → Begins xs (ys ++ zs)
begins_more xs ys zs b = (b.0 ++ zs, sym (append_assoc xs b.0 zs) ∙ ap (λ l. l ++ zs) b.1)

-- the item at the place after these
item_after : {A : Type 0} (xs ys : List A) (x : A) → get_elem? (xs ++ x ∷ ys) (length xs) ≡ some x
item_after [] ys x = refl
item_after (y ∷ xs) ys x = item_after xs ys x

-- the place of an item that only the last may be
last_place : {A : Type 0} (xs : List A) (x : A) (j : ℕ) → (y : A) → get_elem? (xs ++ x ∷ []) j ≡ some y → (get_elem? xs j ≡ some y) ⊎ ((j ≡ length xs) × (x ≡ y))
last_place [] x zero y e = inr (refl, some-injective x y e)
last_place [] x (suc j) y e = absurd (some-ne-none y (sym e))
last_place (z ∷ xs) x zero y e = inl e
last_place (z ∷ xs) x (suc j) y e = ⊎_elim (λ h. inl h) (λ (h : (j ≡ length xs) × (x ≡ y)). inr (ap suc h.0, h.1)) (last_place xs x j y e)

module _ {T : Type 0} (stands : Source → ℕ → T → Type 0) where
  stand_more : (source : Source) (sent : List T) (x : T) → Stand stands source sent → stands source (length sent) x → Stand stands source (sent ++ x ∷ [])
  stand_more source sent x old new k y e =
      ⊎_elim (λ h. old k y h) (λ (h : (k ≡ length sent) × (x ≡ y)). subst (λ (p : ℕ × T). stands source p.0 p.1) (λ i. (sym h.0 i, h.1 i)) new) (last_place sent x k y e)

  -- ## Who may push, who may pop
  -- each pass that may now also might before
  abbrev Had : (Log T → Bool) → List (Log T) → List (Log T) → Type 0
  Had may old new = (j : ℕ) (u : Log T) → get_elem? new j ≡ some u → may u ≡ true → (w : Log T) × (get_elem? old j ≡ some w) × (may w ≡ true)

  sole_still : (may : Log T → Bool) (old new : List (Log T)) → Had may old new → Sole may old → Sole may new
  sole_still may old new had sole j k u v at at' m m' = let p = had j u at m in let q = had k v at' m' in sole j k p.0 q.0 p.1 q.1 p.2 q.2

  -- one view is another now
  had_set : (may : Log T → Bool) (views : List (Log T)) (port : ℕ) (v w : Log T) → get_elem? views port ≡ some v → (may w ≡ true → may v ≡ true) → Had may views (set views port w)
  had_set may views port v w at before j u e m =
      ⊎_elim
      (λ (x : (j ≡ port) × (w ≡ u)). (v, ap (get_elem? views) x.0 ∙ at, before (ap may x.1 ∙ m)))
      (λ (x : (j ≢ port) × (get_elem? views j ≡ some u)). (u, x.1, m)) (at_set views port j w u e)

  -- one pass more, which may not
  had_snoc : (may : Log T → Bool) (views : List (Log T)) (r : Log T) → may r ≡ false → Had may views (views ++ r ∷ [])
  had_snoc may views r never j u e m = ⊎_elim (λ h. (u, h, m)) (λ (h : r ≡ u). absurd (not_false never (ap may h ∙ m))) (at_snoc views r u j e)

  had_on : (may : Log T → Bool) (a b c : List (Log T)) → Had may a b → Had may b c → Had may a c
  had_on may a b c f g j u e m = let p = g j u e m in f j p.0 p.1 p.2

  -- whoever may is at this place
  abbrev Only : (Log T → Bool) → ℕ → List (Log T) → Type 0
  Only may place views = (j : ℕ) (u : Log T) → get_elem? views j ≡ some u → may u ≡ true → j ≡ place

  only_sole : (may : Log T → Bool) (place : ℕ) (views : List (Log T)) → Only may place views → Sole may views
  only_sole may place views only j k u v at at' m m' = only j u at m ∙ sym (only k v at' m')

  -- none may any more but this one, since the only one that might is another now
  none_after : (may : Log T → Bool) (views : List (Log T)) (port : ℕ) (v w : Log T) → Sole may views → get_elem? views port ≡ some v → may v ≡ true → may w ≡ false
      → (j : ℕ) (u : Log T) → get_elem? (set views port w) j ≡ some u → may u ≡ true → ⊥
  none_after may views port v w sole at mv never j u e m =
      ⊎_elim
      (λ (x : (j ≡ port) × (w ≡ u)). not_false never (ap may x.1 ∙ m))
      (λ (x : (j ≢ port) × (get_elem? views j ≡ some u)). x.0 (sole j port u v x.1 at m mv)) (at_set views port j w u e)

  abbrev pushes_of : Log T → Bool
  pushes_of v = v.pushes

  abbrev pops_of : Log T → Bool
  pops_of v = v.pops

  -- ## What each pass knows
  abbrev Each : (Log T → Type 0) → List (Log T) → Type 0
  Each P views = (j : ℕ) (u : Log T) → get_elem? views j ≡ some u → P u

  each_set : (P : Log T → Type 0) (views : List (Log T)) (port : ℕ) (w : Log T) → P w → ((j : ℕ) (u : Log T) → j ≢ port → get_elem? views j ≡ some u → P u) → Each P (set views port w)
  each_set P views port w mine others j u e =
      ⊎_elim (λ (x : (j ≡ port) × (w ≡ u)). subst P x.1 mine) (λ (x : (j ≢ port) × (get_elem? views j ≡ some u)). others j u x.0 x.1) (at_set views port j w u e)

  each_snoc : (P : Log T → Type 0) (views : List (Log T)) (r : Log T) → Each P views → P r → Each P (views ++ r ∷ [])
  each_snoc P views r old new j u e = ⊎_elim (λ h. old j u h) (λ (h : r ≡ u). subst P h new) (at_snoc views r u j e)

  -- a pass that may neither push nor pop
  idle_knows : (sent got : List T) (source : Source) (v : Log T) → v.pushes ≡ false → v.pops ≡ false → Begins v.known sent → Knows sent got source v
  idle_knows sent got source v a b known = record { pushes = λ p. absurd (not_false a p); pops = λ p. absurd (not_false b p); known = known }

  -- ## The steps
  pub rule_first : Relayed stands [] (log true true [] [] no_source [] ∷ [])
  rule_first =
      let v : Log T = log true true [] [] no_source [] in
      let alone : (j : ℕ) (u : Log T) → get_elem? (v ∷ []) j ≡ some u → (j ≡ 0) × (v ≡ u) =
      λ j u e. ⊎_elim (λ (h : get_elem? [] j ≡ some u). absurd (some-ne-none u (sym h))) (λ h. h) (last_place [] v j u e) in
      record {
        sent = [];
        got = [];
        source = no_source;
        holds = refl;
        stand = λ k x e. absurd (some-ne-none x (sym e));
        one_pushes = only_sole pushes_of 0 (v ∷ []) (λ j u e m. (alone j u e).0);
        one_pops = only_sole pops_of 0 (v ∷ []) (λ j u e m. (alone j u e).0);
        each = λ j u e. subst (Knows [] [] no_source) (alone j u e).1 (record { pushes = λ _. (refl, refl); pops = λ _. (refl, refl); known = ([], refl) });
      }

  pub rule_push : (n port : ℕ) (v : Log T) (x : T) → v.pushes ≡ true → stands v.source (length v.sent) x
      → Pushes (Relayed stands) n port v x (λ w. w ≡ log v.pushes v.pops (v.sent ++ x ∷ []) v.got v.source v.known)
  rule_push n port v x may ok items views _ h at =
      let w : Log T = log v.pushes v.pops (v.sent ++ x ∷ []) v.got v.source v.known in
      let mine = h.each port v at in
      let sent : List T = h.sent ++ x ∷ [] in
      let here : stands h.source (length h.sent) x =
      subst (λ (y : Source × List T). stands y.0 (length y.1) x) (λ i. ((mine.pushes may).1 i, (mine.pushes may).0 i)) ok in
      let knows : Knows sent h.got h.source w =
      record { pushes = λ p. (ap (λ l. l ++ x ∷ []) (mine.pushes may).0, (mine.pushes may).1); pops = mine.pops; known = begins_more v.known h.sent (x ∷ []) mine.known } in
      let theirs : (j : ℕ) (u : Log T) → j ≢ port → get_elem? views j ≡ some u → Knows sent h.got h.source u =
      λ j u other e.
      record {
        pushes = λ p. absurd (other (h.one_pushes j port u v e at p may));
        pops = (h.each j u e).pops;
        known = begins_more u.known h.sent (x ∷ []) (h.each j u e).known;
      } in (
        w,
        record {
          sent = sent;
          got = h.got;
          source = h.source;
          holds = ap (λ l. l ++ x ∷ []) h.holds ∙ append_assoc h.got items (x ∷ []);
          stand = stand_more h.source h.sent x h.stand here;
          one_pushes = sole_still pushes_of views (set views port w) (had_set pushes_of views port v w at (λ p. p)) h.one_pushes;
          one_pops = sole_still pops_of views (set views port w) (had_set pops_of views port v w at (λ p. p)) h.one_pops;
          each = each_set (Knows sent h.got h.source) views port w knows theirs;
        },
        refl,
      )

  pub stands_same : (v w : Log T) (x y : T) → v ≡ w → x ≡ y → stands w.source (length w.sent) y → stands v.source (length v.sent) x
  stands_same v w x y e f ok = subst (λ (z : Log T × T). stands z.0.source (length z.0.sent) z.1) (λ i. (sym e i, sym f i)) ok

  pub rule_pop : (port : ℕ) (v : Log T) → v.pops ≡ true
      → Pops (Relayed stands) port v (λ x w. (w ≡ log v.pushes v.pops v.sent (v.got ++ x ∷ []) v.source v.known) × stands v.source (length v.got) x)
  rule_pop port v may x items views h at =
      let w : Log T = log v.pushes v.pops v.sent (v.got ++ x ∷ []) v.source v.known in
      let mine = h.each port v at in
      let got : List T = h.got ++ x ∷ [] in
      let knows : Knows h.sent got h.source w =
      record { pushes = mine.pushes; pops = λ p. (ap (λ l. l ++ x ∷ []) (mine.pops may).0, (mine.pops may).1); known = mine.known } in
      let theirs : (j : ℕ) (u : Log T) → j ≢ port → get_elem? views j ≡ some u → Knows h.sent got h.source u =
      λ j u other e.
      record { pushes = (h.each j u e).pushes; pops = λ p. absurd (other (h.one_pops j port u v e at p may)); known = (h.each j u e).known } in
      let stood : stands h.source (length h.got) x = h.stand (length h.got) x (ap (λ l. get_elem? l (length h.got)) h.holds ∙ item_after h.got items x) in (
        w,
        record {
          sent = h.sent;
          got = got;
          source = h.source;
          holds = h.holds ∙ sym (append_assoc h.got (x ∷ []) items);
          stand = h.stand;
          one_pushes = sole_still pushes_of views (set views port w) (had_set pushes_of views port v w at (λ p. p)) h.one_pushes;
          one_pops = sole_still pops_of views (set views port w) (had_set pops_of views port v w at (λ p. p)) h.one_pops;
          each = each_set (Knows h.sent got h.source) views port w knows theirs;
        },
        (refl, subst (λ (y : Source × List T). stands y.0 (length y.1) x) (λ i. (sym (mine.pops may).1 i, sym (mine.pops may).0 i)) stood),
      )

  -- nothing was pushed yet when the two passes come apart, and then the source may be picked
  pub rule_part : (port : ℕ) (v : Log T) (source : Source) → v.pushes ≡ true → v.pops ≡ true → v.sent ≡ []
      → Forks (Relayed stands) port v (log true false v.sent [] source []) (log false true [] v.got source [])
  rule_part port v source a b none items views h at =
      let l : Log T = log true false v.sent [] source [] in
      let r : Log T = log false true [] v.got source [] in
      let mine = h.each port v at in
      let vs : List (Log T) = set views port l in
      let empty : h.sent ≡ [] = sym (mine.pushes a).0 ∙ none in
      let left : Knows h.sent h.got source l = record { pushes = λ _. ((mine.pushes a).0, refl); pops = λ p. absurd (not_false refl p); known = (h.sent, refl) } in
      let right : Knows h.sent h.got source r = record { pushes = λ p. absurd (not_false refl p); pops = λ _. ((mine.pops b).0, refl); known = (h.sent, refl) } in
      let theirs : (j : ℕ) (u : Log T) → j ≢ port → get_elem? views j ≡ some u → Knows h.sent h.got source u =
      λ j u other e.
      record {
        pushes = λ p. absurd (other (h.one_pushes j port u v e at p a));
        pops = λ p. absurd (other (h.one_pops j port u v e at p b));
        known = (h.each j u e).known;
      } in
      record {
        sent = h.sent;
        got = h.got;
        source = source;
        holds = h.holds;
        stand = λ k x e. absurd (some-ne-none x (sym (ap (λ s. get_elem? s k) (sym empty) ∙ e)));
        one_pushes =
            sole_still pushes_of views (vs ++ r ∷ [])
            (had_on pushes_of views vs (vs ++ r ∷ []) (had_set pushes_of views port v l at (λ _. a)) (had_snoc pushes_of vs r refl)) h.one_pushes;
        one_pops = only_sole pops_of (length vs) (vs ++ r ∷ []) (λ j u e m.
            ⊎_elim (λ x. absurd (none_after pops_of views port v l h.one_pops at b refl j u x m)) (λ (x : (j ≡ length vs) × (r ≡ u)). x.0) (last_place vs r j u e));
        each = each_snoc (Knows h.sent h.got source) vs r (each_set (Knows h.sent h.got source) views port l left theirs) right;
      }

  -- a receipt: what was popped had been pushed
  pub rule_receipt : (port : ℕ) (v : Log T) → v.pops ≡ true → Forks (Relayed stands) port v v (log false false [] [] no_source v.got)
  rule_receipt port v b items views h at =
      let r : Log T = log false false [] [] no_source v.got in
      let vs : List (Log T) = set views port v in
      let shown : Begins v.got h.sent = (items, ap (λ l. l ++ items) ((h.each port v at).pops b).0 ∙ sym h.holds) in
      record {
        sent = h.sent;
        got = h.got;
        source = h.source;
        holds = h.holds;
        stand = h.stand;
        one_pushes =
            sole_still pushes_of views (vs ++ r ∷ [])
            (had_on pushes_of views vs (vs ++ r ∷ []) (had_set pushes_of views port v v at (λ p. p)) (had_snoc pushes_of vs r refl)) h.one_pushes;
        one_pops =
            sole_still pops_of views (vs ++ r ∷ [])
            (had_on pops_of views vs (vs ++ r ∷ []) (had_set pops_of views port v v at (λ p. p)) (had_snoc pops_of vs r refl)) h.one_pops;
        each =
            each_snoc (Knows h.sent h.got h.source) vs r
            (each_set (Knows h.sent h.got h.source) views port v (h.each port v at) (λ j u _ e. h.each j u e))
            (idle_knows h.sent h.got h.source r refl refl shown);
      }

  -- the view of another pass, which is spent then
  taken_in : (views : List (Log T)) (port : ℕ) (both : Log T) (other : ℕ) (u : Log T) → ¬ (other ≡ port) → get_elem? (set views port both) other ≡ some u → get_elem? views other ≡ some u
  taken_in views port both other u two at = ⊎_elim (λ (x : (other ≡ port) × (both ≡ u)). absurd (two x.0)) (λ (x : (other ≢ port)
      × (get_elem? views other ≡ some u)). x.1) (at_set views port other both u at)

  pub rule_whole : (port : ℕ) (v : Log T) (other : ℕ) (u : Log T) → v.pushes ≡ true → u.pops ≡ true
      → Merges (Relayed stands) port v other u (log true true v.sent u.got v.source []) (log false false [] [] no_source [])
  rule_whole port v other u a b items views h at two at' =
      let both : Log T = log true true v.sent u.got v.source [] in
      let spent : Log T = log false false [] [] no_source [] in
      let was : get_elem? views other ≡ some u = taken_in views port both other u two at' in
      let vs : List (Log T) = set views port both in
      let put = (h.each port v at).pushes a in
      let had = (h.each other u was).pops b in
      let knows : Knows h.sent h.got h.source both = record { pushes = λ _. put; pops = λ _. (had.0, put.1); known = (h.sent, refl) } in
      record {
        sent = h.sent;
        got = h.got;
        source = h.source;
        holds = h.holds;
        stand = h.stand;
        one_pushes =
            sole_still pushes_of views (set vs other spent)
            (had_on pushes_of views vs (set vs other spent) (had_set pushes_of views port v both at (λ _. a)) (had_set pushes_of vs other u spent at' (λ p. absurd (not_false refl p)))) h.one_pushes;
        one_pops = only_sole pops_of port (set vs other spent) (λ j y e m.
            ⊎_elim (λ (x : (j ≡ other) × (spent ≡ y)). absurd (not_false refl (ap pops_of x.1 ∙ m)))
            (λ (x : (j ≢ other) × (get_elem? vs j ≡ some y)).
            ⊎_elim (λ (z : (j ≡ port) × (both ≡ y)). z.0)
            (λ (z : (j ≢ port) × (get_elem? views j ≡ some y)). absurd (x.0 (h.one_pops j other y u z.1 was m b))) (at_set views port j both y x.1)) (at_set vs other j spent y e));
        each =
            each_set (Knows h.sent h.got h.source) vs other spent (idle_knows h.sent h.got h.source spent refl refl (h.sent, refl))
            (λ j y _ e. each_set (Knows h.sent h.got h.source) views port both knows (λ i z _ f. h.each i z f) j y e);
      }

  pub rule_known : (port : ℕ) (v : Log T) (other : ℕ) (u : Log T)
      → Merges (Relayed stands) port v other u (log v.pushes v.pops v.sent v.got v.source u.known) (log false false [] [] no_source [])
  rule_known port v other u items views h at two at' =
      let both : Log T = log v.pushes v.pops v.sent v.got v.source u.known in
      let spent : Log T = log false false [] [] no_source [] in
      let was : get_elem? views other ≡ some u = taken_in views port both other u two at' in
      let vs : List (Log T) = set views port both in
      let mine = h.each port v at in
      let knows : Knows h.sent h.got h.source both = record { pushes = mine.pushes; pops = mine.pops; known = (h.each other u was).known } in
      record {
        sent = h.sent;
        got = h.got;
        source = h.source;
        holds = h.holds;
        stand = h.stand;
        one_pushes =
            sole_still pushes_of views (set vs other spent)
            (had_on pushes_of views vs (set vs other spent) (had_set pushes_of views port v both at (λ p. p)) (had_set pushes_of vs other u spent at' (λ p. absurd (not_false refl p)))) h.one_pushes;
        one_pops =
            sole_still pops_of views (set vs other spent)
            (had_on pops_of views vs (set vs other spent) (had_set pops_of views port v both at (λ p. p)) (had_set pops_of vs other u spent at' (λ p. absurd (not_false refl p)))) h.one_pops;
        each =
            each_set (Knows h.sent h.got h.source) vs other spent (idle_knows h.sent h.got h.source spent refl refl (h.sent, refl))
            (λ j y _ e. each_set (Knows h.sent h.got h.source) views port both knows (λ i z _ f. h.each i z f) j y e);
      }

  -- ## What a pass learns
  pub left_over : (port : ℕ) (v : Log T) → v.pushes ≡ true → v.pops ≡ true → Learns (Relayed stands) port v (λ items. v.sent ≡ v.got ++ items)
  left_over port v a b items views h at =
      let mine = h.each port v at in
      (mine.pushes a).0 ∙ h.holds ∙ ap (λ l. l ++ items) (sym (mine.pops b).0)

  pub begins_with : (port : ℕ) (v : Log T) → v.pushes ≡ true → Learns (Relayed stands) port v (λ items. Begins v.known v.sent)
  begins_with port v a items views h at =
      let mine = h.each port v at in
      (mine.known.0, mine.known.1 ∙ sym (mine.pushes a).0)

pub ruleset receipts = (rule_known, begins_with)
