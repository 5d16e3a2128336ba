-- The steps of one call, put together.
use Rattle.std.proofs.Common.{◌≡◌, ℕ, [], ◌∷◌, ◌++◌, length, sym, ap, ◌∙◌, subst, append-nil}
use Rattle.atomic_table.specs.Table.{Me}
use Rattle.play_threads.specs.declared.board.View.{View}
use Rattle.play_threads.specs.declared.board.Stage.TheVariants.{Rests, Inside}
use Rattle.play_threads.specs.Board.{Begins, places_of, Log, seated, Entered, Visited, Added, Gave}
use Rattle.play_threads.proofs.Histories.{own_place}

module _ {S E : Type 0} (led : Log E → S → Type 0) where
  -- what led to the cell that is given back
  pub led_after : (m m2 m3 : Me S (View E)) (more : Log E) → Entered led m m2 → Visited led m2 more m3
      → (d : S) × (m3.1 ≡ (0, d) ∷ []) × led (m2.0.seen ++ more) d
  led_after m m2 m3 more e v =
      let seen2 : m2.0.seen ≡ e.1 = ap (λ (z : Me S (View E)). z.0.seen) e.2 in (
        v.0,
        ap (λ (z : Me S (View E)). z.1) v.1,
        v.2 e.0 (ap (λ (z : Me S (View E)). z.1) e.2) m2.0.seen (subst (λ (l : Log E). led l e.0) (sym seen2) e.3),
      )

  -- with its call noted
  pub passes_called : (m m2 m3 m4 : Me S (View E)) (x : E) (caller : ℕ) → m.0.caller ≡ caller → Entered led m m2 → Visited led m2 ((caller, x) ∷ []) m3
      → m4 ≡ (seated Inside m3.0.caller m3.0.ticket (m3.0.seen ++ (m3.0.caller, x) ∷ []) (m3.0.places ++ length m3.0.seen ∷ []), m3.1)
      → (d : S) × (m4.1 ≡ (0, d) ∷ []) × led m4.0.seen d
  passes_called m m2 m3 m4 x caller is e v noted =
      let l = led_after m m2 m3 ((caller, x) ∷ []) e v in
      let seen3 : m3.0.seen ≡ m2.0.seen = ap (λ (z : Me S (View E)). z.0.seen) v.1 in
      let caller3 : m3.0.caller ≡ caller = ap (λ (z : Me S (View E)). z.0.caller) v.1 ∙ ap (λ (z : Me S (View E)). z.0.caller) e.2 ∙ is in
      let seen4 : m4.0.seen ≡ m2.0.seen ++ (caller, x) ∷ [] = ap (λ (z : Me S (View E)). z.0.seen) noted ∙ (λ i. seen3 i ++ (caller3 i, x) ∷ []) in
      (l.0, ap (λ (z : Me S (View E)). z.1) noted ∙ l.1, subst (λ (h : Log E). led h l.0) (sym seen4) l.2)

  pub passes_uncalled : (m m2 m3 : Me S (View E)) → Entered led m m2 → Visited led m2 [] m3 → (d : S) × (m3.1 ≡ (0, d) ∷ []) × led m3.0.seen d
  passes_uncalled m m2 m3 e v =
      let l = led_after m m2 m3 [] e v in
      let seen3 : m3.0.seen ≡ m2.0.seen ++ [] = ap (λ (z : Me S (View E)). z.0.seen) v.1 ∙ sym (append-nil m2.0.seen) in
      (l.0, l.1, subst (λ (h : Log E). led h l.0) (sym seen3) l.2)

  -- the call that was noted is this one
  pub noted_as : (m m2 : Me S (View E)) (x y : E) → y ≡ x → m2 ≡ (seated Inside m.0.caller m.0.ticket (m.0.seen ++ (m.0.caller, y) ∷ []) (m.0.places ++ length m.0.seen ∷ []), m.1)
      → m2 ≡ (seated Inside m.0.caller m.0.ticket (m.0.seen ++ (m.0.caller, x) ∷ []) (m.0.places ++ length m.0.seen ∷ []), m.1)
  noted_as m m2 x y e h = h ∙ (λ i. (seated Inside m.0.caller m.0.ticket (m.0.seen ++ (m.0.caller, e i) ∷ []) (m.0.places ++ length m.0.seen ∷ []), m.1))

  pub added : (m m2 m3 m4 m5 : Me S (View E)) (x : E) (caller : ℕ) → m.0.caller ≡ caller → Entered led m m2 → Visited led m2 ((caller, x) ∷ []) m3
      → m4 ≡ (seated Inside m3.0.caller m3.0.ticket (m3.0.seen ++ (m3.0.caller, x) ∷ []) (m3.0.places ++ length m3.0.seen ∷ []), m3.1)
      → m5 ≡ (seated Rests m4.0.caller 0 m4.0.seen m4.0.places, [])
      → Added m x m5
  added m m2 m3 m4 m5 x caller is e v noted passed =
      let between : Log E = e.4.0 in
      let from : m.0.seen ++ between ≡ e.1 = e.4.1 in
      let seen3 : m3.0.seen ≡ m.0.seen ++ between = ap (λ (z : Me S (View E)). z.0.seen) v.1 ∙ ap (λ (z : Me S (View E)). z.0.seen) e.2 ∙ sym from in
      let caller3 : m3.0.caller ≡ m.0.caller = ap (λ (z : Me S (View E)). z.0.caller) v.1 ∙ ap (λ (z : Me S (View E)). z.0.caller) e.2 in
      let caller4 : m4.0.caller ≡ m.0.caller = ap (λ (z : Me S (View E)). z.0.caller) noted ∙ caller3 in
      let places3 : m3.0.places ≡ m.0.places = ap (λ (z : Me S (View E)). z.0.places) v.1 ∙ ap (λ (z : Me S (View E)). z.0.places) e.2 in
      let here : length m3.0.seen ≡ length (m.0.seen ++ between) = ap (λ (l : Log E). length l) seen3 in
      let place : ℕ = length (m.0.seen ++ between) in
      let places4 : m4.0.places ≡ m.0.places ++ place ∷ [] = ap (λ (z : Me S (View E)). z.0.places) noted ∙ (λ i. places3 i ++ here i ∷ []) in
      let log : Log E = (m.0.seen ++ between) ++ (m.0.caller, x) ∷ [] in
      let seen4 : m4.0.seen ≡ log = ap (λ (z : Me S (View E)). z.0.seen) noted ∙ (λ i. seen3 i ++ (caller3 i, x) ∷ []) in
      let whole : m5 ≡ (seated Rests m.0.caller 0 log (m.0.places ++ place ∷ []), []) = passed ∙ (λ i. (seated Rests (caller4 i) 0 (seen4 i) (places4 i), [])) in
      let old : places_of m.0.caller (m.0.seen ++ between) ≡ m.0.places = ap (places_of m.0.caller) from ∙ e.5 in
      let new : places_of m.0.caller log ≡ m.0.places ++ place ∷ [] = own_place m.0.caller (m.0.seen ++ between) x ∙ (λ i. old i ++ place ∷ []) in (
        between,
        whole,
        ap (λ (z : Me S (View E)). places_of m.0.caller z.0.seen) whole ∙ new ∙ sym (ap (λ (z : Me S (View E)). z.0.places) whole),
      )

  pub gave : (m m2 m3 m4 : Me S (View E)) → Entered led m m2 → Visited led m2 [] m3 → m4 ≡ (seated Rests m3.0.caller 0 m3.0.seen m3.0.places, []) → Gave m m4
  gave m m2 m3 m4 e v passed =
      let caller3 : m3.0.caller ≡ m.0.caller = ap (λ (z : Me S (View E)). z.0.caller) v.1 ∙ ap (λ (z : Me S (View E)). z.0.caller) e.2 in
      let places3 : m3.0.places ≡ m.0.places = ap (λ (z : Me S (View E)). z.0.places) v.1 ∙ ap (λ (z : Me S (View E)). z.0.places) e.2 in
      let seen3 : m3.0.seen ≡ e.1 = ap (λ (z : Me S (View E)). z.0.seen) v.1 ∙ ap (λ (z : Me S (View E)). z.0.seen) e.2 in
      let seen4 : m4.0.seen ≡ m3.0.seen = ap (λ (z : Me S (View E)). z.0.seen) passed in
      let all4 : m4.0.seen ≡ e.1 = seen4 ∙ seen3 in (
        passed ∙ (λ i. (seated Rests (caller3 i) 0 (sym seen4 i) (places3 i), [])),
        subst (Begins m.0.seen) (sym all4) e.4,
        ap (places_of m.0.caller) all4 ∙ e.5,
      )
