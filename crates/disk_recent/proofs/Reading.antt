-- What is held of a segment from a txid on is the piece of it that a node tells, and where it fits
-- into a ring it is held.
use Rattle.std.proofs.Common.{inl, inr, ℕ, zero, suc, ◌≡◌, ◌≢◌, ◌+◌, ◌-◌, ◌<◌, ◌≤◌, Bool, true, false, List, [], ◌∷◌, length, take, drop, Option, Some, None, refl, sym, ap, subst, ◌∙◌, arith}
use Rattle.std.proofs.lemmas.Bool.Decides.{nat_tests, eqb_tells}
use Rattle.std.proofs.lemmas.List.{length-drop, length-take, drop-drop}
use Rattle.std.specs.Prelude.{nat_le, ◌==◌, if◌then◌else◌}
use Rattle.journal_core.specs.declared.segment.Segment.{Segment}
use Rattle.journal_core.specs.Segments.{find_segment}
use Rattle.journal_core.specs.Step.{is_one}
use Rattle.journal_core.proofs.SegmentLists.{find-start}
use Rattle.disk_recent.specs.Edits.{Edit, number_edits, since, bodies_of}
use Rattle.disk_recent.proofs.Kept.{kept_since, kept-numbered}
use Rattle.disk_recent.proofs.Numbered.{since-numbered, since-before, bodies_of-numbered}
use Rattle.disk_recent.specs.Recent.{Recent, IsRecent, newest_of, newest_in, held_from, most_stored, FitsRing}

-- of edits that are the last of a segment's, those from a txid on are the segment's from it on,
-- where there are any
since_last : (start i from : ℕ) (bodies : List (List ℕ)) → bodies_of (since from (number_edits (start + i) (drop i bodies))) ≢ []
    → bodies_of (since from (number_edits (start + i) (drop i bodies))) ≡ drop (from - start) bodies
since_last start i from bodies some = by (nat_le (start + i) from) refl
  where
    by : (b : Bool) → nat_le (start + i) from ≡ b → bodies_of (since from (number_edits (start + i) (drop i bodies))) ≡ drop (from - start) bodies
    by true is =
        let low : start + i ≤ from = grind (arith, nat_tests) in
        ap bodies_of (since-numbered (start + i) (drop i bodies) from low) ∙ bodies_of-numbered from (drop (from - (start + i)) (drop i bodies))
        ∙ drop-drop (from - (start + i)) i bodies ∙ (let e : i + (from - (start + i)) ≡ from - start = omega arith in ap (λ (n : ℕ). drop n bodies) e)
    by false is = absurd (some (ap bodies_of (since-before (start + i) (drop i bodies) from (grind (arith, nat_tests)))))

-- the newest edits of a segment, from a txid on
newest_since : (g : Segment) (from : ℕ) → bodies_of (since from (newest_of (Some g))) ≢ [] → bodies_of (since from (newest_of (Some g))) ≡ drop (from - g.start) g.bodies
newest_since g from some =
    let k = kept-numbered most_stored g.start g.bodies in
    let P : List Edit → Type 0 = λ es. bodies_of (since from es) ≢ [] → bodies_of (since from es) ≡ drop (from - g.start) g.bodies in
    subst P (sym k.1) (since_last g.start k.0 from g.bodies) some

take_some : (n : ℕ) (xs : List (List ℕ)) → take n xs ≢ [] → xs ≢ []
take_some zero [] some none = some refl
take_some (suc n) [] some none = some refl
take_some n (x ∷ xs) some none = cc

module _ (r : Recent) (gs : List Segment) (start from : ℕ) (g : Segment) (recent : IsRecent r gs) (known : find_segment start gs ≡ Some g) where
  edits_are : r.start ≡ Some start → r.edits ≡ newest_of (Some g)
  edits_are is = recent ∙ ap (λ (o : Option ℕ). newest_in o gs) is ∙ ap newest_of known

  held_at : r.start ≡ Some start → held_from r start from ≡ take 256 (bodies_of (since from r.edits))
  held_at is = ap (λ (b : Bool). if b then take 256 (bodies_of (since from r.edits)) else []) (ap (is_one start) is ∙ same start)
    where
      same : (n : ℕ) → n == n ≡ true
      same n = grind (arith, nat_tests)

  by_start : (o : Option ℕ) → r.start ≡ o → held_from r start from ≢ [] → r.start ≡ Some start
  by_start None is some = absurd (some (ap (λ (o : Option ℕ). if is_one start o then take 256 (bodies_of (since from r.edits)) else []) is))
  by_start (Some cached) is some =
      elim (eqb_tells cached start) [
        | inl p ↦ is ∙ ap (λ (n : ℕ). Some n) p.1
        | inr p ↦ absurd (some (ap (λ (o : Option ℕ). if is_one start o then take 256 (bodies_of (since from r.edits)) else []) is
            ∙ ap (λ (b : Bool). if b then take 256 (bodies_of (since from r.edits)) else []) p.0))
      ]

  -- what is held is the piece
  pub held_piece : held_from r start from ≢ [] → held_from r start from ≡ take 256 (drop (from - g.start) g.bodies)
  held_piece some =
      let is : r.start ≡ Some start = by_start r.start refl some in
      let e : bodies_of (since from r.edits) ≡ bodies_of (since from (newest_of (Some g))) = ap (λ (es : List Edit). bodies_of (since from es)) (edits_are is) in
      let there : bodies_of (since from (newest_of (Some g))) ≢ [] = take_some 256 (bodies_of (since from (newest_of (Some g)))) (λ none. some (held_at is ∙ ap (take 256) e ∙ none)) in
      held_at is ∙ ap (take 256) (e ∙ newest_since g from there)

  -- what fits is held
  pub is_held : start ≤ from → from < start + length g.bodies → FitsRing r.start g from → held_from r start from ≢ []
  is_held low high f none =
      let at : g.start ≡ start = find-start start gs g known in
      let is : r.start ≡ Some start = f.cached_is ∙ ap (λ (n : ℕ). Some n) at in
      let all : bodies_of (since from r.edits) ≡ drop (from - g.start) g.bodies =
      ap (λ (es : List Edit). bodies_of (since from es)) (edits_are is)
      ∙ ap bodies_of (kept_since most_stored from (number_edits g.start g.bodies) f.fits
      ∙ since-numbered g.start g.bodies from (omega (arith, at))) ∙ bodies_of-numbered from (drop (from - g.start) g.bodies) in
      let short : length (take 256 (drop (from - g.start) g.bodies)) ≡ 0 = ap length (sym (ap (take 256) all) ∙ sym (held_at is) ∙ none) in
      omega (arith, short, at, length-take 256 (drop (from - g.start) g.bodies), length-drop (from - g.start) g.bodies)
