-- What a fresh mirror holds of segments that are told one after the other.
use Rattle.std.proofs.Common.{◌≡◌, ℕ, zero, suc, ◌⊎◌, Bool, true, false, List, [], ◌∷◌, filter, slice_get, Contains, Option, Some, None, refl, sym, ap, ◌∙◌, subst, inl, inr, arith}
use Rattle.std.specs.List.{fold, flat_map}
use Rattle.std.proofs.lemmas.Bool.{cond-true, cond-false, cond_both, and_parts}
use Rattle.std.proofs.lemmas.List.Elements.{All-filter, All-contains, All-contains_itself, Contains-append_cases, Contains-append_right, filter_passes}
use Rattle.journal_core.specs.Segments.{find_segment, put_segment, has_edit, AreRising}
use Rattle.journal_core.specs.declared.node_state.NodeState.{NodeState}
use Rattle.journal_core.specs.declared.segment.Segment.{Segment}
use Rattle.journal_core.specs.declared.segment_line.SegmentLine.{SegmentLine}
use Rattle.journal_core.proofs.SegmentLists.{Rising-put}
use Rattle.writer_calls.specs.Logs.{MirroredBy}
use Rattle.writer_calls.specs.Mirrors.{is_held, line_of, lines_of, hold_line, hold_lines}
use Rattle.writer_calls.specs.States.{is_final_with_edit, finals_of, finals_at, hold, mirror_of}
use Rattle.writer_calls.proofs.Holding.{hold_held, hold_put, not_there, put_found}

hold_as_line : (held : List Segment) (g : Segment) → AreRising held → lines_of (hold held g) ≡ hold_line (lines_of held) (line_of g)
hold_as_line held g r =
    cond_both (is_held g.start held) held (put_segment g held) (λ hs. lines_of hs ≡ hold_line (lines_of held) (line_of g))
    (λ e. sym (hold_held (line_of g) held r e)) (λ e. hold_put g held (not_there g held e))

hold_rising : (held : List Segment) (g : Segment) → AreRising held → AreRising (hold held g)
hold_rising held g r = cond_both (is_held g.start held) held (put_segment g held) (λ hs. AreRising hs) (λ e. r) (λ e. Rising-put g held r)

holds_lines : (held gs : List Segment) → AreRising held → lines_of (fold hold held gs) ≡ hold_lines (lines_of held) (lines_of gs)
holds_lines held [] r = refl
holds_lines held (g ∷ gs) r =
    holds_lines (hold held g) gs (hold_rising held g r) ∙ ap (λ (ls : List SegmentLine). hold_lines ls (lines_of gs)) (hold_as_line held g r)

pub mirror_lines : (states : List (Option NodeState)) → lines_of (mirror_of states) ≡ hold_lines [] (lines_of (flat_map finals_at states))
mirror_lines states = holds_lines [] (flat_map finals_at states) tt

pub none_mirrored : (L : ℕ → List ℕ → Type 0) → MirroredBy L []
unfolding find_segment
none_mirrored L start txid g body e has = cc

-- ## Where a held segment comes from
-- it is a final segment with an edit of a node that is up
pub record ComesOf (states : List (Option NodeState)) (g : Segment) : Type 0 where
  pub place : ℕ
  pub s : NodeState
  pub here : slice_get states place ≡ Some (Some s)
  pub there : Contains s.segments g
  pub final : g.is_final ≡ true

held_in : (held : List Segment) (x g : Segment) (start : ℕ) → find_segment start (hold held x) ≡ Some g → (find_segment start held ≡ Some g) ⊎ (g ≡ x)
held_in held x g start e = go (is_held x.start held) refl
  where
    go : (b : Bool) → is_held x.start held ≡ b → (find_segment start held ≡ Some g) ⊎ (g ≡ x)
    go true h = inl (ap (find_segment start) (sym (cond-true (is_held x.start held) held (put_segment x held) h)) ∙ e)
    go false h = put_found x held start g (ap (find_segment start) (sym (cond-false (is_held x.start held) held (put_segment x held) h)) ∙ e)

held_from : (held gs : List Segment) (g : Segment) (start : ℕ) → find_segment start (fold hold held gs) ≡ Some g → (find_segment start held ≡ Some g) ⊎ Contains gs g
held_from held [] g start e = inl e
held_from held (x ∷ gs) g start e = go (held_from (hold held x) gs g start e)
  where
    first : (find_segment start held ≡ Some g) ⊎ (g ≡ x) → (find_segment start held ≡ Some g) ⊎ Contains (x ∷ gs) g
    first (inl h) = inl h
    first (inr h) = inr (zero, omega arith, sym h)

    go : (find_segment start (hold held x) ≡ Some g) ⊎ Contains gs g → (find_segment start held ≡ Some g) ⊎ Contains (x ∷ gs) g
    go (inl h) = first (held_in held x g start h)
    go (inr h) = inr (Contains-append_right (x ∷ []) gs g h)

none_held : {P : Type 0} (g : Segment) (start : ℕ) → find_segment start [] ≡ Some g → P
unfolding find_segment
none_held g start e = cc

final_of : (s : NodeState) (g : Segment) → Contains (finals_of s) g → Contains s.segments g × (g.is_final ≡ true)
final_of s g c = go s.up refl
  where
    go : (b : Bool) → s.up ≡ b → Contains s.segments g × (g.is_final ≡ true)
    go false e = let none : Contains [] g = subst (λ (gs : List Segment). Contains gs g) (cond-false s.up (filter is_final_with_edit s.segments) [] e) c in absurd (omega (arith, none.1))
    go true e =
        let full : Contains (filter is_final_with_edit s.segments) g = subst (λ (gs : List Segment). Contains gs g) (cond-true s.up (filter is_final_with_edit s.segments) [] e) c in (
          All-contains (Contains s.segments) (filter is_final_with_edit s.segments) g
              (All-filter is_final_with_edit (Contains s.segments) s.segments (All-contains_itself s.segments)) full,
          (and_parts g.is_final (has_edit g)
              (All-contains (λ (x : Segment). is_final_with_edit x ≡ true) (filter is_final_with_edit s.segments) g (filter_passes is_final_with_edit s.segments) full)).0,
        )

comes_later : (o : Option NodeState) (states : List (Option NodeState)) (g : Segment) → ComesOf states g → ComesOf (o ∷ states) g
comes_later o states g h = record { place = suc h.place; s = h.s; here = h.here; there = h.there; final = h.final }

comes_first : (o : Option NodeState) (states : List (Option NodeState)) (g : Segment) → Contains (finals_at o) g → ComesOf (o ∷ states) g
comes_first None states g c = absurd (omega (arith, c.1))
comes_first (Some s) states g c = let f = final_of s g c in record { place = zero; s = s; here = refl; there = f.0; final = f.1 }

comes_from : (states : List (Option NodeState)) (g : Segment) → Contains (flat_map finals_at states) g → ComesOf states g
comes_from [] g c = absurd (omega (arith, c.1))
comes_from (o ∷ states) g c = go (λ h. comes_from states g h) (Contains-append_cases (finals_at o) (flat_map finals_at states) g c)
  where
    go : (Contains (flat_map finals_at states) g → ComesOf states g) → Contains (finals_at o) g ⊎ Contains (flat_map finals_at states) g → ComesOf (o ∷ states) g
    go later (inl h) = comes_first o states g h
    go later (inr h) = comes_later o states g (later h)

pub mirror_comes : (states : List (Option NodeState)) (start : ℕ) (g : Segment) → find_segment start (mirror_of states) ≡ Some g → ComesOf states g
mirror_comes states start g e = go (held_from [] (flat_map finals_at states) g start e)
  where
    go : (find_segment start [] ≡ Some g) ⊎ Contains (flat_map finals_at states) g → ComesOf states g
    go (inl h) = none_held g start h
    go (inr h) = comes_from states g h
