-- Bytes are frames and a tail, or have one first bad frame, and never both.
use Rattle.std.proofs.Common.{◌≡◌, ℕ, zero, suc, ◌+◌, ◌<◌, ◌≤◌, ◌⊎◌, inl, inr, Bool, true, false, cond, List, [], ◌∷◌, ◌++◌, length, take, drop, Option, Some, None, refl, sym, ap, subst, ◌∙◌, arith}
use Rattle.std.specs.List.{list_any}
use Rattle.std.proofs.lemmas.Bool.{cases_lt, cases_eq}
use Rattle.std.proofs.lemmas.List.{length-drop}
use Rattle.std.proofs.lemmas.Option.{same_Some}
use Rattle.base_words.specs.Fields.{IsBytes}
use Rattle.base_words.proofs.FieldLaws.{bytes_after}
use Rattle.journal_core.specs.Views.{BatchView, last_txid}
use Rattle.disk_frame.specs.declared.frame_cause.FrameCause.{FrameCause}
use Rattle.disk_frame.specs.declared.frame_cause.FrameCause.TheVariants.{Short, Length, Count, Body, Order}
use Rattle.disk_frame.specs.Frames.{frame_bytes, is_bad_count, is_bad_body, is_out_of_order, broken_rule, BeginWithFrames, IsTail, AreFrames}
use Rattle.disk_frame.specs.Faults.{HasSeal, told_length, Spells, IsBadFrame, HaveBadFrame}
use Rattle.disk_frame.specs.Reading.{batch_in}
use Rattle.disk_frame.proofs.SpellLaws.{spelled_tells, spelled_batch, one_spelling, spells_from, length-frame_bytes}
use Rattle.disk_frame.proofs.FrameLaws.{Stops, one_front, goes_on, no_frames}

-- ---- what a bad frame is, in three ways

abbrev pub IsCut : List ℕ → Type 0
IsCut bytes = HasSeal bytes × (length bytes < 5 + told_length bytes)

abbrev pub IsUnfilled : List ℕ → Type 0
IsUnfilled bytes = HasSeal bytes × (5 + told_length bytes ≤ length bytes) × ((b : BatchView) → Spells bytes b → ⊥)

abbrev pub BreaksRule : ℕ → List ℕ → FrameCause → Type 0
BreaksRule next bytes cause = (b : BatchView) × Spells bytes b × (broken_rule next b ≡ Some cause)

pub ways : (next : ℕ) (bytes : List ℕ) (cause : FrameCause) → IsBadFrame next bytes cause → (IsCut bytes × (cause ≡ Short)) ⊎ ((IsUnfilled bytes × (cause ≡ Length)) ⊎ BreaksRule next bytes cause)
ways next bytes Short bad = inl (bad, refl)
ways next bytes Length bad = inr (inl (bad, refl))
ways next bytes Count bad = inr (inr bad)
ways next bytes Body bad = inr (inr bad)
ways next bytes Order bad = inr (inr bad)

bad_seal : (next : ℕ) (bytes : List ℕ) (cause : FrameCause) → IsBadFrame next bytes cause → HasSeal bytes
bad_seal next bytes Short bad = bad.0
bad_seal next bytes Length bad = bad.0
bad_seal next bytes Count bad = (spelled_tells bytes bad.0 bad.1).seal_is
bad_seal next bytes Body bad = (spelled_tells bytes bad.0 bad.1).seal_is
bad_seal next bytes Order bad = (spelled_tells bytes bad.0 bad.1).seal_is

tail_has_none : (bytes : List ℕ) → IsTail bytes → HasSeal bytes → ⊥
tail_has_none [] is has = has
tail_has_none (byte ∷ bytes) is has = is has

-- ---- no whole frame stands in a tail, nor where a bad one does

pub tail_stops : (next : ℕ) (bytes : List ℕ) → IsTail bytes → Stops next bytes
tail_stops next bytes is b good spells = tail_has_none bytes is (spelled_tells bytes b spells).seal_is

pub bad_stops : (next : ℕ) (bytes : List ℕ) (cause : FrameCause) → IsBadFrame next bytes cause → Stops next bytes
bad_stops next bytes cause bad b good spells =
    elim (ways next bytes cause bad) [
      | inl cut ↦ let there = (spelled_tells bytes b spells).there in omega (arith, there, cut.0.1)
      | inr (inl unfilled) ↦ unfilled.0.2 b spells
      | inr (inr breaks) ↦ let same : b ≡ breaks.0 = one_spelling bytes b breaks.0 spells breaks.1 in
          let none : broken_rule next breaks.0 ≡ None = subst (λ (c : BatchView). broken_rule next c ≡ None) same good in
          let p = sym none ∙ breaks.2 in absurd (cc)
    ]

-- a bad frame has one first cause
pub one_cause : (next : ℕ) (bytes : List ℕ) (c d : FrameCause) → IsBadFrame next bytes c → IsBadFrame next bytes d → c ≡ d
one_cause next bytes c d p q =
    elim (ways next bytes c p) [
      | inl cut ↦ elim (ways next bytes d q) [
        | inl cut' ↦ cut.1 ∙ sym cut'.1
        | inr (inl unfilled) ↦ absurd (omega (arith, cut.0.1, unfilled.0.1))
        | inr (inr breaks) ↦ let there = (spelled_tells bytes breaks.0 breaks.1).there in absurd (omega (arith, cut.0.1, there))
      ]
      | inr (inl unfilled) ↦ elim (ways next bytes d q) [
        | inl cut ↦ absurd (omega (arith, cut.0.1, unfilled.0.1))
        | inr (inl unfilled') ↦ unfilled.1 ∙ sym unfilled'.1
        | inr (inr breaks) ↦ absurd (unfilled.0.2 breaks.0 breaks.1)
      ]
      | inr (inr breaks) ↦ elim (ways next bytes d q) [
        | inl cut ↦ let there = (spelled_tells bytes breaks.0 breaks.1).there in absurd (omega (arith, cut.0.1, there))
        | inr (inl unfilled) ↦ absurd (unfilled.0.2 breaks.0 breaks.1)
        | inr (inr breaks') ↦ let same : breaks.0 ≡ breaks'.0 = one_spelling bytes breaks.0 breaks'.0 breaks.1 breaks'.1 in
            same_Some c d (sym breaks.2 ∙ ap (broken_rule next) same ∙ breaks'.2)
      ]
    ]

-- ---- one answer

pub one_value : (first : ℕ) (bytes : List ℕ) (bodies others : List (List ℕ)) (end last : ℕ) → AreFrames first bytes bodies end → AreFrames first bytes others last → (bodies ≡ others) × (end ≡ last)
one_value first bytes bodies others end last p q =
    let same = one_front first bytes bodies others end last p.frames q.frames (tail_stops (first + length bodies) (drop end bytes) p.tail)
    (tail_stops (first + length others) (drop last bytes) q.tail) in
    (same.bodies_same, same.end_same)

pub no_value : (first : ℕ) (bytes : List ℕ) (bodies : List (List ℕ)) (end place : ℕ) (cause : FrameCause) → AreFrames first bytes bodies end → HaveBadFrame first bytes place cause → ⊥
no_value first bytes bodies end place cause p q =
    let same = one_front first bytes bodies q.bodies end place p.frames q.frames (tail_stops (first + length bodies) (drop end bytes) p.tail)
    (bad_stops (first + length q.bodies) (drop place bytes) cause q.bad) in
    tail_has_none (drop place bytes) (subst (λ (n : ℕ). IsTail (drop n bytes)) same.end_same p.tail) (bad_seal (first + length q.bodies) (drop place bytes) cause q.bad)

pub one_fault : (first : ℕ) (bytes : List ℕ) (place other : ℕ) (c d : FrameCause) → HaveBadFrame first bytes place c → HaveBadFrame first bytes other d → (place ≡ other) × (c ≡ d)
one_fault first bytes place other c d p q =
    let same = one_front first bytes p.bodies q.bodies place other p.frames q.frames (bad_stops (first + length p.bodies) (drop place bytes) c p.bad)
    (bad_stops (first + length q.bodies) (drop other bytes) d q.bad) in
    let moved : IsBadFrame (first + length q.bodies) (drop other bytes) c =
    subst (λ (x : List (List ℕ) × ℕ). IsBadFrame (first + length x.0) (drop x.1 bytes) c) (λ i. (same.bodies_same i, same.end_same i)) p.bad in
    (same.end_same, one_cause (first + length q.bodies) (drop other bytes) c d moved q.bad)

-- ---- some answer

-- a tail, a whole frame, or a bad one
pub data Front (next : ℕ) (bytes : List ℕ) : Type 0 where
  closed : IsTail bytes → Front next bytes
  whole : (b : BatchView) → Spells bytes b → broken_rule next b ≡ None → Front next bytes
  bad : (cause : FrameCause) → IsBadFrame next bytes cause → Front next bytes

ways_to_break : (x y z : Bool) (cause : FrameCause) → cond {A = Option FrameCause} x (Some Count)
    (cond {A = Option FrameCause} y (Some Body) (cond {A = Option FrameCause} z (Some Order) None)) ≡ Some cause
    → (cause ≡ Count) ⊎ ((cause ≡ Body) ⊎ (cause ≡ Order))
ways_to_break true y z cause e = inl (sym (same_Some Count cause e))
ways_to_break false true z cause e = inr (inl (sym (same_Some Body cause e)))
ways_to_break false false true cause e = inr (inr (sym (same_Some Order cause e)))
ways_to_break false false false cause e = absurd cc

pub breaks_rule : (next : ℕ) (bytes : List ℕ) (cause : FrameCause) (b : BatchView) → Spells bytes b → broken_rule next b ≡ Some cause → IsBadFrame next bytes cause
unfolding broken_rule
breaks_rule next bytes cause b spells is =
    elim (ways_to_break (is_bad_count (length b.bodies)) (list_any is_bad_body b.bodies) (is_out_of_order next b.first (last_txid b)) cause is) [
      | inl count ↦ subst (IsBadFrame next bytes) (sym count) (b, spells, is ∙ ap (λ (c : FrameCause). Some c) count)
      | inr (inl body) ↦ subst (IsBadFrame next bytes) (sym body) (b, spells, is ∙ ap (λ (c : FrameCause). Some c) body)
      | inr (inr order) ↦ subst (IsBadFrame next bytes) (sym order) (b, spells, is ∙ ap (λ (c : FrameCause). Some c) order)
    ]

judged_rule : (next : ℕ) (bytes : List ℕ) (b : BatchView) (o : Option FrameCause) → Spells bytes b → broken_rule next b ≡ o → Front next bytes
judged_rule next bytes b None spells is = whole b spells is
judged_rule next bytes b (Some cause) spells is = bad cause (breaks_rule next bytes cause b spells is)

pub unfilled : (bytes : List ℕ) → HasSeal bytes → 5 + told_length bytes ≤ length bytes → batch_in (take (told_length bytes) (drop 5 bytes)) ≡ None → IsUnfilled bytes
unfilled bytes has there none = (has, there, λ b spells. let p = sym none ∙ spelled_batch bytes b spells in absurd (cc))

judged_inner : (next : ℕ) (bytes : List ℕ) (o : Option BatchView) → IsBytes bytes → HasSeal bytes → 5 + told_length bytes ≤ length bytes
    → batch_in (take (told_length bytes) (drop 5 bytes)) ≡ o → Front next bytes
judged_inner next bytes None fits has there is = bad Length (unfilled bytes has there is)
judged_inner next bytes (Some b) fits has there is = judged_rule next bytes b (broken_rule next b) (spells_from bytes b fits has there is) refl

judged_seal : (next : ℕ) (bytes : List ℕ) → IsBytes bytes → HasSeal bytes → Front next bytes
judged_seal next bytes fits has =
    elim (cases_lt (length bytes) (5 + told_length bytes)) [
      | inl short ↦ bad Short (has, short)
      | inr there ↦ judged_inner next bytes (batch_in (take (told_length bytes) (drop 5 bytes))) fits has there refl
    ]

judged : (next : ℕ) (bytes : List ℕ) → IsBytes bytes → Front next bytes
judged next [] fits = closed tt
judged next (byte ∷ bytes) fits =
    elim (cases_eq byte 165) [
      | inl is ↦ judged_seal next (byte ∷ bytes) fits is
      | inr ne ↦ closed ne
    ]

-- a value or a first fault
abbrev pub Answer : ℕ → List ℕ → Type 0
Answer first bytes = ((bodies : List (List ℕ)) × (whole_length : ℕ) × AreFrames first bytes bodies whole_length) ⊎ ((place : ℕ) × (cause : FrameCause) × HaveBadFrame first bytes place cause)

answer_from : (fuel first : ℕ) (bytes : List ℕ) (bodies : List (List ℕ)) (end : ℕ) → IsBytes bytes → length bytes ≤ fuel + end
    → BeginWithFrames first bytes bodies end → Front (first + length bodies) (drop end bytes) → Answer first bytes
answer_from fuel first bytes bodies end fits le frames (closed is) = inl (bodies, end, record { frames = frames; tail = is })
answer_from fuel first bytes bodies end fits le frames (bad cause is) = inr (end, cause, record { bodies = bodies; frames = frames; bad = is })
answer_from zero first bytes bodies end fits le frames (whole b spells good) =
    let there = (spelled_tells (drop end bytes) b spells).there in
    absurd (omega (arith, le, there, length-drop end bytes))
answer_from (suc fuel) first bytes bodies end fits le frames (whole b spells good) =
    answer_from fuel first bytes (bodies ++ b.bodies) (end + length (frame_bytes b)) fits (omega (arith, le, length-frame_bytes b)) (goes_on first bytes bodies end b frames spells good)
    (judged (first + length (bodies ++ b.bodies)) (drop (end + length (frame_bytes b)) bytes) (bytes_after (end + length (frame_bytes b)) bytes fits))

pub some_answer : (first : ℕ) (bytes : List ℕ) → IsBytes bytes → Answer first bytes
some_answer first bytes fits = answer_from (length bytes) first bytes [] 0 fits (omega arith) (no_frames first bytes) (judged (first + 0) bytes fits)
