-- Where a line ends, and lines after one another.
use Rattle.std.proofs.Common.{ℕ, ◌≡◌, ◌≢◌, ◌<◌, ◌≤◌, ◌+◌, List, [], ◌∷◌, ◌++◌, length, true, ◌==◌, sym, ap, arith, ◌∙◌, append-nil, take, drop, get_or, inl, inr, suc, subst}
use Rattle.std.proofs.Math.Seq.{take-add}
use Rattle.std.proofs.lemmas.Bool.Decides.{eqb_tells}
use Rattle.std.proofs.lemmas.List.{take-append-drop, get_or-take, length-take-le}
use Rattle.std.proofs.lemmas.Grind.{flat_map-append}
use Rattle.memchr.specs.Find.{Nowhere, Passes, is_byte}
use Rattle.journal_session.specs.Lines.{longest_line, IsLine, AreLines, lines_text}

-- ## The first place of an LF
line_if : (bytes : List ℕ) → ((k : ℕ) → k < length bytes → get_or bytes k 0 ≢ 10) → IsLine bytes
line_if [] h = tt
line_if (b ∷ bs) h = (h 0 (omega arith), line_if bs (λ k l. h (suc k) (omega arith)))

apart : (b : ℕ) → ((b == 10) ≡ true → ⊥) → b ≢ 10
apart b n e = n (elim (eqb_tells b 10) [ inl p ↦ p.0 | inr p ↦ absurd (p.1 e) ])

line_before : (text : List ℕ) (at : ℕ) → at < length text → Nowhere (Passes (is_byte 10) text) 0 at → IsLine (take at text)
line_before text at l n =
    line_if (take at text) (λ k m.
    let short : length (take at text) ≡ at = length-take-le at text (omega arith) in
    let below : k < at = omega arith in
    apart (get_or (take at text) k 0) (λ e. n k (omega arith) below (ap (λ b. b == 10) (sym (get_or-take at text k 0 below)) ∙ e)))

line_whole : (text : List ℕ) → Nowhere (Passes (is_byte 10) text) 0 (length text) → IsLine text
line_whole text n = line_if text (λ k m. apart (get_or text k 0) (λ e. n k (omega arith) m e))

pub line_append : (xs ys : List ℕ) → IsLine xs → IsLine ys → IsLine (xs ++ ys)
line_append [] ys h k = k
line_append (x ∷ xs) ys h k = (h.0, line_append xs ys h.1 k)

-- the first LF after a front without one
pub line_found : (bytes rest : List ℕ) (searched at : ℕ) → IsLine (take searched bytes) → rest ≡ drop searched bytes → at < length rest
    → Nowhere (Passes (is_byte 10) rest) 0 at → IsLine (take (searched + at) bytes)
line_found bytes rest searched at h e l n =
    let P : List ℕ → Type 0 = λ xs. IsLine (take at xs) in
    rw (take-add searched at bytes) (line_append (take searched bytes) (take at (drop searched bytes)) h (subst P e (line_before rest at l n)))

-- no LF after it
pub line_open : (bytes rest : List ℕ) (searched : ℕ) → IsLine (take searched bytes) → rest ≡ drop searched bytes
    → Nowhere (Passes (is_byte 10) rest) 0 (length rest) → IsLine bytes
line_open bytes rest searched h e n =
    subst IsLine (take-append-drop searched bytes) (line_append (take searched bytes) (drop searched bytes) h (subst IsLine e (line_whole rest n)))

-- ## One line more
pub lines_text_more : (lines : List (List ℕ)) (line : List ℕ) → lines_text (lines ++ line ∷ []) ≡ lines_text lines ++ (line ++ 10 ∷ [])
lines_text_more lines line =
    flat_map-append (λ (l : List ℕ). l ++ 10 ∷ []) lines (line ∷ []) ∙ ap (λ xs. lines_text lines ++ xs) (append-nil (line ++ 10 ∷ []))

pub lines_more : (lines : List (List ℕ)) (line : List ℕ) → AreLines lines → IsLine line → length line ≤ longest_line → AreLines (lines ++ line ∷ [])
lines_more [] line h one short = (one, short, tt)
lines_more (l ∷ ls) line h one short = (h.0, h.1, lines_more ls line h.2 one short)
