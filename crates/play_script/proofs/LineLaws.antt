-- A text, line by line.
use Rattle.std.proofs.Common.{ℕ, ◌≡◌, ◌≢◌, ◌<◌, ◌+◌, List, [], ◌∷◌, ◌++◌, length, true, false, ◌==◌, refl, sym, ap, arith, ◌∙◌, append_assoc, append-nil, take, drop, get_or, inl, inr, suc}
use Rattle.std.proofs.lemmas.Bool.Decides.{eqb_tells}
use Rattle.std.proofs.lemmas.Bool.{false≢true}
use Rattle.std.proofs.lemmas.List.{drop_more, take-append-drop, get_or-take, length-take-le}
use Rattle.memchr.specs.Find.{Nowhere, Passes, is_byte}
use Rattle.play_script.specs.Lines.{Ended, Open, last_line, lines_from, lines_of, Lacks}

pub not_end : (b : ℕ) → b ≢ 10 → (b == 10) ≡ false
not_end b n = elim (eqb_tells b 10) [ inl p ↦ absurd (n p.1) | inr p ↦ p.0 ]

from_more : (line sofar rest : List ℕ) → Lacks 10 line → lines_from (line ++ 10 ∷ rest) sofar ≡ Ended (sofar ++ line) ∷ lines_from rest []
from_more [] sofar rest h = ap (λ l. Ended l ∷ lines_from rest []) (sym (append-nil sofar))
from_more (b ∷ bs) sofar rest h =
    let n : (b == 10) ≡ false = not_end b h.0 in
    rw n (from_more bs (sofar ++ b ∷ []) rest h.1 ∙ ap (λ l. Ended l ∷ lines_from rest []) (append_assoc sofar (b ∷ []) bs))

open_more : (bytes sofar : List ℕ) → Lacks 10 bytes → lines_from bytes sofar ≡ last_line (sofar ++ bytes)
open_more [] sofar h = ap last_line (sym (append-nil sofar))
open_more (b ∷ bs) sofar h =
    let n : (b == 10) ≡ false = not_end b h.0 in
    rw n (open_more bs (sofar ++ b ∷ []) h.1 ∙ ap last_line (append_assoc sofar (b ∷ []) bs))

last_open : (bytes : List ℕ) → 0 < length bytes → last_line bytes ≡ Open bytes ∷ []
last_open [] n = absurd (omega arith)
last_open (b ∷ bs) n = refl

-- the first line of a text
pub line_first : (bytes line rest : List ℕ) → bytes ≡ line ++ 10 ∷ rest → Lacks 10 line → lines_of bytes ≡ Ended line ∷ lines_of rest
unfolding lines_of
line_first bytes line rest e h = rw e (from_more line [] rest h)

-- a text without an LF
pub line_open : (bytes : List ℕ) → Lacks 10 bytes → 0 < length bytes → lines_of bytes ≡ Open bytes ∷ []
unfolding lines_of
line_open bytes h n = open_more bytes [] h ∙ last_open bytes n

pub no_lines : (bytes : List ℕ) → bytes ≡ [] → lines_of bytes ≡ []
unfolding lines_of
no_lines bytes e = rw e refl

-- ## A text at the first place of a byte
lacks_if : (c : ℕ) (bytes : List ℕ) → ((k : ℕ) → k < length bytes → get_or bytes k 0 ≢ c) → Lacks c bytes
lacks_if c [] h = tt
lacks_if c (b ∷ bs) h = (h 0 (omega arith), lacks_if c bs (λ k l. h (suc k) (omega arith)))

apart : (b c : ℕ) → ((b == c) ≡ true → ⊥) → b ≢ c
apart b c n e = n (elim (eqb_tells b c) [ inl p ↦ p.0 | inr p ↦ absurd (p.1 e) ])

same : (b c : ℕ) → (b == c) ≡ true → b ≡ c
same b c e = elim (eqb_tells b c) [ inl p ↦ p.1 | inr p ↦ absurd (false≢true (sym p.0 ∙ e)) ]

pub cut_spelled : (c : ℕ) (text : List ℕ) (at : ℕ) → at < length text → Passes (is_byte c) text at → text ≡ take at text ++ c ∷ drop (at + 1) text
cut_spelled c text at l p =
    sym (take-append-drop at text) ∙ ap (λ xs. take at text ++ xs) (drop_more text at 0 l ∙ ap (λ b. b ∷ drop (at + 1) text) (same (get_or text at 0) c p))

pub cut_first : (c : ℕ) (text : List ℕ) (at : ℕ) → at < length text → Nowhere (Passes (is_byte c) text) 0 at → Lacks c (take at text)
cut_first c text at l n =
    lacks_if c (take at text) (λ k m.
    let short : length (take at text) ≡ at = length-take-le at text (omega arith) in
    let below : k < at = omega arith in
    apart (get_or (take at text) k 0) c (λ e. n k (omega arith) below (ap (λ b. b == c) (sym (get_or-take at text k 0 below)) ∙ e)))

pub cut_none : (c : ℕ) (text : List ℕ) → Nowhere (Passes (is_byte c) text) 0 (length text) → Lacks c text
cut_none c text n = lacks_if c text (λ k m. apart (get_or text k 0) c (λ e. n k (omega arith) m e))

pub ruleset cuts = (cut_spelled, cut_first, cut_none)
