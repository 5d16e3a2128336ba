-- Laws of texts that grow at the end.
use Rattle.std.proofs.Common.{ℕ, ◌≡◌, ◌<◌, ◌≤◌, ◌+◌, ◌-◌, ◌^◌, List, [], ◌∷◌, ◌++◌, length, take, drop, get_or, refl, sym, ◌∙◌, ap, arith, append_assoc, append-nil, replicate, decimal, rules}
use Rattle.std.proofs.lemmas.List.{drop_more, take_more, get_or-take, get_or-replicate, take_rest}
use Rattle.std.proofs.lemmas.Fmt.{length-decimal-le}
use Rattle.journal_core.specs.declared.segment_line.SegmentLine.{SegmentLine}
use Rattle.base_words.specs.Hex.{hex_text}
use Rattle.base_words.proofs.AppendLaws.{Keeps-same, Keeps-more, Keeps-on, Keeps-cut}
use Rattle.journal_text.specs.Texts.{spaced, numbers_text, bodies_text, line_text, lines_text}

numbers-append : (ms ns : List ℕ) → numbers_text (ms ++ ns) ≡ numbers_text ms ++ numbers_text ns
unfolding numbers_text
numbers-append [] ns = refl
numbers-append (m ∷ ms) ns = ap (λ xs. spaced (decimal m) ++ xs) (numbers-append ms ns) ∙ sym (append_assoc (spaced (decimal m)) (numbers_text ms) (numbers_text ns))

bodies-append : (ms ns : List (List ℕ)) → bodies_text (ms ++ ns) ≡ bodies_text ms ++ bodies_text ns
unfolding bodies_text
bodies-append [] ns = refl
bodies-append (m ∷ ms) ns = ap (λ xs. spaced (hex_text m) ++ xs) (bodies-append ms ns) ∙ sym (append_assoc (spaced (hex_text m)) (bodies_text ms) (bodies_text ns))

lines-append : (ms ns : List SegmentLine) → lines_text (ms ++ ns) ≡ lines_text ms ++ lines_text ns
unfolding lines_text
lines-append [] ns = refl
lines-append (m ∷ ms) ns = ap (λ xs. line_text m ++ xs) (lines-append ms ns) ∙ sym (append_assoc (line_text m) (lines_text ms) (lines_text ns))

-- one more
pub numbers_more : (ns : List ℕ) (i d : ℕ) → i < length ns → numbers_text (take (i + 1) ns) ≡ numbers_text (take i ns) ++ (32 ∷ decimal (get_or ns i d))
unfolding numbers_text
numbers_more ns i d l = ap numbers_text (take_more ns i d l) ∙ numbers-append (take i ns) (get_or ns i d ∷ [])
    ∙ ap (λ xs. numbers_text (take i ns) ++ xs) (append-nil (spaced (decimal (get_or ns i d))))

pub bodies_more : (ns : List (List ℕ)) (i : ℕ) (d : List ℕ) → i < length ns → bodies_text (take (i + 1) ns) ≡ bodies_text (take i ns) ++ (32 ∷ hex_text (get_or ns i d))
unfolding bodies_text
bodies_more ns i d l = ap bodies_text (take_more ns i d l) ∙ bodies-append (take i ns) (get_or ns i d ∷ []) ∙ ap (λ xs. bodies_text (take i ns) ++ xs) (append-nil (spaced (hex_text (get_or ns i d))))

pub lines_more : (ns : List SegmentLine) (i : ℕ) (d : SegmentLine) → i < length ns → lines_text (take (i + 1) ns) ≡ lines_text (take i ns) ++ line_text (get_or ns i d)
unfolding lines_text
lines_more ns i d l = ap lines_text (take_more ns i d l) ∙ lines-append (take i ns) (get_or ns i d ∷ []) ∙ ap (λ xs. lines_text (take i ns) ++ xs) (append-nil (line_text (get_or ns i d)))

pub numbers_none : (old : List ℕ) → old ≡ old ++ numbers_text []
unfolding numbers_text
numbers_none old = sym (append-nil old)

pub bodies_none : (old : List ℕ) → old ≡ old ++ bodies_text []
unfolding bodies_text
bodies_none old = sym (append-nil old)

pub lines_none : (old : List ℕ) → old ≡ old ++ lines_text []
unfolding lines_text
lines_none old = sym (append-nil old)

-- what was added, and more after it
pub grow : (old mid new a b c : List ℕ) → mid ≡ old ++ a → new ≡ mid ++ b → c ≡ a ++ b → new ≡ old ++ c
grow old mid new a b c m n e = n ∙ ap (λ x. x ++ b) m ∙ append_assoc old a b ∙ ap (λ x. old ++ x) (sym e)

pub decimal_short : (n : ℕ) → n < 2 ^ 64 → length (decimal n) ≤ 20
decimal_short n h = search (rules, length-decimal-le 20)

-- a mark, and the digits after it
pub marked : (mark n start : ℕ) (buf : List ℕ) → n < 2 ^ 64 → length buf ≡ 21 → start + length (decimal n) ≡ 21
    → drop start buf ≡ decimal n ++ drop 21 (replicate 21 mark) → take start buf ≡ take start (replicate 21 mark) → drop (start - 1) buf ≡ mark ∷ decimal n
marked mark n start buf h size e written before =
    let short : length (decimal n) ≤ 20 = decimal_short n h in
    let next : start - 1 + 1 ≡ start = omega arith in
    let there : get_or buf (start - 1) mark ≡ mark =
    sym (get_or-take start buf (start - 1) mark (omega arith)) ∙ ap (λ (xs : List ℕ). get_or xs (start - 1) mark) before
    ∙ get_or-take start (replicate 21 mark) (start - 1) mark (omega arith) ∙ get_or-replicate 21 (start - 1) mark mark (omega arith) in
    let behind : drop start buf ≡ decimal n = written ∙ append-nil (decimal n) in
    drop_more buf (start - 1) mark (omega arith) ∙ ap (λ x. x ∷ drop (start - 1 + 1) buf) there ∙ ap (λ i. mark ∷ drop i buf) next ∙ ap (λ xs. mark ∷ xs) behind

pub marked_piece : (mark n start : ℕ) (buf : List ℕ) → n < 2 ^ 64 → length buf ≡ 21 → start + length (decimal n) ≡ 21
    → drop start buf ≡ decimal n ++ drop 21 (replicate 21 mark) → take start buf ≡ take start (replicate 21 mark) → take (21 - (start - 1)) (drop (start - 1) buf) ≡ mark ∷ decimal n
marked_piece mark n start buf h size e written before =
    ap (λ k. take (k - (start - 1)) (drop (start - 1) buf)) (sym size) ∙ take_rest buf (start - 1) ∙ marked mark n start buf h size e written before

-- one more body
pub body_grows : (old mid one two new piece c : List ℕ) → mid ≡ old ++ piece → one ≡ mid ++ 32 ∷ [] → new ≡ one ++ two → c ≡ piece ++ (32 ∷ two) → new ≡ old ++ c
body_grows old mid one two new piece c m o n e =
    n ∙ ap (λ x. x ++ two) (o ∙ ap (λ x. x ++ 32 ∷ []) m) ∙ append_assoc (old ++ piece) (32 ∷ []) two ∙ append_assoc old piece (32 ∷ two) ∙ ap (λ x. old ++ x) (sym e)

pub ruleset prints = (Keeps-same, Keeps-more, Keeps-on, Keeps-cut, numbers_more, bodies_more, lines_more, numbers_none, bodies_none, lines_none, decimal_short)
