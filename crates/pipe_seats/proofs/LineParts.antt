-- The parts of a tagged line.
use Rattle.std.proofs.Common.{ℕ, ◌≡◌, ◌<◌, ◌^◌, List, [], ◌∷◌, ◌++◌, length, Some, None, refl, sym, ap, ◌∙◌, arith, decimal, append_assoc, length-append}
use Rattle.std.proofs.lemmas.List.Splits.{slice_split_at}
use Rattle.base_words.specs.Words.{joined, is_space, words_of}
use Rattle.base_words.proofs.WordLaws.{words_joined, text_is, words_some}
use Rattle.journal_text.specs.Reading.{number_in}
use Rattle.journal_text.proofs.Spaced.{each_no_space, decimal_no_space}
use Rattle.journal_text.proofs.Found.{number_found, number_back}
use Rattle.pipe_seats.specs.Tagged.{IsSigned, IsEnded, BeginsWithNumber, tagged, IsTagged}

-- ## A number and a space
number_split : (n : ℕ) (rest : List ℕ) → n < 2 ^ 64 → words_of (decimal n ++ 32 ∷ rest) ≡ decimal n ∷ words_of rest
unfolding words_of
number_split n rest h = slice_split_at is_space (decimal n) 32 rest (each_no_space (decimal n) (decimal_no_space n h)) refl

-- what follows the first word
pub split_is : (text word rest : List ℕ) → words_of text ≡ word ∷ words_of rest → text ≡ word ++ 32 ∷ rest
split_is text word rest e = by (words_of rest) refl
  where
    by : (ws : List (List ℕ)) → words_of rest ≡ ws → text ≡ word ++ 32 ∷ rest
    by [] h = absurd (words_some rest h)
    by (w ∷ ws) h =
        let whole : text ≡ joined (word ∷ w ∷ ws) = text_is text (word ∷ w ∷ ws) (e ∙ ap (λ (vs : List (List ℕ)). word ∷ vs) h) in
        let last : joined (w ∷ ws) ≡ rest = ap joined (sym h) ∙ words_joined rest in
        whole ∙ ap (λ (xs : List ℕ). word ++ 32 ∷ xs) last

pub number_read : (text word rest : List ℕ) (n : ℕ) → words_of text ≡ word ∷ words_of rest → Some n ≡ number_in 0 word → text ≡ decimal n ++ 32 ∷ rest
number_read text word rest n e h = split_is text word rest e ∙ ap (λ (w : List ℕ). w ++ 32 ∷ rest) (number_found word n (sym h)).0

pub no_word : (text : List ℕ) → words_of text ≡ text ∷ [] → BeginsWithNumber text → ⊥
no_word text e b =
    let split : words_of text ≡ decimal b.number ∷ words_of b.rest = ap words_of b.is ∙ number_split b.number b.rest b.wide in
    let none : words_of b.rest ≡ [] = cc in
    words_some b.rest none

pub no_number : (text word rest : List ℕ) → words_of text ≡ word ∷ words_of rest → None ≡ number_in 0 word → BeginsWithNumber text → ⊥
no_number text word rest e h b =
    let split : words_of text ≡ decimal b.number ∷ words_of b.rest = ap words_of b.is ∙ number_split b.number b.rest b.wide in
    let same : word ≡ decimal b.number = cc in
    let read : number_in 0 word ≡ Some b.number = ap (number_in 0) same ∙ number_back b.number b.wide in
    cc (h, read)

pub ruleset numbers = (number_read, no_word, no_number)

-- ## The end
pub short_end : (text : List ℕ) → length text < 2 → IsEnded text → ⊥
short_end text l b = omega (arith, l, ap length b.is, length-append b.front (32 ∷ 46 ∷ []))

last_two : (front end other : List ℕ) (a b : ℕ) → length end ≡ 2 → front ++ end ≡ other ++ a ∷ b ∷ [] → end ≡ a ∷ b ∷ []
last_two [] end [] a b l e = e
last_two [] end (y ∷ other) a b l e = absurd (omega (arith, l, ap length e, length-append other (a ∷ b ∷ [])))
last_two (x ∷ front) end [] a b l e = absurd (omega (arith, l, ap length e, length-append front end))
last_two (x ∷ front) end (y ∷ other) a b l e = let more : front ++ end ≡ other ++ a ∷ b ∷ [] = cc in last_two front end other a b l more

pub other_end : (text front end : List ℕ) → text ≡ front ++ end → length end ≡ 2 → (end ≡ 32 ∷ 46 ∷ [] → ⊥) → IsEnded text → ⊥
other_end text front end e l off b = off (last_two front end b.front 32 46 l (sym e ∙ b.is))

pub ruleset ends = (short_end, other_end)

-- ## The whole line
pub parts : (life call : ℕ) (text : List ℕ) → tagged life call text ≡ 35 ∷ (decimal life ++ 32 ∷ (decimal call ++ 32 ∷ (text ++ 32 ∷ 46 ∷ [])))
parts life call text =
    append_assoc ((35 ∷ decimal life) ++ (32 ∷ decimal call)) (32 ∷ text) (32 ∷ 46 ∷ [])
    ∙ append_assoc (35 ∷ decimal life) (32 ∷ decimal call) (32 ∷ text ++ 32 ∷ 46 ∷ [])

pub line_is : (line a b c text : List ℕ) (life call : ℕ) → line ≡ 35 ∷ a → a ≡ decimal life ++ 32 ∷ b → b ≡ decimal call ++ 32 ∷ c → c ≡ text ++ 32 ∷ 46 ∷ [] → line ≡ tagged life call text
line_is line a b c text life call h i j k =
    h ∙ ap (λ xs. 35 ∷ xs) (i ∙ ap (λ xs. decimal life ++ 32 ∷ xs) (j ∙ ap (λ xs. decimal call ++ 32 ∷ xs) k)) ∙ sym (parts life call text)

pub no_sign : (line : List ℕ) → (IsSigned line → ⊥) → IsTagged line → ⊥
no_sign line off h = off (record { rest = _; is = h.is ∙ parts h.life h.call h.text })

same_rest : (a b c : List ℕ) (m n : ℕ) → m < 2 ^ 64 → n < 2 ^ 64 → a ≡ decimal m ++ 32 ∷ b → a ≡ decimal n ++ 32 ∷ c → b ≡ c
same_rest a b c m n h k e f =
    let one : words_of a ≡ decimal m ∷ words_of b = ap words_of e ∙ number_split m b h in
    let two : words_of a ≡ decimal n ∷ words_of c = ap words_of f ∙ number_split n c k in
    let same : words_of b ≡ words_of c = cc in
    sym (words_joined b) ∙ ap joined same ∙ words_joined c

after_sign : (line a : List ℕ) (h : IsTagged line) → line ≡ 35 ∷ a → a ≡ decimal h.life ++ 32 ∷ (decimal h.call ++ 32 ∷ (h.text ++ 32 ∷ 46 ∷ []))
after_sign line a h e =
    let same : 35 ∷ a ≡ 35 ∷ (decimal h.life ++ 32 ∷ (decimal h.call ++ 32 ∷ (h.text ++ 32 ∷ 46 ∷ []))) = sym e ∙ h.is ∙ parts h.life h.call h.text in
    cc same

after_life : (line a b : List ℕ) (h : IsTagged line) (life : ℕ) → life < 2 ^ 64 → line ≡ 35 ∷ a → a ≡ decimal life ++ 32 ∷ b → b ≡ decimal h.call ++ 32 ∷ (h.text ++ 32 ∷ 46 ∷ [])
after_life line a b h life l e f = same_rest a b (decimal h.call ++ 32 ∷ (h.text ++ 32 ∷ 46 ∷ [])) life h.life l h.wide_life f (after_sign line a h e)

pub no_life : (line a : List ℕ) → line ≡ 35 ∷ a → (BeginsWithNumber a → ⊥) → IsTagged line → ⊥
no_life line a e off h = off (record { number = h.life; rest = decimal h.call ++ 32 ∷ (h.text ++ 32 ∷ 46 ∷ []); wide = h.wide_life; is = after_sign line a h e })

pub no_call : (line a b : List ℕ) (life : ℕ) → life < 2 ^ 64 → line ≡ 35 ∷ a → a ≡ decimal life ++ 32 ∷ b → (BeginsWithNumber b → ⊥) → IsTagged line → ⊥
no_call line a b life l e f off h = off (record { number = h.call; rest = h.text ++ 32 ∷ 46 ∷ []; wide = h.wide_call; is = after_life line a b h life l e f })

pub no_end : (line a b c : List ℕ) (life call : ℕ) → life < 2 ^ 64 → call < 2 ^ 64 → line ≡ 35 ∷ a → a ≡ decimal life ++ 32 ∷ b → b ≡ decimal call ++ 32 ∷ c → (IsEnded c → ⊥) → IsTagged line → ⊥
no_end line a b c life call l m e f g off h =
    off (record { front = h.text; is = same_rest b c (h.text ++ 32 ∷ 46 ∷ []) call h.call m h.wide_call g (after_life line a b h life l e f) })

pub ruleset lines = (line_is, no_sign, no_life, no_call, no_end)

-- ## What is written
pub written : (old a b c d e f new : List ℕ) (life call : ℕ) (text : List ℕ) → a ≡ old ++ 35 ∷ [] → b ≡ a ++ decimal life → c ≡ b ++ 32 ∷ [] → d ≡ c ++ decimal call → e ≡ d ++ 32 ∷ [] → f ≡ e ++ text
    → new ≡ f ++ 32 ∷ 46 ∷ [] → new ≡ old ++ tagged life call text
written old a b c d e f new life call text h i j k l m n =
    n ∙ ap (λ x. x ++ 32 ∷ 46 ∷ []) (m ∙ ap (λ x. x ++ text) (l ∙ ap (λ x. x ++ 32 ∷ []) (k ∙ ap (λ x. x ++ decimal call) (j ∙ ap (λ x. x ++ 32 ∷ []) (i ∙ ap (λ x. x ++ decimal life) h)))))
    ∙ append_assoc (((((old ++ 35 ∷ []) ++ decimal life) ++ 32 ∷ []) ++ decimal call) ++ 32 ∷ []) text (32 ∷ 46 ∷ [])
    ∙ append_assoc ((((old ++ 35 ∷ []) ++ decimal life) ++ 32 ∷ []) ++ decimal call) (32 ∷ []) (text ++ 32 ∷ 46 ∷ [])
    ∙ append_assoc (((old ++ 35 ∷ []) ++ decimal life) ++ 32 ∷ []) (decimal call) (32 ∷ (text ++ 32 ∷ 46 ∷ []))
    ∙ append_assoc ((old ++ 35 ∷ []) ++ decimal life) (32 ∷ []) (decimal call ++ 32 ∷ (text ++ 32 ∷ 46 ∷ []))
    ∙ append_assoc (old ++ 35 ∷ []) (decimal life) (32 ∷ (decimal call ++ 32 ∷ (text ++ 32 ∷ 46 ∷ [])))
    ∙ append_assoc old (35 ∷ []) (decimal life ++ 32 ∷ (decimal call ++ 32 ∷ (text ++ 32 ∷ 46 ∷ [])))
    ∙ ap (λ x. old ++ x) (sym (parts life call text))
