-- The ends of the actors that are declared, line after line.
use Rattle.std.proofs.Common.{◌≡◌, ℕ, ◌+◌, ◌<◌, List, [], ◌∷◌, ◌++◌, length, map, take, refl, sym, ap, ◌∙◌, append-nil, get_or, arith}
use Rattle.std.specs.List.{zip}
use Rattle.play_script.specs.declared.script_line.ScriptLine.{ScriptLine}
use Rattle.play_model.specs.Lines.{names_in, line_of}
use Rattle.play_model.proofs.Taking.{names_append}
use Rattle.play_threads.proofs.ActorLaws.{lines_next}

pub ends_same : (ends : List (List ℕ)) → ends ≡ ends ++ []
ends_same ends = sym (append-nil ends)

pub names_first : (items : List ScriptLine) → [] ≡ names_in (map line_of (take 0 items))
unfolding names_in
names_first items = refl

pub names_next : (items : List ScriptLine) (i : ℕ) (x : ScriptLine) (old new : List (List ℕ)) → i < length items → x ≡ get_or items i x
    → old ≡ names_in (map line_of (take i items)) → new ≡ old ++ names_in (line_of x ∷ [])
    → new ≡ names_in (map line_of (take (i + 1) items))
names_next items i x old new h e is more =
    more ∙ ap (λ l. l ++ names_in (line_of x ∷ [])) is ∙ sym (names_append (map line_of (take i items)) (line_of x ∷ [])) ∙ ap names_in (sym (lines_next items i x h e))

-- ## Names and what is held at last, side by side
zip_firsts : {A B : Type 0} (xs : List A) (ys : List B) → length xs ≡ length ys → map (λ (p : A × B). p.0) (zip xs ys) ≡ xs
zip_firsts [] ys h = refl
zip_firsts (x ∷ xs) [] h = absurd (omega (arith, h))
zip_firsts (x ∷ xs) (y ∷ ys) h = ap (λ l. x ∷ l) (zip_firsts xs ys (omega (arith, h)))

zip_seconds : {A B : Type 0} (xs : List A) (ys : List B) → length xs ≡ length ys → map (λ (p : A × B). p.1) (zip xs ys) ≡ ys
zip_seconds [] [] h = refl
zip_seconds [] (y ∷ ys) h = absurd (omega (arith, h))
zip_seconds (x ∷ xs) [] h = refl
zip_seconds (x ∷ xs) (y ∷ ys) h = ap (λ l. y ∷ l) (zip_seconds xs ys (omega (arith, h)))

firsts_of : {A B : Type 0} (ps : List (A × B)) → map (λ (p : A × B). p.0) (map (λ (p : A × B). (p.0, p.1)) ps) ≡ map (λ (p : A × B). p.0) ps
firsts_of [] = refl
firsts_of (p ∷ ps) = ap (λ l. p.0 ∷ l) (firsts_of ps)

seconds_of : {A B : Type 0} (ps : List (A × B)) → map (λ (p : A × B). p.1) (map (λ (p : A × B). (p.0, p.1)) ps) ≡ map (λ (p : A × B). p.1) ps
seconds_of [] = refl
seconds_of (p ∷ ps) = ap (λ l. p.1 ∷ l) (seconds_of ps)

pub firsts : {A B : Type 0} (ps : List (A × B)) (xs : List A) (ys : List B) → map (λ (p : A × B). (p.0, p.1)) ps ≡ zip xs ys → length xs ≡ length ys → map (λ (p : A × B). p.0) ps ≡ xs
firsts ps xs ys e h = sym (firsts_of ps) ∙ ap (map (λ p. p.0)) e ∙ zip_firsts xs ys h

pub seconds : {A B : Type 0} (ps : List (A × B)) (xs : List A) (ys : List B) → map (λ (p : A × B). (p.0, p.1)) ps ≡ zip xs ys → length xs ≡ length ys → map (λ (p : A × B). p.1) ps ≡ ys
seconds ps xs ys e h = sym (seconds_of ps) ∙ ap (map (λ p. p.1)) e ∙ zip_seconds xs ys h

pub ruleset ends = (ends_same)
