-- A line that its caller calls itself, and the lines that are given back.
use Rattle.std.proofs.Common.{◌≡◌, List, [], ◌∷◌, ◌++◌, length, drop, map, refl, sym, ap, ◌∙◌, append-nil}
use Rattle.std.proofs.lemmas.List.{append_assoc, map-append}
use Rattle.play_pipes.specs.Calls.{Calls, joined}
use Rattle.play_pipes.specs.Ends.{Goes}

drop_whole : {A : Type 0} (xs : List A) → drop (length xs) xs ≡ []
drop_whole [] = refl
drop_whole (x ∷ xs) = drop_whole xs

drop_front : {A : Type 0} (xs ys : List A) → drop (length xs) (xs ++ ys) ≡ ys
drop_front [] ys = refl
drop_front (x ∷ xs) ys = drop_front xs ys

pub kept_first : (start calls : Calls) → calls ≡ start → Goes start calls
kept_first start calls e = ([], e ∙ sym (append-nil start))

pub kept_next : (start calls calls' more : Calls) → Goes start calls → calls' ≡ calls ++ more → Goes start calls'
kept_next start calls calls' more g e = (g.0 ++ more, e ∙ ap (λ l. l ++ more) g.1 ∙ append_assoc start g.0 more)

pub told_first : (start calls : Calls) → calls ≡ start → drop (length start) calls ≡ []
told_first start calls e = ap (drop (length start)) e ∙ drop_whole start

pub told_next : (start calls calls' more : Calls) → Goes start calls → calls' ≡ calls ++ more → drop (length start) calls' ≡ drop (length start) calls ++ more
told_next start calls calls' more g e =
    ap (drop (length start)) (e ∙ ap (λ l. l ++ more) g.1 ∙ append_assoc start g.0 more) ∙ drop_front start (g.0 ++ more)
    ∙ ap (λ l. l ++ more) (sym (ap (drop (length start)) g.1 ∙ drop_front start g.0))

pub told_last : (start calls : Calls) → Goes start calls → calls ≡ start ++ drop (length start) calls
told_last start calls g = g.1 ∙ ap (λ l. start ++ l) (sym (ap (drop (length start)) g.1 ∙ drop_front start g.0))

-- one line more is given back
pub joined_more : {A : Type 0} (f g : A → Calls) (es : List A) (e : A) → joined (map f (es ++ e ∷ [])) (map g (es ++ e ∷ [])) ≡ joined (map f es) (map g es) ++ (f e ++ g e) ∷ []
joined_more f g [] e = refl
joined_more f g (x ∷ es) e = ap (λ l. (f x ++ g x) ∷ l) (joined_more f g es e)

module _ {A B : Type 0} (h : B → Calls) (f g : A → Calls) where
  pub given_more : (ls ls' : List B) (l : B) (es : List A) (e : A) → ls' ≡ ls ++ l ∷ [] → map h ls ≡ joined (map f es) (map g es) → h l ≡ f e ++ g e
      → map h ls' ≡ joined (map f (es ++ e ∷ [])) (map g (es ++ e ∷ []))
  given_more ls ls' l es e to same is = ap (map h) to ∙ map-append h ls (l ∷ []) ∙ ap (λ xs. xs ++ h l ∷ []) same ∙ ap (λ x. joined (map f es) (map g es) ++ x ∷ []) is ∙ sym (joined_more f g es e)

pub started_more : {A B X : Type 0} (f : A → X) (h : B → X) (es es' : List A) (e : A) (ls : List B) (l : B) → es' ≡ es ++ e ∷ [] → map f es ≡ map h ls → f e ≡ h l → map f es' ≡ map h (ls ++ l ∷ [])
started_more f h es es' e ls l to same is = ap (map f) to ∙ map-append f es (e ∷ []) ∙ ap (λ xs. xs ++ f e ∷ []) same ∙ ap (λ x. map h ls ++ x ∷ []) is ∙ sym (map-append h ls (l ∷ []))

fused : {A B X : Type 0} (f : A → B) (g : B → X) (xs : List A) → map g (map f xs) ≡ map (λ x. g (f x)) xs
fused f g [] = refl
fused f g (x ∷ xs) = ap (λ l. g (f x) ∷ l) (fused f g xs)

-- lists of pairs that are the same, part by part
pub parts_same : {A B X Y : Type 0} (f : A → X × Y) (h : B → X × Y) (es : List A) (ls : List B) → map f es ≡ map h ls
    → (map (λ e. (f e).0) es ≡ map (λ l. (h l).0) ls) × (map (λ e. (f e).1) es ≡ map (λ l. (h l).1) ls)
parts_same {A} {B} {X} {Y} f h es ls e = (
  sym (fused f (λ (p : X × Y). p.0) es) ∙ ap (map (λ (p : X × Y). p.0)) e ∙ fused h (λ (p : X × Y). p.0) ls,
  sym (fused f (λ (p : X × Y). p.1) es) ∙ ap (map (λ (p : X × Y). p.1)) e ∙ fused h (λ (p : X × Y). p.1) ls,
)
