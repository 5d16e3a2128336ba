-- The lines of a script that are left after so many, and the actors that they declare.
use Rattle.std.proofs.Common.{◌≡◌, ℕ, zero, suc, ◌+◌, ◌<◌, List, [], ◌∷◌, length, map, refl, sym, ap, ◌∙◌, arith, drop, get_or}
use Rattle.play_script.specs.declared.script_line.ScriptLine.{ScriptLine}
use Rattle.play_model.specs.Lines.{Line, Declares, Acts, Operates, line_of, count_actors}

pub drop_more : (ls : List ScriptLine) (i : ℕ) (d : ScriptLine) → i < length ls → drop i ls ≡ get_or ls i d ∷ drop (i + 1) ls
drop_more [] i d l = absurd (omega (arith, l))
drop_more (x ∷ xs) zero d l = refl
drop_more (x ∷ xs) (suc i) d l = let e : suc i + 1 ≡ suc (i + 1) = omega arith in rw e (drop_more xs i d (omega (arith, l)))

pub none_left : (ls : List ScriptLine) → drop (length ls) ls ≡ []
none_left [] = refl
none_left (x ∷ xs) = none_left xs

-- ## How many actors are declared
declared_more : (l : Line) (ls : List Line) → count_actors (l ∷ ls) ≡ count_actors (l ∷ []) + count_actors ls
unfolding count_actors
declared_more (Declares name) ls = omega arith
declared_more (Acts actor action) ls = omega arith
declared_more (Operates node ask) ls = omega arith

pub count_more : (ls : List ScriptLine) (i n m total : ℕ) (x : ScriptLine) → i < length ls → x ≡ get_or ls i x → m ≡ count_actors (line_of x ∷ []) → n + count_actors (map line_of (drop i ls)) ≡ total
    → (n + m) + count_actors (map line_of (drop (i + 1) ls)) ≡ total
count_more ls i n m total x l is e h =
    let all : count_actors (map line_of (drop i ls)) ≡ count_actors (line_of x ∷ []) + count_actors (map line_of (drop (i + 1) ls)) =
    ap (λ ys. count_actors (map line_of ys)) (drop_more ls i x l) ∙ declared_more (line_of (get_or ls i x)) (map line_of (drop (i + 1) ls))
    ∙ ap (λ y. count_actors (line_of y ∷ []) + count_actors (map line_of (drop (i + 1) ls))) (sym is) in
    omega (arith, all, e, h)

pub count_all : (ls : List ScriptLine) (i n total : ℕ) → i ≡ length ls → n + count_actors (map line_of (drop i ls)) ≡ total → n ≡ total
unfolding count_actors
count_all ls i n total e h =
    let none : count_actors (map line_of (drop i ls)) ≡ 0 = ap (λ k. count_actors (map line_of (drop k ls))) e ∙ ap (λ xs. count_actors (map line_of xs)) (none_left ls) in
    omega (arith, none, h)
