-- The order of lines, one after another.
use Rattle.std.proofs.Common.{ℕ, suc, ◌≡◌, ◌<◌, ◌≤◌, ◌+◌, List, [], ◌∷◌, ◌++◌, Bool, true, false, if◌then◌else◌, length, take, drop, get_or}
use Rattle.std.proofs.Common.{sym, ◌∙◌, ap, append_assoc, append-nil, arith}
use Rattle.std.proofs.lemmas.List.{drop_more, drop_all, take_more, map-append}
use Rattle.run_safety.specs.declared.event.Event.{Event}
use Rattle.node_states.specs.declared.node_line.NodeLine.{NodeLine}
use Rattle.node_states.specs.Order.{still_front, next_lines, fronts, front_counts, index_of, brought, told_then, led}

abbrev front_count : List NodeLine → ℕ
front_count ls = length (still_front ls)

-- ## Lines that don't move the node
abbrev front_by : NodeLine → List NodeLine → Bool → List NodeLine
front_by l ls b = if b then [] else l ∷ still_front ls

front_at : (ls : List NodeLine) (place : ℕ) (d : NodeLine) → place < length ls → still_front (drop place ls) ≡ front_by (get_or ls place d) (drop (place + 1) ls) (get_or ls place d).is_moving
unfolding still_front
front_at ls place d l = ap still_front (drop_more ls place d l)

pub still_more : (ls : List NodeLine) (place : ℕ) (d : NodeLine) (out new all : List NodeLine) → out ++ still_front (drop place ls) ≡ all → place < length ls
    → (get_or ls place d).is_moving ≡ false → new ≡ out ++ get_or ls place d ∷ [] → new ++ still_front (drop (place + 1) ls) ≡ all
still_more ls place d out new all h l b e =
    ap (λ (x : List NodeLine). x ++ still_front (drop (place + 1) ls)) e ∙ append_assoc out (get_or ls place d ∷ []) (still_front (drop (place + 1) ls))
    ∙ ap (λ (x : List NodeLine). out ++ x) (sym (front_at ls place d l ∙ ap (front_by (get_or ls place d) (drop (place + 1) ls)) b)) ∙ h

pub count_more : (ls : List NodeLine) (place count : ℕ) (d : NodeLine) → place + length (still_front (drop place ls)) ≡ count → place < length ls
    → (get_or ls place d).is_moving ≡ false → place + 1 + length (still_front (drop (place + 1) ls)) ≡ count
count_more ls place count d h l b =
    let e : length (still_front (drop place ls)) ≡ suc (length (still_front (drop (place + 1) ls))) =
    ap length (front_at ls place d l ∙ ap (front_by (get_or ls place d) (drop (place + 1) ls)) b) in
    omega (arith, h, e)

moving_none : (ls : List NodeLine) (place : ℕ) (d : NodeLine) → place < length ls → (get_or ls place d).is_moving ≡ true → still_front (drop place ls) ≡ []
moving_none ls place d l b = front_at ls place d l ∙ ap (front_by (get_or ls place d) (drop (place + 1) ls)) b

end_none : (ls : List NodeLine) (place : ℕ) → length ls ≤ place → still_front (drop place ls) ≡ []
unfolding still_front
end_none ls place l = ap still_front (drop_all place ls l)

none_left : (out all xs : List NodeLine) → xs ≡ [] → out ++ xs ≡ all → out ≡ all
none_left out all xs e h = sym (append-nil out) ∙ ap (λ (x : List NodeLine). out ++ x) (sym e) ∙ h

none_counted : (place count : ℕ) (xs : List NodeLine) → xs ≡ [] → place + length xs ≡ count → place ≡ count
none_counted place count xs e h = let z : length xs ≡ 0 = ap length e in omega (arith, h, z)

pub still_stops : (ls : List NodeLine) (place : ℕ) (d : NodeLine) (out all : List NodeLine) → out ++ still_front (drop place ls) ≡ all → place < length ls
    → (get_or ls place d).is_moving ≡ true → out ≡ all
still_stops ls place d out all h l b = none_left out all (still_front (drop place ls)) (moving_none ls place d l b) h

pub count_stops : (ls : List NodeLine) (place count : ℕ) (d : NodeLine) → place + length (still_front (drop place ls)) ≡ count → place < length ls
    → (get_or ls place d).is_moving ≡ true → place ≡ count
count_stops ls place count d h l b = none_counted place count (still_front (drop place ls)) (moving_none ls place d l b) h

pub still_ends : (ls : List NodeLine) (place : ℕ) (out all : List NodeLine) → out ++ still_front (drop place ls) ≡ all → length ls ≤ place → out ≡ all
still_ends ls place out all h l = none_left out all (still_front (drop place ls)) (end_none ls place l) h

pub count_ends : (ls : List NodeLine) (place count : ℕ) → place + length (still_front (drop place ls)) ≡ count → length ls ≤ place → place ≡ count
count_ends ls place count h l = none_counted place count (still_front (drop place ls)) (end_none ls place l) h

pub ruleset counts = (count_stops, count_ends)

-- ## The next line
next_at : (ls : List NodeLine) (from : ℕ) (d : NodeLine) → from < length ls → next_lines (drop from ls) ≡ get_or ls from d ∷ still_front (drop (from + 1) ls)
unfolding next_lines
next_at ls from d l = ap next_lines (drop_more ls from d l)

next_none : (ls : List NodeLine) (from : ℕ) → length ls ≤ from → next_lines (drop from ls) ≡ []
unfolding next_lines
next_none ls from l = ap next_lines (drop_all from ls l)

pub next_is : (ls : List NodeLine) (from : ℕ) (d : NodeLine) (out one new : List NodeLine) → from < length ls → one ≡ out ++ get_or ls from d ∷ []
    → new ≡ one ++ still_front (drop (from + 1) ls) → new ≡ out ++ next_lines (drop from ls)
next_is ls from d out one new l o e =
    e ∙ ap (λ (x : List NodeLine). x ++ still_front (drop (from + 1) ls)) o ∙ append_assoc out (get_or ls from d ∷ []) (still_front (drop (from + 1) ls))
    ∙ ap (λ (x : List NodeLine). out ++ x) (sym (next_at ls from d l))

pub next_counts : (ls : List NodeLine) (from count : ℕ) (d : NodeLine) → from < length ls → count ≡ from + 1 + length (still_front (drop (from + 1) ls)) → count ≡ from + length (next_lines (drop from ls))
next_counts ls from count d l e =
    let n : length (next_lines (drop from ls)) ≡ suc (length (still_front (drop (from + 1) ls))) = ap length (next_at ls from d l) in
    omega (arith, e, n)

pub none_is : (ls : List NodeLine) (from : ℕ) (out : List NodeLine) → length ls ≤ from → out ≡ out ++ next_lines (drop from ls)
none_is ls from out l = sym (append-nil out) ∙ ap (λ (x : List NodeLine). out ++ x) (sym (next_none ls from l))

pub none_counts : (ls : List NodeLine) (from : ℕ) → length ls ≤ from → from ≡ from + length (next_lines (drop from ls))
none_counts ls from l = let n : length (next_lines (drop from ls)) ≡ 0 = ap length (next_none ls from l) in omega (arith, n)

pub ruleset nexts = (next_counts, none_is, none_counts)

-- ## Fronts, and what events bring
pub front_more : (lss : List (List NodeLine)) (i : ℕ) (ls s : List NodeLine) (out new all : List NodeLine) → out ++ fronts (drop i lss) ≡ all → i < length lss → ls ≡ get_or lss i ls → s ≡ ls
    → new ≡ out ++ still_front (drop 0 s) → new ++ fronts (drop (i + 1) lss) ≡ all
unfolding fronts
front_more lss i ls s out new all h l is ss e =
    ap (λ (x : List NodeLine). x ++ fronts (drop (i + 1) lss)) (e ∙ ap (λ (x : List NodeLine). out ++ still_front x) (ss ∙ is))
    ∙ append_assoc out (still_front (get_or lss i ls)) (fronts (drop (i + 1) lss))
    ∙ ap (λ (x : List (List NodeLine)). out ++ fronts x) (sym (drop_more lss i ls l)) ∙ h

pub front_counted : (lss : List (List NodeLine)) (i : ℕ) (ls s : List NodeLine) (count : ℕ) (told new : List ℕ) → told ≡ front_counts (take i lss) → i < length lss → ls ≡ get_or lss i ls → s ≡ ls
    → count ≡ 0 + length (still_front (drop 0 s)) → new ≡ told ++ count ∷ [] → new ≡ front_counts (take (i + 1) lss)
front_counted lss i ls s count told new h l is ss n e =
    let first : count ≡ length (still_front (drop 0 s)) = omega (arith, n) in
    let many : count ≡ front_count (get_or lss i ls) = first ∙ ap front_count (ss ∙ is) in
    e ∙ (λ k. h k ++ many k ∷ []) ∙ sym (ap front_counts (take_more lss i ls l) ∙ map-append front_count (take i lss) (get_or lss i ls ∷ []))

pub front_last : (lss : List (List NodeLine)) (i : ℕ) (out all : List NodeLine) → out ++ fronts (drop i lss) ≡ all → length lss ≤ i → out ≡ all
unfolding fronts
front_last lss i out all h l = sym (append-nil out) ∙ ap (λ (x : List (List NodeLine)). out ++ fronts x) (sym (drop_all i lss l)) ∙ h

pub led_more : (lss : List (List NodeLine)) (told then_ : List ℕ) (es : List Event) (i index : ℕ) (e : Event) (out new all : List NodeLine) → out ++ led lss told (drop i es) ≡ all → i < length es
    → e ≡ get_or es i e → index ≡ index_of e → new ≡ out ++ brought lss told index → then_ ≡ told_then lss told index → new ++ led lss then_ (drop (i + 1) es) ≡ all
unfolding led
led_more lss told then_ es i index e out new all h l is at b t =
    ap (λ (x : List ℕ). new ++ led lss x (drop (i + 1) es)) (t ∙ ap (told_then lss told) at)
    ∙ ap (λ (x : List NodeLine). x ++ led lss (told_then lss told (index_of e)) (drop (i + 1) es)) (b ∙ ap (λ (k : ℕ). out ++ brought lss told k) at)
    ∙ append_assoc out (brought lss told (index_of e)) (led lss (told_then lss told (index_of e)) (drop (i + 1) es))
    ∙ ap (λ (x : List Event). out ++ led lss told x) (sym (drop_more es i e l ∙ ap (λ (x : Event). x ∷ drop (i + 1) es) (sym is))) ∙ h

pub led_last : (lss : List (List NodeLine)) (told : List ℕ) (es : List Event) (i : ℕ) (out all : List NodeLine) → out ++ led lss told (drop i es) ≡ all → length es ≤ i → out ≡ all
unfolding led
led_last lss told es i out all h l = sym (append-nil out) ∙ ap (λ (x : List Event). out ++ led lss told x) (sym (drop_all i es l)) ∙ h
