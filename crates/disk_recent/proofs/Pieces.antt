-- The edits that are held from a txid on, copied slice by slice.
use Rattle.std.proofs.Common.{ℕ, ◌≡◌, ◌≢◌, ◌+◌, ◌-◌, ◌<◌, ◌≤◌, Bool, true, false, List, [], ◌∷◌, ◌++◌, length, take, drop, Option, Some, None, refl, sym, ap, subst, ◌∙◌, arith, length-append}
use Rattle.std.proofs.lemmas.Bool.Decides.{nat_tests}
use Rattle.std.proofs.lemmas.List.{drop-map, length-map, length-take-le, length-drop, length-take, take-take, take_all}
use Rattle.std.proofs.lemmas.List.Elements.{All-take}
use Rattle.std.proofs.Math.Seq.{take-add}
use Rattle.std.specs.Prelude.{nat_le, IfSome, ◌==◌, if◌then◌else◌}
use Rattle.disk_recent.specs.Edits.{Edit, bodies_of, first_txid, number_edits, since, stored_bytes, IsStored}
use Rattle.disk_recent.proofs.Numbered.{since-before, since-on}
use Rattle.disk_recent.specs.Recent.{AreFilled}
use Rattle.disk_recent.proofs.Pushing.{rest_filled}

filled_since : (txid : ℕ) (es : List Edit) → AreFilled (bodies_of es) → AreFilled (bodies_of (since txid es))
filled_since txid [] filled = filled
filled_since txid (e ∷ es) filled = by (e.txid == txid) (filled_since txid es (rest_filled e.body (bodies_of es) filled))
  where
    by : (b : Bool) → AreFilled (bodies_of (since txid es)) → AreFilled (bodies_of (if b then e ∷ es else since txid es))
    by true later = filled
    by false later = later

-- after k of them, those that are left
after : (first from k : ℕ) (bs : List (List ℕ)) → k ≤ length (since from (number_edits first bs)) → since (from + k) (number_edits first bs) ≡ drop k (since from (number_edits first bs))
after first from k bs within = by (nat_le first from) refl
  where
    one : (xs : List Edit) → xs ≡ [] → k ≤ length xs → k ≡ 0
    one xs none within = let e : length xs ≡ 0 = ap length none in omega arith

    by : (b : Bool) → nat_le first from ≡ b → since (from + k) (number_edits first bs) ≡ drop k (since from (number_edits first bs))
    by true is = since-on first bs from k (grind (arith, nat_tests))
    by false is =
        let none : since from (number_edits first bs) ≡ [] = since-before first bs from (grind (arith, nat_tests)) in
        let e : k ≡ 0 = one (since from (number_edits first bs)) none within in
        (let same : from + k ≡ from = omega arith in ap (λ (n : ℕ). since n (number_edits first bs)) same) ∙ ap (λ (n : ℕ). drop n (since from (number_edits first bs))) (sym e)

pub after_held : (first : Option ℕ) (es : List Edit) (from k : ℕ) → first ≡ first_txid es → IfSome first (λ t. es ≡ number_edits t (bodies_of es))
    → k ≤ length (since from es) → since (from + k) es ≡ drop k (since from es)
after_held first [] from k is consecutive within = let e : k ≡ 0 = omega arith in ap (λ (n : ℕ). drop n []) (sym e)
after_held first (e ∷ es) from k is consecutive within = by first is consecutive
  where
    by : (first : Option ℕ) → first ≡ Some e.txid → IfSome first (λ t. e ∷ es ≡ number_edits t (bodies_of (e ∷ es))) → since (from + k) (e ∷ es) ≡ drop k (since from (e ∷ es))
    by None is consecutive = absurd (cc)
    by (Some t) is consecutive =
        let P : List Edit → Type 0 = λ xs. k ≤ length (since from xs) → since (from + k) xs ≡ drop k (since from xs) in
        subst P (sym consecutive) (after t from k (bodies_of (e ∷ es))) within

held_within : (k : ℕ) (xs : List Edit) → k ≡ length (take k (bodies_of xs)) → k ≤ length xs
held_within k xs e = omega (arith, length-take k (bodies_of xs), length-map xs (λ (x : Edit). x.body))

-- more of them are copied
pub record IsNext (few : ℕ) (all new : List (List ℕ)) (before : ℕ) : Type 0 where
  pub within : length new ≤ few
  pub held : new ≡ take (length new) all
  pub more : before < length new

copied : (few n : ℕ) (all bodies new : List (List ℕ)) → bodies ≡ take (length bodies) all → length bodies < few → 0 < n → n ≤ length (drop (length bodies) all)
    → new ≡ bodies ++ take (few - length bodies) (take n (drop (length bodies) all)) → IsNext few all new (length bodies)
copied few n all bodies new held room some within is = by (nat_le (few - length bodies) n) refl
  where
    at : (j : ℕ) → 0 < j → j ≤ few - length bodies → j ≤ length (drop (length bodies) all)
        → take (few - length bodies) (take n (drop (length bodies) all)) ≡ take j (drop (length bodies) all) → IsNext few all new (length bodies)
    at j low high there same =
        let longer : length new ≡ length bodies + j =
        ap length (is ∙ ap (λ (xs : List (List ℕ)). bodies ++ xs) same) ∙ length-append bodies (take j (drop (length bodies) all))
        ∙ ap (λ (m : ℕ). length bodies + m) (length-take-le j (drop (length bodies) all) there) in
        let whole : new ≡ take (length bodies + j) all =
        is ∙ ap (λ (xs : List (List ℕ)). bodies ++ xs) same ∙ ap (λ (xs : List (List ℕ)). xs ++ take j (drop (length bodies) all)) held ∙ sym (take-add (length bodies) j all) in
        record { within = omega arith; held = whole ∙ ap (λ (m : ℕ). take m all) (sym longer); more = omega arith }

    by : (b : Bool) → nat_le (few - length bodies) n ≡ b → IsNext few all new (length bodies)
    by true le = let l : few - length bodies ≤ n = grind (arith, nat_tests) in at (few - length bodies) (omega arith) (omega arith) (omega arith)
        (take-take (few - length bodies) n (drop (length bodies) all) l)
    by false lt =
        let l : n ≤ few - length bodies = grind (arith, nat_tests) in
        at n some l within (take_all (few - length bodies) (take n (drop (length bodies) all))
        (let e : length (take n (drop (length bodies) all)) ≡ n = length-take-le n (drop (length bodies) all) within in omega arith))

pub next_copied : (few from : ℕ) (first : Option ℕ) (es : List Edit) (bodies new : List (List ℕ)) (slice : List ℕ) → first ≡ first_txid es
    → IfSome first (λ t. es ≡ number_edits t (bodies_of es)) → AreFilled (bodies_of es)
    → bodies ≡ take (length bodies) (bodies_of (since from es)) → length bodies < few → IsStored (bodies_of (since (from + length bodies) es)) slice
    → ((added : List (List ℕ)) → slice ≡ stored_bytes added → AreFilled added → new ≡ bodies ++ take (few - length bodies) added)
    → IsNext few (bodies_of (since from es)) new (length bodies)
next_copied few from first es bodies new slice is consecutive filled held room run pushed =
    let all : List (List ℕ) = bodies_of (since from es) in
    let rest : bodies_of (since (from + length bodies) es) ≡ drop (length bodies) all =
    ap bodies_of (after_held first es from (length bodies) is consecutive (held_within (length bodies) (since from es) (ap length held)))
    ∙ sym (drop-map (λ (e : Edit). e.body) (length bodies) (since from es)) in
    let added : List (List ℕ) = take run.0 (bodies_of (since (from + length bodies) es)) in
    copied few run.0 all bodies new held room run.1 (subst (λ (xs : List (List ℕ)). run.0 ≤ length xs) rest run.2)
    (pushed added run.3 (All-take (λ (b : List ℕ). b ≢ []) run.0 (bodies_of (since (from + length bodies) es)) (filled_since (from + length bodies) es filled))
    ∙ ap (λ (xs : List (List ℕ)). bodies ++ take (few - length bodies) (take run.0 xs)) rest)

-- all are copied, or as many as are wanted
pub all_copied : (few from : ℕ) (first : Option ℕ) (es : List Edit) (bodies : List (List ℕ)) → first ≡ first_txid es
    → IfSome first (λ t. es ≡ number_edits t (bodies_of es)) → length bodies ≤ few → bodies ≡ take (length bodies) (bodies_of (since from es))
    → since (from + length bodies) es ≡ [] → bodies ≡ take few (bodies_of (since from es))
all_copied few from first es bodies is consecutive room held none =
    let all : List (List ℕ) = bodies_of (since from es) in
    let short : length all ≤ length bodies = ends (length bodies) (since from es)
    (sym (after_held first es from (length bodies) is consecutive (held_within (length bodies) (since from es) (ap length held))) ∙ none) in
    held ∙ take_all (length bodies) all short ∙ sym (take_all few all (omega arith))
  where
    ends : (k : ℕ) (xs : List Edit) → drop k xs ≡ [] → length (bodies_of xs) ≤ k
    ends k xs none = omega (arith, length-drop k xs, ap length none, length-map xs (λ (x : Edit). x.body))

pub enough_copied : (few : ℕ) (all bodies : List (List ℕ)) → length bodies ≤ few → few ≤ length bodies → bodies ≡ take (length bodies) all → bodies ≡ take few all
enough_copied few all bodies high low held = held ∙ (let e : length bodies ≡ few = omega arith in ap (λ (n : ℕ). take n all) e)
