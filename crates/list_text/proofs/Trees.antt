-- The tokens of arrays and objects, item by item.
use Rattle.std.proofs.Common.{◌≡◌, ℕ, List, [], ◌∷◌, ◌++◌, Result, Ok, Err, refl, sym, ap, ◌∙◌, subst, append_assoc}
use Rattle.std.specs.List.{flat_map}
use Rattle.json.specs.Json.{Json}
use Rattle.json.specs.Token.{Token}
use Rattle.json.specs.Tree.{json_tokens, items_tokens, members_tokens}
use Rattle.json.specs.Print.{print}
use Rattle.json.specs.Written.{Written}
use Rattle.list_text.specs.Values.{items_of, array_of, members_of, object_of, json_line, member_tokens}
use Rattle.list_text.specs.Written.{Adds}

pub items_are : (js : List Json) → items_tokens (items_of js) ≡ flat_map json_tokens js ++ Token.end_array ∷ []
items_are [] = refl
items_are (j ∷ js) = ap (λ (z : List Token). json_tokens j ++ z) (items_are js) ∙ sym (append_assoc (json_tokens j) (flat_map json_tokens js) (Token.end_array ∷ []))

pub members_are : (ms : List (List ℕ × Json)) → members_tokens (members_of ms) ≡ flat_map member_tokens ms ++ Token.end_object ∷ []
members_are [] = refl
members_are (m ∷ ms) =
    ap (λ (z : List Token). member_tokens m ++ z) (members_are ms) ∙ sym (append_assoc (member_tokens m) (flat_map member_tokens ms) (Token.end_object ∷ []))

pub array_is : (js : List Json) → json_tokens (array_of js) ≡ Token.begin_array ∷ (flat_map json_tokens js ++ Token.end_array ∷ [])
array_is js = ap (λ (z : List Token). Token.begin_array ∷ z) (items_are js)

pub object_is : (ms : List (List ℕ × Json)) → json_tokens (object_of ms) ≡ Token.begin_object ∷ (flat_map member_tokens ms ++ Token.end_object ∷ [])
object_is ms = ap (λ (z : List Token). Token.begin_object ∷ z) (members_are ms)

-- ---- an array is begun, its items are added, and it is ended

closed : (old a b c : List Token) (js : List Json) → a ≡ old ++ Token.begin_array ∷ [] → b ≡ a ++ flat_map json_tokens js → c ≡ b ++ Token.end_array ∷ []
    → c ≡ old ++ json_tokens (array_of js)
closed old a b c js p q r =
    let e : c ≡ ((old ++ Token.begin_array ∷ []) ++ flat_map json_tokens js) ++ Token.end_array ∷ [] = cc in
    let f : ((old ++ Token.begin_array ∷ []) ++ flat_map json_tokens js) ++ Token.end_array ∷ [] ≡ old ++ Token.begin_array ∷ (flat_map json_tokens js ++ Token.end_array ∷ []) = simp append_assoc in
    e ∙ (f ∙ ap (λ (z : List Token). old ++ z) (sym (array_is js)))

pub array_added : {E : Type 0} (r : Result (Unit {0}) E) (a b c d : Written) (js : List Json) → (b.tokens ≡ a.tokens ++ Token.begin_array ∷ []) × (b.before ≡ a.before)
    → (c.tokens ≡ b.tokens ++ flat_map json_tokens js) × (c.before ≡ b.before) → Adds r c d (Token.end_array ∷ []) → Adds r a d (json_tokens (array_of js))
array_added (Ok x) a b c d js p q r = (closed a.tokens b.tokens c.tokens d.tokens js p.0 q.0 r.0, r.1 ∙ (q.1 ∙ p.1))
array_added (Err x) a b c d js p q r = tt

pub line_made : (w d : Written) (text line : List ℕ) (js : List Json) → w.before ≡ [] → w.tokens ≡ Token.begin_array ∷ flat_map json_tokens js
    → (d.tokens ≡ w.tokens ++ Token.end_array ∷ []) × (d.before ≡ w.before) → text ≡ d.before ++ print d.tokens → line ≡ text ++ 10 ∷ [] → line ≡ json_line (array_of js)
line_made w d text line js none tokens p t l =
    let e : d.tokens ≡ json_tokens (array_of js) = p.0 ∙ (ap (λ (z : List Token). z ++ Token.end_array ∷ []) tokens ∙ sym (array_is js)) in
    let f : d.before ++ print d.tokens ≡ print (json_tokens (array_of js)) = ap (λ (z : List ℕ). z ++ print d.tokens) (p.1 ∙ none) ∙ ap print e in
    l ∙ ap (λ (z : List ℕ). z ++ 10 ∷ []) (t ∙ f)

-- ---- an object is begun, its members are added, and it is ended

filled : (old a b c : List Token) (ms : List (List ℕ × Json)) → a ≡ old ++ Token.begin_object ∷ [] → b ≡ a ++ flat_map member_tokens ms → c ≡ b ++ Token.end_object ∷ []
    → c ≡ old ++ json_tokens (object_of ms)
filled old a b c ms p q r =
    let e : c ≡ ((old ++ Token.begin_object ∷ []) ++ flat_map member_tokens ms) ++ Token.end_object ∷ [] = cc in
    let f : ((old ++ Token.begin_object ∷ []) ++ flat_map member_tokens ms) ++ Token.end_object ∷ [] ≡ old ++ Token.begin_object ∷
    (flat_map member_tokens ms ++ Token.end_object ∷ []) = simp append_assoc in
    e ∙ (f ∙ ap (λ (z : List Token). old ++ z) (sym (object_is ms)))

pub object_added : {E : Type 0} (r : Result (Unit {0}) E) (a b c d : Written) (ms : List (List ℕ × Json)) → (b.tokens ≡ a.tokens ++ Token.begin_object ∷ []) × (b.before ≡ a.before)
    → (c.tokens ≡ b.tokens ++ flat_map member_tokens ms) × (c.before ≡ b.before) → Adds r c d (Token.end_object ∷ []) → Adds r a d (json_tokens (object_of ms))
object_added (Ok x) a b c d ms p q r = (filled a.tokens b.tokens c.tokens d.tokens ms p.0 q.0 r.0, r.1 ∙ (q.1 ∙ p.1))
object_added (Err x) a b c d ms p q r = tt

-- a key and its value are added
pub member_added : {E : Type 0} (r : Result (Unit {0}) E) (a b c : Written) (key : List ℕ) (value : Json) (m : List ℕ × Json) → m ≡ (key, value)
    → (b.tokens ≡ a.tokens ++ Token.key key ∷ []) × (b.before ≡ a.before) → Adds r b c (json_tokens value) → Adds r a c (member_tokens m)
member_added (Ok x) a b c key value m e p q =
    let all : c.tokens ≡ a.tokens ++ Token.key key ∷ json_tokens value =
    q.0 ∙ (ap (λ (z : List Token). z ++ json_tokens value) p.0 ∙ append_assoc a.tokens (Token.key key ∷ []) (json_tokens value)) in
    (all ∙ ap (λ (n : List ℕ × Json). a.tokens ++ member_tokens n) (sym e), q.1 ∙ p.1)
member_added (Err x) a b c key value m e p q = tt

-- what adds some tokens adds any list that is equal to them
pub adds_same : {E : Type 0} (r : Result (Unit {0}) E) (a b : Written) {xs : List Token} (ys : List Token) → Adds r a b xs → xs ≡ ys → Adds r a b ys
adds_same r a b ys h e = subst (λ (ts : List Token). Adds r a b ts) e h
