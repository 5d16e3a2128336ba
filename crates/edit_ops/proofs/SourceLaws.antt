-- What is read of a source, whatever source it is.
use Rattle.std.proofs.Common.{◌≡◌, ℕ, List, [], ◌∷◌, ◌++◌, Result, Ok, Err, refl, sym, ap, ◌∙◌, append_assoc}
use Rattle.edit_ops.specs.Fields.{Kind, Field}
use Rattle.edit_ops.specs.Sources.{◌>>=◌, fields_read}

abbrev pub ReadOf : Type 0 → Type 0
ReadOf W = Result (List Field × List ℕ) W

abbrev done : {A W : Type 0} → A → Result A W
done x = Ok x

pub ok_is : {A W : Type 0} (x y : A) → done {W = W} x ≡ done y → x ≡ y
ok_is x y e = cc

-- what was read before, and what is still read
abbrev pub with_front : {W : Type 0} → List Field → ReadOf W → ReadOf W
with_front front read = read >>= λ x. Ok (front ++ x.0, x.1)

pub with_front-append : {W : Type 0} (front more : List Field) (r : ReadOf W) → with_front front (with_front more r) ≡ with_front (front ++ more) r
with_front-append front more (Err e) = refl
with_front-append front more (Ok x) = ap (λ (fs : List Field). Ok (fs, x.1)) (sym (append_assoc front more x.0))

pub with_front-nil : {W : Type 0} (r : ReadOf W) → with_front [] r ≡ r
with_front-nil (Ok x) = refl
with_front-nil (Err e) = refl

-- a reading, and then another of the rest
abbrev pub and_then : {W : Type 0} → ReadOf W → (List ℕ → ReadOf W) → ReadOf W
and_then first next = first >>= λ a. with_front a.0 (next a.1)

pub and_then-front : {W : Type 0} (front : List Field) (s : ReadOf W) (third : List ℕ → ReadOf W) → and_then (with_front front s) third ≡ with_front front (and_then s third)
and_then-front front (Err e) third = refl
and_then-front front (Ok b) third = sym (with_front-append front b.0 (third b.1))

and_then-assoc : {W : Type 0} (first : ReadOf W) (second third : List ℕ → ReadOf W) → and_then (and_then first second) third ≡ and_then first (λ left. and_then (second left) third)
and_then-assoc (Err e) second third = refl
and_then-assoc (Ok a) second third = and_then-front a.0 (second a.1) third

-- fields of some kinds, and then of others
pub fields-append : {W : Type 0} (group : Kind → List ℕ → ReadOf W) (ks ls : List Kind) (left : List ℕ)
    → fields_read group (ks ++ ls) left ≡ and_then (fields_read group ks left) (fields_read group ls)
fields-append group [] ls left = sym (with_front-nil (fields_read group ls left))
fields-append {W = W} group (k ∷ ks) ls left = ap_next (λ more. fields-append group ks ls more) (group k left) ∙ sym (and_then-assoc (group k left) (fields_read group ks) (fields_read group ls))
  where
    ap_next : ((more : List ℕ) → fields_read group (ks ++ ls) more ≡ and_then (fields_read group ks more) (fields_read group ls)) → (g : ReadOf W)
        → and_then g (fields_read group (ks ++ ls)) ≡ and_then g (λ more. and_then (fields_read group ks more) (fields_read group ls))
    ap_next rec (Err e) = refl
    ap_next rec (Ok a) = ap (λ (r : ReadOf W). with_front a.0 r) (rec a.1)
