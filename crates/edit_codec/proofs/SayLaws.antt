-- Texts: what is read of the words is what they say, and what is said is read.
use Rattle.std.proofs.Common.{◌≡◌, ℕ, zero, suc, ◌≤◌, false, List, [], ◌∷◌, ◌++◌, length, map, Option, Some, None, Result, Ok, Err, refl, sym, ap, subst, ◌∙◌, append_assoc, arith}
use Rattle.std.specs.Prelude.{ok_or}
use Rattle.std.specs.List.{flat_map, AllByRecursion}
use Rattle.std.proofs.lemmas.List.{append-nil}
use Rattle.edit_codec.specs.declared.bad_text.BadText.{BadText}
use Rattle.edit_ops.specs.Fields.{Kind, Field, path, replication, permission, numbers, paths, text, small, number, flag, client, call_number, Text_}
use Rattle.edit_ops.specs.Fields.{Small_, Number_, Flag_, Client_, Call_, kind_of_field, IsGood}
use Rattle.edit_codec.specs.Spaced.{spaced, CanSay}
use Rattle.edit_codec.specs.Saying.{◌>>=◌, Boundary, field_said, items_said, listed_said, group_said, bad_text, fields_said}
use Rattle.edit_ops.proofs.SourceLaws.{ok_is, with_front, with_front-append, with_front-nil, and_then}
use Rattle.edit_codec.proofs.SayWords.{HasWord, word_in, spaced_is, Says, field_said_takes, field_said_again}

abbrev pub Group : Type 0
Group = Option (List Field × List ℕ)

abbrev Read : Type 0
Read = Result (List Field × List ℕ) BadText

-- a group of words, and then what is read of the rest
abbrev pub group_then : Group → (List ℕ → Read) → Read
group_then group next = and_then (ok_or group bad_text) next

-- ---- what is said is read

abbrev pub CanSayAll : List Field → Type 0
CanSayAll fields = AllByRecursion HasWord fields × AllByRecursion IsGood fields × AllByRecursion CanSay fields

pub boundary : (fields : List Field) (rest : List ℕ) → AllByRecursion HasWord fields → Boundary rest → Boundary (flat_map (spaced false) fields ++ rest)
boundary [] rest has bound = bound
boundary (f ∷ fs) rest has bound = subst Boundary (ap (λ (w : List ℕ). (w ++ flat_map (spaced false) fs) ++ rest) (sym (spaced_is f has.0))) refl

abbrev One : Type 0
One = Option (Field × List ℕ)

abbrev single : One → Group
single o = o >>= λ f. Some (f.0 ∷ [], f.1)

-- a field with a word is its group
word_group : (f : Field) (words : List ℕ) → HasWord f → group_said (kind_of_field f) words ≡ single (field_said (kind_of_field f) words)
word_group (Text_ t bytes) words h = refl
word_group (Small_ replication n) words h = refl
word_group (Small_ permission n) words h = refl
word_group (Small_ numbers n) words h = absurd h
word_group (Small_ paths n) words h = absurd h
word_group (Number_ n) words h = refl
word_group (Flag_ b) words h = refl
word_group (Client_ bytes) words h = refl
word_group (Call_ n) words h = refl

pub runs : (fields : List Field) (kinds : List Kind) (rest : List ℕ) → CanSayAll fields → Boundary rest
    → fields_said (map kind_of_field fields ++ kinds) (flat_map (spaced false) fields ++ rest) ≡ with_front fields (fields_said kinds rest)
runs [] kinds rest can bound = sym (with_front-nil (fields_said kinds rest))
runs (f ∷ fs) kinds rest can bound =
    let more : List ℕ = flat_map (spaced false) fs ++ rest in
    let regrouped : (spaced false f ++ flat_map (spaced false) fs) ++ rest ≡ spaced false f ++ (flat_map (spaced false) fs ++ rest) = append_assoc (spaced false f) (flat_map (spaced false) fs) rest in
    ap (fields_said (kind_of_field f ∷ (map kind_of_field fs ++ kinds))) regrouped
    ∙ ap (λ (g : Group). group_then g (fields_said (map kind_of_field fs ++ kinds)))
    (word_group f (spaced false f ++ (flat_map (spaced false) fs ++ rest)) can.0.0
    ∙ ap single (field_said_again f (flat_map (spaced false) fs ++ rest) can.0.0 can.1.0 can.2.0 (boundary fs rest can.0.1 bound)))
    ∙ ap (with_front (f ∷ [])) (runs fs kinds rest (can.0.1, can.1.1, can.2.1) bound)
    ∙ with_front-append (f ∷ []) fs (fields_said kinds rest)

pub items_again : (most : ℕ) (kind : Kind) (fields : List Field) → AllByRecursion (λ f. kind_of_field f ≡ kind) fields → CanSayAll fields
    → length fields ≤ most → items_said most kind (flat_map (spaced false) fields) ≡ Some fields
unfolding items_said
items_again zero kind [] kinds can le = refl
items_again (suc most) kind [] kinds can le = refl
items_again zero kind (f ∷ fs) kinds can le = absurd (omega arith)
items_again (suc most) kind (f ∷ fs) kinds can le =
    let words_are : spaced false f ++ flat_map (spaced false) fs ≡ 32 ∷ (word_in f ++ flat_map (spaced false) fs) = ap (λ (w : List ℕ). w ++ flat_map (spaced false) fs) (spaced_is f can.0.0) in
    let bound : Boundary (flat_map (spaced false) fs) = subst Boundary (append-nil (flat_map (spaced false) fs)) (boundary fs [] can.0.1 tt) in
    let first : field_said kind (32 ∷ (word_in f ++ flat_map (spaced false) fs)) ≡ Some (f, flat_map (spaced false) fs) =
    ap (field_said kind) (sym words_are) ∙ ap (λ (k : Kind). field_said k (spaced false f ++ flat_map (spaced false) fs)) (sym kinds.0)
    ∙ field_said_again f (flat_map (spaced false) fs) can.0.0 can.1.0 can.2.0 bound in
    ap (items_said (suc most) kind) words_are ∙ rw (first, items_again most kind fs kinds.1 (can.0.1, can.1.1, can.2.1) (omega arith)) refl

-- ---- what is read is said

pub record Taken (words : List ℕ) (fields : List Field) (rest : List ℕ) : Type 0 where
  pub good : AllByRecursion IsGood fields
  pub can : AllByRecursion CanSay fields
  pub parts : words ≡ flat_map (spaced false) fields ++ rest

joined : (P : Field → Type 0) (xs ys : List Field) → AllByRecursion P xs → AllByRecursion P ys → AllByRecursion P (xs ++ ys)
joined P [] ys p q = q
joined P (x ∷ xs) ys p q = (p.0, joined P xs ys p.1 q)

pub flat-append : (xs ys : List Field) → flat_map (spaced false) (xs ++ ys) ≡ flat_map (spaced false) xs ++ flat_map (spaced false) ys
flat-append [] ys = refl
flat-append (x ∷ xs) ys = ap (λ (w : List ℕ). spaced false x ++ w) (flat-append xs ys) ∙ sym (append_assoc (spaced false x) (flat_map (spaced false) xs) (flat_map (spaced false) ys))

taken_then : (a : List ℕ) (xs : List Field) (b : List ℕ) (ys : List Field) (c : List ℕ) → Taken a xs b → Taken b ys c → Taken a (xs ++ ys) c
taken_then a xs b ys c p q = record {
  good = joined IsGood xs ys p.good q.good;
  can = joined CanSay xs ys p.can q.can;
  parts = p.parts ∙ ap (λ (w : List ℕ). flat_map (spaced false) xs ++ w) q.parts
      ∙ sym (append_assoc (flat_map (spaced false) xs) (flat_map (spaced false) ys) c) ∙ ap (λ (w : List ℕ). w ++ c) (sym (flat-append xs ys));
}

one_taken : (kind : Kind) (words : List ℕ) (f : Field) (rest : List ℕ) → Says kind words f rest → Taken words (f ∷ []) rest
one_taken kind words f rest s = record { good = (s.good, tt); can = (s.can, tt); parts = s.parts ∙ ap (λ (w : List ℕ). w ++ rest) (sym (append-nil (spaced false f))) }

abbrev pub some_group : List Field × List ℕ → Group
some_group x = Some x

pub some_is : (x y : List Field × List ℕ) → some_group x ≡ some_group y → x ≡ y
some_is x y e = cc

single_taken : (kind : Kind) (words : List ℕ) (x : List Field × List ℕ) → single (field_said kind words) ≡ Some x → Taken words x.0 x.1
single_taken kind words x e = by (field_said kind words) refl e
  where
    by : (o : One) → field_said kind words ≡ o → single o ≡ Some x → Taken words x.0 x.1
    by None is e = absurd cc
    by (Some f) is e =
        let same = some_is (f.0 ∷ [], f.1) x e in
        subst (λ (y : List Field × List ℕ). Taken words y.0 y.1) same (one_taken kind words f.0 f.1 (field_said_takes kind words f.0 f.1 is))

abbrev some_fields : List Field → Option (List Field)
some_fields fields = Some fields

step_taken : (kind : Kind) (words : List ℕ) (most : ℕ) (fields : List Field)
    → ((more : List ℕ) (items : List Field) → items_said most kind more ≡ Some items → Taken more items [] × (length items ≤ most))
    → (o : One) → field_said kind words ≡ o → (o >>= λ item. items_said most kind item.1 >>= λ items. some_fields (item.0 ∷ items)) ≡ Some fields → Taken words fields [] × (length fields ≤ suc most)
step_taken kind words most fields rec None is e = absurd cc
step_taken kind words most fields rec (Some f) is e = by (items_said most kind f.1) refl e
  where
    by : (o : Option (List Field)) → items_said most kind f.1 ≡ o → (o >>= λ items. some_fields (f.0 ∷ items)) ≡ Some fields → Taken words fields [] × (length fields ≤ suc most)
    by None items_are e = absurd cc
    by (Some items) items_are e =
        let same : f.0 ∷ items ≡ fields = cc in
        let r = rec f.1 items items_are in
        subst (λ (fs : List Field). Taken words fs [] × (length fs ≤ suc most)) same
        (taken_then words (f.0 ∷ []) f.1 items [] (one_taken kind words f.0 f.1 (field_said_takes kind words f.0 f.1 is)) r.0, omega (arith, r.1))

nothing_taken : Taken [] [] []
nothing_taken = record { good = tt; can = tt; parts = refl }

pub items_taken : (most : ℕ) (kind : Kind) (words : List ℕ) (fields : List Field) → items_said most kind words ≡ Some fields → Taken words fields [] × (length fields ≤ most)
unfolding items_said
items_taken zero kind [] fields e = let same : [] ≡ fields = cc in subst (λ (fs : List Field). Taken [] fs [] × (length fs ≤ 0)) same (nothing_taken, omega arith)
items_taken (suc most) kind [] fields e = let same : [] ≡ fields = cc in subst (λ (fs : List Field). Taken [] fs [] × (length fs ≤ suc most)) same (nothing_taken, omega arith)
items_taken zero kind (b ∷ words) fields e = absurd cc
items_taken (suc most) kind (b ∷ words) fields e = step_taken kind (b ∷ words) most fields (λ more items is. items_taken most kind more items is) (field_said kind (b ∷ words)) refl e

listed_taken : (count : ℕ → Field) (kind : Kind) (words : List ℕ) (x : List Field × List ℕ)
    → ((n : ℕ) → n ≤ 65535 → IsGood (count n) × CanSay (count n) × (spaced false (count n) ≡ [])) → listed_said count kind words ≡ Some x
    → Taken words x.0 x.1
listed_taken count kind words x of_count e = by (items_said 65535 kind words) refl e
  where
    by : (o : Option (List Field)) → items_said 65535 kind words ≡ o → (o >>= λ items. some_group (count (length items) ∷ items, [])) ≡ Some x → Taken words x.0 x.1
    by None is e = absurd cc
    by (Some items) is e =
        let r = items_taken 65535 kind words items is in
        let c = of_count (length items) r.1 in
        let same = some_is (count (length items) ∷ items, []) x e in
        subst (λ (y : List Field × List ℕ). Taken words y.0 y.1) same
        (record {
          good = (c.0, r.0.good);
          can = (c.1, r.0.can);
          parts = r.0.parts
              ∙ ap (λ (w : List ℕ). (w ++ flat_map (spaced false) items) ++ []) (sym c.2);
        })

group_taken : (kind : Kind) (words : List ℕ) (x : List Field × List ℕ) → group_said kind words ≡ Some x → Taken words x.0 x.1
group_taken (text t) words x e = single_taken (text t) words x e
group_taken (small replication) words x e = single_taken (small replication) words x e
group_taken (small permission) words x e = single_taken (small permission) words x e
group_taken (small numbers) words x e = listed_taken (Small_ numbers) number words x (λ n le. (omega (arith, le), tt, refl)) e
group_taken (small paths) words x e = listed_taken (Small_ paths) (text path) words x (λ n le. (omega (arith, le), tt, refl)) e
group_taken number words x e = single_taken number words x e
group_taken flag words x e = single_taken flag words x e
group_taken client words x e = single_taken client words x e
group_taken call_number words x e = single_taken call_number words x e

pub fields_taken : (kinds : List Kind) (words : List ℕ) (x : List Field × List ℕ) → fields_said kinds words ≡ Ok x → Taken words x.0 x.1
fields_taken [] words x e = subst (λ (y : List Field × List ℕ). Taken words y.0 y.1) (ok_is ([], words) x e) (record { good = tt; can = tt; parts = refl })
fields_taken (k ∷ ks) words x e = by (λ more y is. fields_taken ks more y is) (group_said k words) refl e
  where
    by : ((more : List ℕ) (y : List Field × List ℕ) → fields_said ks more ≡ Ok y → Taken more y.0 y.1) → (g : Group) → group_said k words ≡ g
        → group_then g (fields_said ks) ≡ Ok x → Taken words x.0 x.1
    by rec None is e = absurd cc
    by rec (Some a) is e = last (fields_said ks a.1) refl e
      where
        last : (r : Read) → fields_said ks a.1 ≡ r → with_front a.0 r ≡ Ok x → Taken words x.0 x.1
        last (Err f) others e = absurd cc
        last (Ok b) others e = subst (λ (y : List Field × List ℕ). Taken words y.0 y.1) (ok_is (a.0 ++ b.0, b.1) x e) (taken_then words a.0 a.1 b.0 b.1 (group_taken k words a is) (rec a.1 b others))
