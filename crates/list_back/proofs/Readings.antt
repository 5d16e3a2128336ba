-- What is read of an object's members are the fields whose values they are.
use Rattle.std.proofs.Common.{◌≡◌, ℕ, zero, suc, ◌<◌, ◌^◌, List, [], ◌∷◌, ◌++◌, length, map, Option, Some, None, Result, Ok, Err, refl, sym, ap, subst, ◌∙◌, arith, append-nil}
use Rattle.std.specs.Prelude.{option_map, ok_or, replicate}
use Rattle.std.specs.List.{AllByRecursion}
use Rattle.json.specs.Json.{Json}
use Rattle.list_text.specs.Values.{array_of}
use Rattle.serde_json.specs.Data.{Data}
use Rattle.serde_json.specs.Find.{get}
use Rattle.edit_ops.specs.Fields.{Kind, Field, Text, path, replication, permission, numbers, paths, text, small, number, Text_, Small_, Number_, Flag_, Client_, Call_, kind_of_field, IsGood, follow}
use Rattle.edit_ops.specs.Rules.{Matches}
use Rattle.edit_ops.specs.Sources.{◌>>=◌}
use Rattle.edit_ops.specs.Sources.{fields_read}
use Rattle.list_back.specs.declared.bad_object.BadObject.{BadObject}
use Rattle.list_back.specs.Values.{Left, bad_object, fields_in, value_read, object_group}
use Rattle.list_back.specs.Rows.{field_json, field_jsons, rows_of, as_data, HasRows}
use Rattle.list_back.proofs.FieldValues.{IsCount, value_holds, IsAlone, alone_again, numbers_again, paths_again}

abbrev pub begun : Data → List (List ℕ) → Left
begun d ks = record { value = d; keys = ks }

abbrev pub Read : Type 0
Read = Result (List Field × Left) BadObject

-- counts stand last
abbrev pub CountsLast : List Kind → Type 0
CountsLast [] = Unit {0}
CountsLast (k ∷ ks) = (IsCount k → ks ≡ []) × CountsLast ks

-- ## What was read

abbrev pub good_read : {A : Type 0} → A → Result A BadObject
good_read x = Ok x

pub same_read : {A : Type 0} (x y : A) → good_read x ≡ good_read y → x ≡ y
same_read x y e = cc

found : {A : Type 0} (o : Option A) (x : A) → ok_or o bad_object ≡ Ok x → o ≡ Some x
found None x e = absurd cc
found (Some y) x e = let same : y ≡ x = same_read y x e in ap (λ (z : _). Some z) same

-- what a reading of a value, of a key, and of others gives
abbrev given : Data → List (List ℕ) → List Field → Read
given d keys gs = Ok (gs, begun d keys)

abbrev keyed : List (List ℕ) → Data → Data × List (List ℕ)
keyed keys v = (v, keys)

abbrev joined : List Field → List Field × Left → Read
joined fs y = Ok (fs ++ y.0, y.1)

abbrev then_value : Kind → Data → Data × List (List ℕ) → Read
then_value kind d next = value_read kind next.0 >>= given d next.1

abbrev then_others : List Kind → List Field × Left → Read
then_others kinds x = fields_read object_group kinds x.1 >>= joined x.0

-- a field with those that it counts
record Group (kind : Kind) (left : Left) (fs : List Field) (rest : Left) : Type 0 where
  key : List ℕ
  keys : List (List ℕ)
  keys_are : left.keys ≡ key ∷ keys
  value : Data
  got : get key left.value ≡ Some value
  fields : fields_in kind value ≡ Some fs
  rest_is : rest ≡ begun left.value keys

group_read : (kind : Kind) (d : Data) (ks : List (List ℕ)) (fs : List Field) (rest : Left) → object_group kind (begun d ks) ≡ Ok (fs, rest) → Group kind (begun d ks) fs rest
group_read kind d [] fs rest e = absurd cc
group_read kind d (key ∷ keys) fs rest e = by (get key d) refl e
  where
    last : (v : Data) → get key d ≡ Some v → (o : Option (List Field)) → fields_in kind v ≡ o → (ok_or o bad_object >>= given d keys) ≡ Ok (fs, rest) → Group kind (begun d (key ∷ keys)) fs rest
    last v got None is e = absurd cc
    last v got (Some gs) is e =
        let same = same_read (gs, begun d keys) (fs, rest) e in
        record { key = key; keys = keys; keys_are = refl; value = v; got = got; fields = is ∙ (λ i. Some (same i).0); rest_is = sym (λ i. (same i).1) }

    by : (o : Option Data) → get key d ≡ o → (ok_or (option_map (keyed keys) o) bad_object >>= then_value kind d) ≡ Ok (fs, rest) → Group kind (begun d (key ∷ keys)) fs rest
    by None is e = absurd cc
    by (Some v) is e = last v is (fields_in kind v) refl e

-- fields of kinds one after the other
record Parts (kind : Kind) (kinds : List Kind) (left : Left) (fs : List Field) (rest : Left) : Type 0 where
  first : List Field
  next : Left
  more : List Field
  group : object_group kind left ≡ Ok (first, next)
  others : fields_read object_group kinds next ≡ Ok (more, rest)
  all : fs ≡ first ++ more

parts_read : (kind : Kind) (kinds : List Kind) (left : Left) (fs : List Field) (rest : Left) → fields_read object_group (kind ∷ kinds) left ≡ Ok (fs, rest) → Parts kind kinds left fs rest
parts_read kind kinds left fs rest e = by (object_group kind left) refl e
  where
    last : (first : List Field) (next : Left) → object_group kind left ≡ Ok (first, next) → (r : Read) → fields_read object_group kinds next ≡ r
        → (r >>= joined first) ≡ Ok (fs, rest) → Parts kind kinds left fs rest
    last first next is (Err f) others e = absurd cc
    last first next is (Ok x) others e =
        let same = same_read (first ++ x.0, x.1) (fs, rest) e in
        record { first = first; next = next; more = x.0; group = is; others = others ∙ (λ i. Ok (x.0, (same i).1)); all = sym (λ i. (same i).0) }

    by : (r : Read) → object_group kind left ≡ r → (r >>= then_others kinds) ≡ Ok (fs, rest) → Parts kind kinds left fs rest
    by (Err f) is e = absurd cc
    by (Ok x) is e = last x.0 x.1 is (fields_read object_group kinds x.1) refl e

all_append : (fs gs : List Field) → AllByRecursion IsGood fs → AllByRecursion IsGood gs → AllByRecursion IsGood (fs ++ gs)
all_append [] gs h k = k
all_append (f ∷ fs) gs h k = (h.0, all_append fs gs h.1 k)

-- nothing is left of no kinds
nothing_read : (left rest : Left) (fs : List Field) → fields_read object_group [] left ≡ Ok (fs, rest) → fs ≡ []
nothing_read left rest fs e = let same = same_read ([], left) (fs, rest) e in sym (λ i. (same i).0)

no_rows : (d : Data) (ks : List (List ℕ)) → HasRows d (rows_of ks [])
no_rows d [] = tt
no_rows d (k ∷ ks) = tt

more_last : (kinds : List Kind) (left rest : Left) (more : List Field) → kinds ≡ [] → fields_read object_group kinds left ≡ Ok (more, rest) → more ≡ []
more_last [] left rest more none e = nothing_read left rest more e
more_last (k ∷ ks) left rest more none e = absurd cc

pub fields_held : (kinds : List Kind) (d : Data) (ks : List (List ℕ)) (fs : List Field) (rest : Left) → CountsLast kinds → fields_read object_group kinds (begun d ks) ≡ Ok (fs, rest)
    → AllByRecursion IsGood fs × HasRows d (rows_of ks (field_jsons fs))
fields_held [] d ks fs rest last e =
    let none = nothing_read (begun d ks) rest fs e in
    let P : List Field → Type 0 = λ gs. AllByRecursion IsGood gs × HasRows d (rows_of ks (field_jsons gs)) in
    subst P (sym none) (tt, no_rows d ks)
fields_held (kind ∷ kinds) d ks fs rest last e =
    let p = parts_read kind kinds (begun d ks) fs rest e in
    let g = group_read kind d ks p.first p.next p.group in
    let h = value_holds kind g.value p.first g.fields in
    let others : fields_read object_group kinds (begun d g.keys) ≡ Ok (p.more, rest) = ap (fields_read object_group kinds) (sym g.rest_is) ∙ p.others in
    let more = fields_held kinds d g.keys p.more rest last.1 others in
    let jsons = h.jsons p.more (λ count. more_last kinds p.next rest p.more (last.0 count) p.others) in
    let P : List Field → Type 0 = λ gs. AllByRecursion IsGood gs × HasRows d (rows_of ks (field_jsons gs)) in
    let Q : List (List ℕ) → Type 0 = λ names. HasRows d (rows_of names (field_jsons (p.first ++ p.more))) in
    let R : List Json → Type 0 = λ js. HasRows d (rows_of (g.key ∷ g.keys) js) in
    let here : get g.key d ≡ Some (as_data h.json) = g.got ∙ ap (λ (v : Data). Some v) h.value in
    subst P (sym p.all) (all_append p.first p.more h.good more.0, subst Q (sym g.keys_are) (subst R (sym jsons) (here, more.1)))

-- ## What is there is read

one_group : (kind : Kind) (d v : Data) (key : List ℕ) (keys : List (List ℕ)) (fs : List Field) → get key d ≡ Some v → fields_in kind v ≡ Some fs
    → object_group kind (begun d (key ∷ keys)) ≡ Ok (fs, begun d keys)
one_group kind d v key keys fs got is =
    ap (λ (o : Option Data). ok_or (option_map (keyed keys) o) bad_object >>= then_value kind d) got
    ∙ ap (λ (o : Option (List Field)). ok_or o bad_object >>= given d keys) is

and_others : (kind : Kind) (kinds : List Kind) (left next rest : Left) (fs more : List Field) → object_group kind left ≡ Ok (fs, next)
    → fields_read object_group kinds next ≡ Ok (more, rest) → fields_read object_group (kind ∷ kinds) left ≡ Ok (fs ++ more, rest)
and_others kind kinds left next rest fs more group others =
    ap (λ (r : Read). r >>= then_others kinds) group
    ∙ ap (λ (r : Read). r >>= joined fs) others

-- so many numbers, and so many paths
abbrev Listed : {A : Type 0} → (A → Field) → ℕ → List Field → Type 0
Listed {A} f n fs = (xs : List A) × (fs ≡ map f xs) × (length xs ≡ n)

one_number : (f : Field) → kind_of_field f ≡ number → (n : ℕ) × (f ≡ Number_ n)
one_number (Text_ t s) e = absurd cc
one_number (Small_ s n) e = absurd cc
one_number (Number_ n) e = (n, refl)
one_number (Flag_ b) e = absurd cc
one_number (Client_ bytes) e = absurd cc
one_number (Call_ n) e = absurd cc

one_path : (f : Field) → kind_of_field f ≡ text path → (s : List ℕ) × (f ≡ Text_ path s)
one_path (Text_ t s) e = let same : t ≡ path = cc in (s, ap (λ (u : Text). Text_ u s) same)
one_path (Small_ s n) e = absurd cc
one_path (Number_ n) e = absurd cc
one_path (Flag_ b) e = absurd cc
one_path (Client_ bytes) e = absurd cc
one_path (Call_ n) e = absurd cc

listed_numbers : (n : ℕ) (fs : List Field) → Matches (replicate n number ++ []) fs [] → Listed Number_ n fs
listed_numbers zero [] m = ([], refl, refl)
listed_numbers zero (f ∷ fs) m = absurd m
listed_numbers (suc n) [] m = absurd cc
listed_numbers (suc n) (f ∷ fs) m =
    let one = one_number f m.0 in
    let rest = listed_numbers n fs (subst (λ (g : Field). Matches (follow g ++ (replicate n number ++ [])) fs []) one.1 m.2) in
    (one.0 ∷ rest.0, (λ i. one.1 i ∷ rest.1 i), ap suc rest.2)

listed_paths : (n : ℕ) (fs : List Field) → Matches (replicate n (text path) ++ []) fs [] → Listed (Text_ path) n fs
listed_paths zero [] m = ([], refl, refl)
listed_paths zero (f ∷ fs) m = absurd m
listed_paths (suc n) [] m = absurd cc
listed_paths (suc n) (f ∷ fs) m =
    let one = one_path f m.0 in
    let rest = listed_paths n fs (subst (λ (g : Field). Matches (follow g ++ (replicate n (text path) ++ [])) fs []) one.1 m.2) in
    (one.0 ∷ rest.0, (λ i. one.1 i ∷ rest.1 i), ap suc rest.2)

abbrev IsRead : List Kind → Data → List (List ℕ) → List Field → Type 0
IsRead kinds d ks fs = fields_read object_group kinds (begun d ks) ≡ Ok (fs, begun d [])

no_keys : (d : Data) (ks : List (List ℕ)) → length ks ≡ 0 → IsRead [] d ks []
no_keys d [] e = refl
no_keys d (k ∷ ks) e = absurd (omega (arith, e))

-- a field that counts no others, before the rest
alone_first : (f : Field) (kind : Kind) (kinds : List Kind) (d : Data) (key : List ℕ) (ks : List (List ℕ)) (fs : List Field) → IsAlone f
    → kind_of_field f ≡ kind → IsGood f → get key d ≡ Some (as_data (field_json f)) → IsRead kinds d ks fs
    → IsRead (kind ∷ kinds) d (key ∷ ks) (f ∷ fs)
alone_first f kind kinds d key ks fs alone is good got rest =
    let group : object_group kind (begun d (key ∷ ks)) ≡ Ok (f ∷ [], begun d ks) =
    one_group kind d (as_data (field_json f)) key ks (f ∷ []) got (ap (λ (k : Kind). fields_in k (as_data (field_json f))) (sym is) ∙ alone_again f alone good) in
    and_others kind kinds (begun d (key ∷ ks)) (begun d ks) (begun d []) (f ∷ []) fs group rest

numbers_last : (n : ℕ) (fs : List Field) (d : Data) (key : List ℕ) → n < 2 ^ 16 → AllByRecursion IsGood fs → Listed Number_ n fs
    → get key d ≡ Some (as_data (array_of (map field_json fs))) → IsRead (small numbers ∷ []) d (key ∷ []) (Small_ numbers n ∷ fs)
numbers_last n fs d key short good listed got =
    let goods : AllByRecursion IsGood (map Number_ listed.0) = subst (λ (gs : List Field). AllByRecursion IsGood gs) listed.1 good in
    let there : get key d ≡ Some (as_data (array_of (map field_json (map Number_ listed.0)))) = got ∙ ap (λ (gs : List Field). Some (as_data (array_of (map field_json gs)))) listed.1 in
    let group = one_group (small numbers) d _ key [] (Small_ numbers (length listed.0) ∷ map Number_ listed.0) there (numbers_again listed.0 (omega (arith, short, listed.2)) goods) in
    let same : Small_ numbers (length listed.0) ∷ map Number_ listed.0 ≡ Small_ numbers n ∷ fs = (λ i. Small_ numbers (listed.2 i) ∷ sym listed.1 i) in
    and_others (small numbers) [] (begun d (key ∷ [])) (begun d []) (begun d []) (Small_ numbers (length listed.0) ∷ map Number_ listed.0) [] group refl
    ∙ ap (given d []) (append-nil (Small_ numbers (length listed.0) ∷ map Number_ listed.0) ∙ same)

paths_last : (n : ℕ) (fs : List Field) (d : Data) (key : List ℕ) → n < 2 ^ 16 → AllByRecursion IsGood fs → Listed (Text_ path) n fs
    → get key d ≡ Some (as_data (array_of (map field_json fs))) → IsRead (small paths ∷ []) d (key ∷ []) (Small_ paths n ∷ fs)
paths_last n fs d key short good listed got =
    let goods : AllByRecursion IsGood (map (Text_ path) listed.0) = subst (λ (gs : List Field). AllByRecursion IsGood gs) listed.1 good in
    let there : get key d ≡ Some (as_data (array_of (map field_json (map (Text_ path) listed.0)))) = got ∙ ap (λ (gs : List Field). Some (as_data (array_of (map field_json gs)))) listed.1 in
    let group = one_group (small paths) d _ key [] (Small_ paths (length listed.0) ∷ map (Text_ path) listed.0) there (paths_again listed.0 (omega (arith, short, listed.2)) goods) in
    let same : Small_ paths (length listed.0) ∷ map (Text_ path) listed.0 ≡ Small_ paths n ∷ fs = (λ i. Small_ paths (listed.2 i) ∷ sym listed.1 i) in
    and_others (small paths) [] (begun d (key ∷ [])) (begun d []) (begun d []) (Small_ paths (length listed.0) ∷ map (Text_ path) listed.0) [] group refl
    ∙ ap (given d []) (append-nil (Small_ paths (length listed.0) ∷ map (Text_ path) listed.0) ∙ same)

numbers_at : (n : ℕ) (kind : Kind) (kinds : List Kind) (fs : List Field) (d : Data) (key : List ℕ) (ks : List (List ℕ)) → kind ≡ small numbers
    → (IsCount kind → kinds ≡ []) → suc (length ks) ≡ suc (length kinds) → n < 2 ^ 16 → AllByRecursion IsGood fs
    → Matches (replicate n number ++ kinds) fs [] → get key d ≡ Some (as_data (array_of (map field_json fs))) → IsRead (kind ∷ kinds) d (key ∷ ks) (Small_ numbers n ∷ fs)
numbers_at n kind kinds fs d key ks is last long short good m got =
    let none : kinds ≡ [] = last (subst IsCount (sym is) tt) in
    by kinds none ks long m
  where
    by : (kinds : List Kind) → kinds ≡ [] → (ks : List (List ℕ)) → suc (length ks) ≡ suc (length kinds) → Matches (replicate n number ++ kinds) fs []
        → IsRead (kind ∷ kinds) d (key ∷ ks) (Small_ numbers n ∷ fs)
    by [] none [] long m = subst (λ (k : Kind). IsRead (k ∷ []) d (key ∷ []) (Small_ numbers n ∷ fs)) (sym is) (numbers_last n fs d key short good (listed_numbers n fs m) got)
    by [] none (k ∷ ks) long m = absurd (omega (arith, long))
    by (k ∷ kinds) none ks long m = absurd cc

paths_at : (n : ℕ) (kind : Kind) (kinds : List Kind) (fs : List Field) (d : Data) (key : List ℕ) (ks : List (List ℕ)) → kind ≡ small paths
    → (IsCount kind → kinds ≡ []) → suc (length ks) ≡ suc (length kinds) → n < 2 ^ 16 → AllByRecursion IsGood fs
    → Matches (replicate n (text path) ++ kinds) fs [] → get key d ≡ Some (as_data (array_of (map field_json fs))) → IsRead (kind ∷ kinds) d (key ∷ ks) (Small_ paths n ∷ fs)
paths_at n kind kinds fs d key ks is last long short good m got =
    let none : kinds ≡ [] = last (subst IsCount (sym is) tt) in
    by kinds none ks long m
  where
    by : (kinds : List Kind) → kinds ≡ [] → (ks : List (List ℕ)) → suc (length ks) ≡ suc (length kinds)
        → Matches (replicate n (text path) ++ kinds) fs [] → IsRead (kind ∷ kinds) d (key ∷ ks) (Small_ paths n ∷ fs)
    by [] none [] long m = subst (λ (k : Kind). IsRead (k ∷ []) d (key ∷ []) (Small_ paths n ∷ fs)) (sym is) (paths_last n fs d key short good (listed_paths n fs m) got)
    by [] none (k ∷ ks) long m = absurd (omega (arith, long))
    by (k ∷ kinds) none ks long m = absurd cc

pub held_fields : (kinds : List Kind) (d : Data) (ks : List (List ℕ)) (fs : List Field) → CountsLast kinds → length ks ≡ length kinds
    → AllByRecursion IsGood fs → Matches kinds fs [] → HasRows d (rows_of ks (field_jsons fs)) → IsRead kinds d ks fs
held_fields [] d ks [] last long good m rows = no_keys d ks long
held_fields [] d ks (f ∷ fs) last long good m rows = absurd m
held_fields (kind ∷ kinds) d ks [] last long good m rows = absurd cc
held_fields (kind ∷ kinds) d [] (f ∷ fs) last long good m rows = absurd (omega (arith, long))
held_fields (kind ∷ kinds) d (key ∷ ks) (Text_ t s ∷ fs) last long good m rows =
    alone_first (Text_ t s) kind kinds d key ks fs tt m.0 m.1 rows.0 (held_fields kinds d ks fs last.1 (omega (arith, long)) good.1 m.2 rows.1)
held_fields (kind ∷ kinds) d (key ∷ ks) (Small_ replication n ∷ fs) last long good m rows =
    alone_first (Small_ replication n) kind kinds d key ks fs tt m.0 m.1 rows.0 (held_fields kinds d ks fs last.1 (omega (arith, long)) good.1 m.2 rows.1)
held_fields (kind ∷ kinds) d (key ∷ ks) (Small_ permission n ∷ fs) last long good m rows =
    alone_first (Small_ permission n) kind kinds d key ks fs tt m.0 m.1 rows.0 (held_fields kinds d ks fs last.1 (omega (arith, long)) good.1 m.2 rows.1)
held_fields (kind ∷ kinds) d (key ∷ ks) (Small_ numbers n ∷ fs) last long good m rows = numbers_at n kind kinds fs d key ks (sym m.0) last.0 long m.1 good.1 m.2 rows.0
held_fields (kind ∷ kinds) d (key ∷ ks) (Small_ paths n ∷ fs) last long good m rows = paths_at n kind kinds fs d key ks (sym m.0) last.0 long m.1 good.1 m.2 rows.0
held_fields (kind ∷ kinds) d (key ∷ ks) (Number_ n ∷ fs) last long good m rows =
    alone_first (Number_ n) kind kinds d key ks fs tt m.0 m.1 rows.0 (held_fields kinds d ks fs last.1 (omega (arith, long)) good.1 m.2 rows.1)
held_fields (kind ∷ kinds) d (key ∷ ks) (Flag_ b ∷ fs) last long good m rows =
    alone_first (Flag_ b) kind kinds d key ks fs tt m.0 m.1 rows.0 (held_fields kinds d ks fs last.1 (omega (arith, long)) good.1 m.2 rows.1)
held_fields (kind ∷ kinds) d (key ∷ ks) (Client_ bytes ∷ fs) last long good m rows =
    alone_first (Client_ bytes) kind kinds d key ks fs tt m.0 m.1 rows.0 (held_fields kinds d ks fs last.1 (omega (arith, long)) good.1 m.2 rows.1)
held_fields (kind ∷ kinds) d (key ∷ ks) (Call_ n ∷ fs) last long good m rows =
    alone_first (Call_ n) kind kinds d key ks fs tt m.0 m.1 rows.0 (held_fields kinds d ks fs last.1 (omega (arith, long)) good.1 m.2 rows.1)
