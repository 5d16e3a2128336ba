-- Fields one after the other: what is read matches, what matches is read.
use Rattle.std.proofs.Common.{◌≡◌, ℕ, zero, suc, ◌<◌, List, [], ◌∷◌, ◌++◌, length, length-append, Result, Ok, Err, refl, sym, ap, subst, ◌∙◌, append_assoc, arith}
use Rattle.std.specs.Prelude.{replicate}
use Rattle.std.specs.List.{flat_map, AllByRecursion}
use Rattle.base_words.specs.Fields.{IsBytes}
use Rattle.edit_ops.specs.declared.field_fault.FieldFault.{FieldFault}
use Rattle.edit_ops.specs.Fields.{Kind, Field, path, numbers, paths, replication, permission, text, small, number, flag, client, call_number, Text_}
use Rattle.edit_ops.specs.Fields.{Small_, Number_, Flag_, Client_, Call_, kind_of_field, IsGood, field_bytes, follow}
use Rattle.edit_ops.specs.Rules.{Matches}
use Rattle.edit_ops.specs.Sources.{◌>>=◌}
use Rattle.edit_ops.specs.Reading.{value_at, field_at, items_at, group_at, fields_at}
use Rattle.edit_ops.proofs.SourceLaws.{with_front, with_front-append, with_front-nil, and_then, and_then-front, fields-append}
use Rattle.edit_ops.proofs.FieldLaws.{is_read, Takes, field_takes, field_again, some_byte}

abbrev Read : Type 0
Read = Result (List Field × List ℕ) FieldFault

-- ---- kinds that ask for no others

abbrev IsPlain : Kind → Type 0
IsPlain kind = (field : Field) → kind_of_field field ≡ kind → follow field ≡ []

plain_number : IsPlain number
plain_number (Text_ t bytes) e = absurd cc
plain_number (Small_ s n) e = absurd cc
plain_number (Number_ n) e = refl
plain_number (Flag_ b) e = refl
plain_number (Client_ bytes) e = refl
plain_number (Call_ n) e = refl

plain_path : IsPlain (text path)
plain_path (Text_ t bytes) e = refl
plain_path (Small_ s n) e = absurd cc
plain_path (Number_ n) e = refl
plain_path (Flag_ b) e = refl
plain_path (Client_ bytes) e = refl
plain_path (Call_ n) e = refl

all_plain : (kind : Kind) (n : ℕ) → IsPlain kind → AllByRecursion IsPlain (replicate n kind)
all_plain kind zero plain = tt
all_plain kind (suc n) plain = (plain, all_plain kind n plain)

follow_plain : (field : Field) → AllByRecursion IsPlain (follow field)
follow_plain (Text_ t bytes) = tt
follow_plain (Small_ replication n) = tt
follow_plain (Small_ permission n) = tt
follow_plain (Small_ numbers n) = all_plain number n plain_number
follow_plain (Small_ paths n) = all_plain (text path) n plain_path
follow_plain (Number_ n) = tt
follow_plain (Flag_ b) = tt
follow_plain (Client_ bytes) = tt
follow_plain (Call_ n) = tt

value_kind : (kind : Kind) (bytes : List ℕ) → kind_of_field (value_at kind bytes) ≡ kind
value_kind (text t) bytes = refl
value_kind (small s) bytes = refl
value_kind number bytes = refl
value_kind flag bytes = refl
value_kind client bytes = refl
value_kind call_number bytes = refl

field_kind : (kind : Kind) (bytes : List ℕ) (field : Field) (rest : List ℕ) → field_at kind bytes ≡ Ok (field, rest) → kind_of_field field ≡ kind
field_kind kind bytes field rest e = ap kind_of_field (sym (is_read kind bytes field rest e).field_is) ∙ value_kind kind bytes

abbrev One : Type 0
One = Result (Field × List ℕ) FieldFault

-- a field by itself; with the items that it asks for; with items of some kinds
abbrev single : One → Read
single r = r >>= λ f. Ok (f.0 ∷ [], f.1)

abbrev grouped : One → Read
grouped r = r >>= λ f. with_front (f.0 ∷ []) (items_at (follow f.0) f.1)

abbrev listed : List Kind → One → Read
listed ks r = r >>= λ f. with_front (f.0 ∷ []) (items_at ks f.1)

-- a plain field by itself is its group
plain_group : (kind : Kind) (bytes : List ℕ) → IsPlain kind → group_at kind bytes ≡ single (field_at kind bytes)
plain_group kind bytes plain = by (field_at kind bytes) refl
  where
    by : (r : One) → field_at kind bytes ≡ r → grouped r ≡ single r
    by (Err e) is = refl
    by (Ok f) is = ap (λ (ks : List Kind). with_front (f.0 ∷ []) (items_at ks f.1)) (plain f.0 (field_kind kind bytes f.0 f.1 is))

plain_items : (items : List Kind) (bytes : List ℕ) → AllByRecursion IsPlain items → items_at items bytes ≡ fields_at items bytes
plain_items [] bytes plain = refl
plain_items (k ∷ ks) bytes plain = by (λ more. plain_items ks more plain.1) (field_at k bytes) ∙ ap (λ (g : Read). and_then g (fields_at ks)) (sym (plain_group k bytes plain.0))
  where
    by : ((more : List ℕ) → items_at ks more ≡ fields_at ks more) → (r : One) → listed ks r ≡ and_then (single r) (fields_at ks)
    by rec (Err e) = refl
    by rec (Ok f) = ap (λ (x : Read). with_front (f.0 ∷ []) x) (rec f.1)

-- a field, and then those of the kinds that are to come
abbrev pub stepped : List Kind → One → Read
stepped ks r = r >>= λ f. with_front (f.0 ∷ []) (fields_at (follow f.0 ++ ks) f.1)

-- one field, and then those of the kinds that are to come
pub one_field : (k : Kind) (ks : List Kind) (bytes : List ℕ) → fields_at (k ∷ ks) bytes ≡ stepped ks (field_at k bytes)
one_field k ks bytes = by (field_at k bytes)
  where
    by : (r : One) → and_then (grouped r) (fields_at ks) ≡ stepped ks r
    by (Err e) = refl
    by (Ok f) = and_then-front (f.0 ∷ []) (items_at (follow f.0) f.1) (fields_at ks)
        ∙ ap (λ (x : Read). with_front (f.0 ∷ []) x) (ap (λ (x : Read). and_then x (fields_at ks)) (plain_items (follow f.0) f.1 (follow_plain f.0))
        ∙ sym (fields-append group_at (follow f.0) ks f.1))

-- ---- what matches is read

pub runs : (kinds : List Kind) (fields : List Field) (left : List Kind) (rest : List ℕ) → Matches kinds fields left
    → fields_at kinds (flat_map field_bytes fields ++ rest) ≡ with_front fields (fields_at left rest)
runs kinds [] left rest m = ap (λ (ks : List Kind). fields_at ks rest) m ∙ sym (with_front-nil (fields_at left rest))
runs [] (f ∷ fs) left rest m = absurd m
runs (k ∷ ks) (f ∷ fs) left rest m =
    ap (fields_at (k ∷ ks)) (append_assoc (field_bytes f) (flat_map field_bytes fs) rest)
    ∙ one_field k ks (field_bytes f ++ (flat_map field_bytes fs ++ rest))
    ∙ ap (stepped ks) (ap (λ (kind : Kind). field_at kind (field_bytes f ++ (flat_map field_bytes fs ++ rest))) (sym m.0) ∙ field_again f (flat_map field_bytes fs ++ rest) m.1)
    ∙ ap (with_front (f ∷ [])) (runs (follow f ++ ks) fs left rest m.2)
    ∙ with_front-append (f ∷ []) fs (fields_at left rest)

-- ---- what is read matches

pub record Stops (kinds : List Kind) (bytes : List ℕ) (fault : FieldFault) : Type 0 where
  pub fields : List Field
  pub next : Kind
  pub left : List Kind
  pub rest : List ℕ
  pub matches : Matches kinds fields (next ∷ left)
  pub parts : bytes ≡ flat_map field_bytes fields ++ rest
  pub wrong : field_at next rest ≡ Err fault
  pub rest_fits : IsBytes rest

pub record Ends (kinds : List Kind) (bytes : List ℕ) (fields : List Field) (rest : List ℕ) : Type 0 where
  pub matches : Matches kinds fields []
  pub parts : bytes ≡ flat_map field_bytes fields ++ rest
  pub rest_fits : IsBytes rest

abbrev pub Outcome : List Kind → List ℕ → Read → Type 0
Outcome kinds bytes (Ok x) = Ends kinds bytes x.0 x.1
Outcome kinds bytes (Err fault) = Stops kinds bytes fault

joined : (k : Kind) (ks : List Kind) (bytes : List ℕ) (f : Field × List ℕ) → Takes k bytes f.0 f.1 → (r : Read) → Outcome (follow f.0 ++ ks) f.1 r → Outcome (k ∷ ks) bytes (with_front (f.0 ∷ []) r)
joined k ks bytes f t (Ok x) o = record {
  matches = (t.kind_is, t.good, o.matches);
  parts = t.begins.spelled ∙ ap (λ (r : List ℕ). field_bytes f.0 ++ r) o.parts ∙ sym (append_assoc (field_bytes f.0) (flat_map field_bytes x.0) x.1);
  rest_fits = o.rest_fits;
}
joined k ks bytes f t (Err e) o = record {
  fields = f.0 ∷ o.fields;
  next = o.next;
  left = o.left;
  rest = o.rest;
  matches = (t.kind_is, t.good, o.matches);
  parts = t.begins.spelled ∙ ap (λ (r : List ℕ). field_bytes f.0 ++ r) o.parts ∙ sym (append_assoc (field_bytes f.0) (flat_map field_bytes o.fields) o.rest);
  wrong = o.wrong;
  rest_fits = o.rest_fits;
}

pub outcome : (turns : ℕ) (kinds : List Kind) (bytes : List ℕ) → IsBytes bytes → length bytes < turns → Outcome kinds bytes (fields_at kinds bytes)
outcome zero kinds bytes fits lt = absurd (omega arith)
outcome (suc turns) [] bytes fits lt = record { matches = refl; parts = refl; rest_fits = fits }
outcome (suc turns) (k ∷ ks) bytes fits lt = subst (Outcome (k ∷ ks) bytes) (sym (one_field k ks bytes))
    (by (λ kinds more more_fits less. outcome turns kinds more more_fits less) (field_at k bytes) refl)
  where
    by : ((kinds : List Kind) (more : List ℕ) → IsBytes more → length more < turns → Outcome kinds more (fields_at kinds more)) → (r : One) → field_at k bytes ≡ r
        → Outcome (k ∷ ks) bytes (stepped ks r)
    by rec (Err e) is = record { fields = []; next = k; left = ks; rest = bytes; matches = refl; parts = refl; wrong = is; rest_fits = fits }
    by rec (Ok f) is =
        let t = field_takes k bytes f.0 f.1 fits is in
        let less : length f.1 < turns = omega (arith, lt, ap length t.begins.spelled, length-append (field_bytes f.0) f.1, some_byte f.0 t.good) in
        joined k ks bytes f t (fields_at (follow f.0 ++ ks) f.1) (rec (follow f.0 ++ ks) f.1 t.begins.left less)

-- all the fields that match are good
pub matches_good : (kinds : List Kind) (fields : List Field) (left : List Kind) → Matches kinds fields left → AllByRecursion IsGood fields
matches_good kinds [] left m = tt
matches_good [] (f ∷ fs) left m = absurd m
matches_good (k ∷ ks) (f ∷ fs) left m = (m.1, matches_good (follow f ++ ks) fs left m.2)

pub fields_good : (kinds : List Kind) (bytes : List ℕ) (fields : List Field) (rest : List ℕ) → IsBytes bytes → fields_at kinds bytes ≡ Ok (fields, rest) → Ends kinds bytes fields rest
fields_good kinds bytes fields rest fits e = subst (Outcome kinds bytes) e (outcome (suc (length bytes)) kinds bytes fits (omega arith))

pub fields_wrong : (kinds : List Kind) (bytes : List ℕ) (fault : FieldFault) → IsBytes bytes → fields_at kinds bytes ≡ Err fault → Stops kinds bytes fault
fields_wrong kinds bytes fault fits e = subst (Outcome kinds bytes) e (outcome (suc (length bytes)) kinds bytes fits (omega arith))

pub fields_all_good : (kinds : List Kind) (bytes : List ℕ) (fields : List Field) (rest : List ℕ) → IsBytes bytes → fields_at kinds bytes ≡ Ok (fields, rest) → AllByRecursion IsGood fields
fields_all_good kinds bytes fields rest fits e = matches_good kinds fields [] (fields_good kinds bytes fields rest fits e).matches
