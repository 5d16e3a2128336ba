-- The fields that a value holds are those whose value it is.
use Rattle.std.proofs.Common.{◌≡◌, ℕ, zero, suc, ◌-◌, ◌/◌, ◌%◌, ◌^◌, ◌<◌, ◌≤◌, Bool, true, false, cond, leb, List, [], ◌∷◌, ◌++◌, length, map, Option}
use Rattle.std.proofs.Common.{Some, None, refl, sym, ap, subst, ◌∙◌, arith, append-nil, inl, inr}
use Rattle.std.specs.Prelude.{◌&&◌, ◌==◌, option_map, option_and_then, slice_index}
use Rattle.std.specs.List.{AllByRecursion, list_all}
use Rattle.std.specs.Char.{is_ascii_graphic}
use Rattle.std.proofs.lemmas.Bool.{leb-true, le-leb, and_parts, eqb-true, cases_eq}
use Rattle.hex.specs.Hex.{lower_digits, encode_with, encode_lower}
use Rattle.json.specs.Json.{Json, string, boolean}
use Rattle.list_text.specs.Values.{number_of, items_of, array_of}
use Rattle.serde_json.specs.Data as datum
use Rattle.serde_json.specs.Data.{Data, Items, no_items, item}
use Rattle.serde_json.specs.Events.{items_len}
use Rattle.serde_json.specs.Find.{as_bool, as_str}
use Rattle.serde_json.specs.Read as reading
use Rattle.serde_json.specs.View as views
use Rattle.base_words.specs.Hex.{hex_digit, hex_text}
use Rattle.edit_ops.specs.Fields.{Kind, Field, Text, path, replication, permission, numbers, paths, text, small, number, flag, client, call_number}
use Rattle.edit_ops.specs.Fields.{Text_, Small_, Number_, Flag_, Client_, Call_, kind_of_field, limit, IsGood}
use Rattle.edit_codec.specs.Saying.{client_said, said}
use Rattle.edit_codec.proofs.SayWords.{said_takes, said_again}
use Rattle.list_back.specs.Values.{number_in, text_in, list_in, items_in, fields_in}
use Rattle.list_back.specs.Rows.{field_json, field_jsons, as_data}
use Rattle.list_back.proofs.Sound.{number_reads, as_is}

-- ## Hexadecimal digits, as two crates spell them

same_below : ℕ → Bool
same_below zero = true
same_below (suc n) = (slice_index lower_digits n == hex_digit n) && same_below n

same_digit : (n : ℕ) → same_below n ≡ true → (x : ℕ) → x < n → slice_index lower_digits x ≡ hex_digit x
unfolding same_below
same_digit zero e x h = absurd (omega arith)
same_digit (suc n) e x h =
    let p = and_parts (slice_index lower_digits n == hex_digit n) (same_below n) e in
    elim (cases_eq x n) [
      | inl same ↦ subst (λ (y : ℕ). slice_index lower_digits y ≡ hex_digit y) (sym same) (eqb-true _ _ p.0)
      | inr other ↦ same_digit n p.1 x (omega arith)
    ]

sixteen : same_below 16 ≡ true
unfolding same_below
sixteen = refl

pub same_hex : (bytes : List ℕ) → AllByRecursion (λ b. b < 256) bytes → encode_lower bytes ≡ hex_text bytes
unfolding encode_with hex_text
same_hex [] h = refl
same_hex (b ∷ bytes) h =
    let small : b < 256 = h.0 in
    let high : slice_index lower_digits (b / 16) ≡ hex_digit (b / 16) = same_digit 16 sixteen (b / 16) (omega arith) in
    let low : slice_index lower_digits (b % 16) ≡ hex_digit (b % 16) = same_digit 16 sixteen (b % 16) (omega arith) in
    let rest = same_hex bytes h.1 in
    λ i. high i ∷ low i ∷ rest i

-- ## One value

mapped : {A B : Type 0} (f : A → B) (o : Option A) (b : B) → option_map f o ≡ Some b → (a : A) × (o ≡ Some a) × (f a ≡ b)
mapped f None b e = absurd cc
mapped f (Some a) b e = (a, refl, cc)

chosen : {A : Type 0} (b : Bool) (x y : A) → cond b (Some x) None ≡ Some y → (b ≡ true) × (x ≡ y)
chosen true x y e = (refl, cc)
chosen false x y e = absurd cc

number_is : (most : ℕ) (d : Data) (n : ℕ) → number_in most d ≡ Some n → (d ≡ datum.number (datum.unsigned n)) × (n ≤ most)
number_is most datum.null n e = absurd cc
number_is most (datum.boolean b) n e = absurd cc
number_is most (datum.number (datum.unsigned m)) n e =
    let c = chosen (leb m most) m n e in
    (ap (λ (k : ℕ). datum.number (datum.unsigned k)) c.1, omega (arith, leb-true m most c.0, c.1))
number_is most (datum.number (datum.negative z)) n e = absurd cc
number_is most (datum.number (datum.float x)) n e = absurd cc
number_is most (datum.string s) n e = absurd cc
number_is most (datum.array ds) n e = absurd cc
number_is most (datum.object ms) n e = absurd cc

number_again : (most n : ℕ) → n ≤ most → number_in most (datum.number (datum.unsigned n)) ≡ Some n
number_again most n h = ap (λ (b : Bool). cond b (Some n) None) (le-leb n most h)

text_is : (t : Text) (d : Data) (s : List ℕ) → text_in t d ≡ Some s → (d ≡ datum.string s) × IsGood (Text_ t s)
text_is t datum.null s e = absurd cc
text_is t (datum.boolean b) s e = absurd cc
text_is t (datum.number n) s e = absurd cc
text_is t (datum.string r) s e =
    let c = chosen (leb (length r) (limit t) && list_all is_ascii_graphic r) r s e in
    let p = and_parts (leb (length r) (limit t)) (list_all is_ascii_graphic r) c.0 in
    (ap datum.string c.1, subst (λ (x : List ℕ). IsGood (Text_ t x)) c.1 (leb-true _ _ p.0, p.1))
text_is t (datum.array ds) s e = absurd cc
text_is t (datum.object ms) s e = absurd cc

text_again : (t : Text) (s : List ℕ) → IsGood (Text_ t s) → text_in t (datum.string s) ≡ Some s
text_again t s h = (λ i. cond (le-leb (length s) (limit t) h.0 i && h.1 i) (Some s) None)

flag_is : (d : Data) (b : Bool) → as_bool d ≡ Some b → d ≡ datum.boolean b
flag_is datum.null b e = absurd cc
flag_is (datum.boolean c) b e = let same : c ≡ b = cc in ap datum.boolean same
flag_is (datum.number n) b e = absurd cc
flag_is (datum.string s) b e = absurd cc
flag_is (datum.array ds) b e = absurd cc
flag_is (datum.object ms) b e = absurd cc

word_is : (d : Data) (bytes : List ℕ) → option_and_then client_said (as_str d) ≡ Some bytes → (s : List ℕ) × (d ≡ datum.string s) × (client_said s ≡ Some bytes)
word_is datum.null bytes e = absurd cc
word_is (datum.boolean b) bytes e = absurd cc
word_is (datum.number n) bytes e = absurd cc
word_is (datum.string s) bytes e = (s, refl, e)
word_is (datum.array ds) bytes e = absurd cc
word_is (datum.object ms) bytes e = absurd cc

as_client : List ℕ → Option Field
as_client bytes = Some (Client_ bytes)

client_of : (word bytes : List ℕ) → client_said word ≡ Some bytes → said client word ≡ Some (Client_ bytes)
unfolding said
client_of word bytes e = ap (λ (o : Option (List ℕ)). option_and_then (λ b. Some (Client_ b)) o) e

bytes_of : (o : Option (List ℕ)) (bytes : List ℕ) → option_and_then (λ b. Some (Client_ b)) o ≡ Some (Client_ bytes) → o ≡ Some bytes
bytes_of None bytes e = absurd cc
bytes_of (Some x) bytes e = let same : x ≡ bytes = cc in ap (λ (y : List ℕ). Some y) same

client_bytes : (word bytes : List ℕ) → said client word ≡ Some (Client_ bytes) → client_said word ≡ Some bytes
unfolding said
client_bytes word bytes e = bytes_of (client_said word) bytes e

client_is : (word bytes : List ℕ) → client_said word ≡ Some bytes → (word ≡ encode_lower bytes) × IsGood (Client_ bytes)
client_is word bytes e =
    let s = said_takes client word (Client_ bytes) (client_of word bytes e) in
    (s.word_is ∙ sym (same_hex bytes s.good.1), s.good)

client_again : (bytes : List ℕ) → IsGood (Client_ bytes) → client_said (encode_lower bytes) ≡ Some bytes
client_again bytes h = ap client_said (same_hex bytes h.1) ∙ client_bytes (hex_text bytes) bytes (said_again (Client_ bytes) tt h tt)

-- ## Arrays of values

module _ {A : Type 0} (f : Data → Option A) (g : A → Data) (P : A → Type 0) where
  list_is : ((d : Data) (x : A) → f d ≡ Some x → (d ≡ g x) × P x) → (ds : Items) (xs : List A) → list_in f ds ≡ Some xs
      → (ds ≡ views.items_of (map g xs)) × (items_len ds ≡ length xs) × AllByRecursion P xs
  list_is one no_items xs e = by xs e
    where
      by : (ys : List A) → Some [] ≡ Some ys → (no_items ≡ views.items_of (map g ys)) × (0 ≡ length ys) × AllByRecursion P ys
      by [] e = (refl, refl, tt)
      by (y ∷ ys) e = absurd cc
  list_is one (item d ds) xs e = by (λ ys is. list_is one ds ys is) (f d) refl e
    where
      by : ((ys : List A) → list_in f ds ≡ Some ys → (ds ≡ views.items_of (map g ys)) × (items_len ds ≡ length ys) × AllByRecursion P ys) → (o : Option A) → f d ≡ o
          → option_and_then (λ x. option_map (λ ys. x ∷ ys) (list_in f ds)) o ≡ Some xs
          → (item d ds ≡ views.items_of (map g xs)) × (items_len (item d ds) ≡ length xs) × AllByRecursion P xs
      by rec None is e = absurd cc
      by rec (Some x) is e =
          let m = mapped (λ (ys : List A). x ∷ ys) (list_in f ds) xs e in
          let head = one d x is in
          let tail = rec m.0 m.1 in
          let goal : List A → Type 0 = λ zs. (item d ds ≡ views.items_of (map g zs)) × (items_len (item d ds) ≡ length zs) × AllByRecursion P zs in
          subst goal m.2 ((λ i. item (head.0 i) (tail.0 i)), ap suc tail.1, (head.1, tail.2))

  list_again : ((x : A) → P x → f (g x) ≡ Some x) → (xs : List A) → AllByRecursion P xs → list_in f (views.items_of (map g xs)) ≡ Some xs
  list_again one [] h = refl
  list_again one (x ∷ xs) h =
      ap (λ (o : Option A). option_and_then (λ y. option_map (λ ys. y ∷ ys) (list_in f (views.items_of (map g xs)))) o) (one x h.0)
      ∙ ap (λ (o : Option (List A)). option_map (λ ys. x ∷ ys) o) (list_again one xs h.1)

  items_counted : (xs : List A) → items_len (views.items_of (map g xs)) ≡ length xs
  items_counted [] = refl
  items_counted (x ∷ xs) = ap suc (items_counted xs)

  few_by : ((d : Data) (x : A) → f d ≡ Some x → (d ≡ g x) × P x) → (ds : Items) (xs : List A) (b : Bool) → leb (items_len ds) 65535 ≡ b → option_and_then (list_in f) (cond b (Some ds) None) ≡ Some xs
      → (datum.array ds ≡ datum.array (views.items_of (map g xs))) × (length xs ≤ 65535) × AllByRecursion P xs
  few_by one ds xs false is e = absurd cc
  few_by one ds xs true is e = let l = list_is one ds xs e in (ap datum.array l.0, omega (arith, leb-true _ _ is, l.1), l.2)

  items_is : ((d : Data) (x : A) → f d ≡ Some x → (d ≡ g x) × P x) → (d : Data) (xs : List A) → items_in f d ≡ Some xs
      → (d ≡ datum.array (views.items_of (map g xs))) × (length xs ≤ 65535) × AllByRecursion P xs
  items_is one datum.null xs e = absurd cc
  items_is one (datum.boolean b) xs e = absurd cc
  items_is one (datum.number n) xs e = absurd cc
  items_is one (datum.string s) xs e = absurd cc
  items_is one (datum.array ds) xs e = few_by one ds xs (leb (items_len ds) 65535) refl e
  items_is one (datum.object ms) xs e = absurd cc

  items_again : ((x : A) → P x → f (g x) ≡ Some x) → (xs : List A) → length xs ≤ 65535 → AllByRecursion P xs → items_in f (datum.array (views.items_of (map g xs))) ≡ Some xs
  items_again one xs short h =
      ap (λ (b : Bool). option_and_then (list_in f) (cond b (Some (views.items_of (map g xs))) None)) (le-leb _ 65535 (omega (arith, short, items_counted xs)))
      ∙ list_again one xs h

good_each : {A : Type 0} (f : A → Field) (xs : List A) → AllByRecursion (λ x. IsGood (f x)) xs → AllByRecursion IsGood (map f xs)
good_each f [] h = tt
good_each f (x ∷ xs) h = (h.0, good_each f xs h.1)

each_good : {A : Type 0} (f : A → Field) (xs : List A) → AllByRecursion IsGood (map f xs) → AllByRecursion (λ x. IsGood (f x)) xs
each_good f [] h = tt
each_good f (x ∷ xs) h = (h.0, each_good f xs h.1)

number_data : ℕ → Data
number_data n = datum.number (datum.unsigned n)

numbers_read : (ns : List ℕ) → AllByRecursion IsGood (map Number_ ns) → reading.of_items (items_of (map field_json (map Number_ ns))) ≡ Some (views.items_of (map number_data ns))
unfolding number_data
numbers_read [] h = refl
numbers_read (n ∷ ns) h =
    let fits : n < 2 ^ 64 = omega (arith, h.0) in
    ap (λ (o : Option Data). option_and_then (λ d. option_map (item d) (reading.of_items (items_of (map field_json (map Number_ ns))))) o) (number_reads n fits)
    ∙ ap (λ (o : Option Items). option_map (item (datum.number (datum.unsigned n))) o) (numbers_read ns h.1)

numbers_data : (ns : List ℕ) → AllByRecursion IsGood (map Number_ ns) → as_data (array_of (map field_json (map Number_ ns))) ≡ datum.array (views.items_of (map number_data ns))
numbers_data ns h = as_is (array_of (map field_json (map Number_ ns))) _ (ap (λ (o : Option Items). option_map datum.array o) (numbers_read ns h))

paths_read : (ps : List (List ℕ)) → reading.of_items (items_of (map field_json (map (Text_ path) ps))) ≡ Some (views.items_of (map datum.string ps))
paths_read [] = refl
paths_read (p ∷ ps) = ap (λ (o : Option Items). option_map (item (datum.string p)) o) (paths_read ps)

paths_data : (ps : List (List ℕ)) → as_data (array_of (map field_json (map (Text_ path) ps))) ≡ datum.array (views.items_of (map datum.string ps))
paths_data ps = as_is (array_of (map field_json (map (Text_ path) ps))) _ (ap (λ (o : Option Items). option_map datum.array o) (paths_read ps))

number_value : (n : ℕ) → n < 2 ^ 64 → as_data (number_of n) ≡ datum.number (datum.unsigned n)
number_value n h = as_is (number_of n) _ (number_reads n h)

-- ## The fields that a value holds

-- a count stands last
abbrev pub IsCount : Kind → Type 0
IsCount (text t) = ⊥
IsCount (small replication) = ⊥
IsCount (small permission) = ⊥
IsCount (small numbers) = Unit {0}
IsCount (small paths) = Unit {0}
IsCount number = ⊥
IsCount flag = ⊥
IsCount client = ⊥
IsCount call_number = ⊥

pub record Holds (kind : Kind) (v : Data) (fs : List Field) : Type 0 where
  pub json : Json
  pub value : v ≡ as_data json
  pub good : AllByRecursion IsGood fs
  pub jsons : (more : List Field) → (IsCount kind → more ≡ []) → field_jsons (fs ++ more) ≡ json ∷ field_jsons more

of_numbers : (n : ℕ) (fs more : List Field) → more ≡ [] → field_jsons ((Small_ numbers n ∷ fs) ++ more) ≡ array_of (map field_json fs) ∷ field_jsons more
of_numbers n fs [] e = ap (λ (gs : List Field). array_of (map field_json gs) ∷ []) (append-nil fs)
of_numbers n fs (f ∷ more) e = absurd cc

of_paths : (n : ℕ) (fs more : List Field) → more ≡ [] → field_jsons ((Small_ paths n ∷ fs) ++ more) ≡ array_of (map field_json fs) ∷ field_jsons more
of_paths n fs [] e = ap (λ (gs : List Field). array_of (map field_json gs) ∷ []) (append-nil fs)
of_paths n fs (f ∷ more) e = absurd cc

pub value_holds : (kind : Kind) (v : Data) (fs : List Field) → fields_in kind v ≡ Some fs → Holds kind v fs
unfolding fields_in number_data
value_holds (text t) v fs e =
    let m = mapped (λ (s : List ℕ). Text_ t s ∷ []) (text_in t v) fs e in
    let is = text_is t v m.0 m.1 in
    subst (Holds (text t) v) m.2 (record { json = string m.0; value = is.0; good = (is.1, tt); jsons = λ more last. refl })
value_holds (small replication) v fs e =
    let m = mapped (λ (n : ℕ). Small_ replication n ∷ []) (number_in 65535 v) fs e in
    let is = number_is 65535 v m.0 m.1 in
    subst (Holds (small replication) v) m.2 (record { json = number_of m.0; value = is.0 ∙ sym (number_value m.0 (omega (arith, is.1))); good = (omega (arith, is.1), tt); jsons = λ more last. refl })
value_holds (small permission) v fs e =
    let m = mapped (λ (n : ℕ). Small_ permission n ∷ []) (number_in 65535 v) fs e in
    let is = number_is 65535 v m.0 m.1 in
    subst (Holds (small permission) v) m.2 (record { json = number_of m.0; value = is.0 ∙ sym (number_value m.0 (omega (arith, is.1))); good = (omega (arith, is.1), tt); jsons = λ more last. refl })
value_holds (small numbers) v fs e =
    let m = mapped (λ (ns : List ℕ). Small_ numbers (length ns) ∷ map Number_ ns) (items_in (number_in (2 ^ 62)) v) fs e in
    let is = items_is (number_in (2 ^ 62)) number_data (λ (n : ℕ). n ≤ 2 ^ 62) (λ d n h. number_is (2 ^ 62) d n h) v m.0 m.1 in
    let good = good_each Number_ m.0 is.2 in
    subst (Holds (small numbers) v) m.2 (record {
      json = array_of (map field_json (map Number_ m.0));
      value = is.0 ∙ sym (numbers_data m.0 good);
      good = (omega (arith, is.1), good);
      jsons = λ more last. of_numbers (length m.0) (map Number_ m.0) more (last tt);
    })
value_holds (small paths) v fs e =
    let m = mapped (λ (ps : List (List ℕ)). Small_ paths (length ps) ∷ map (Text_ path) ps) (items_in (text_in path) v) fs e in
    let is = items_is (text_in path) datum.string (λ (s : List ℕ). IsGood (Text_ path s)) (λ d s h. text_is path d s h) v m.0 m.1 in
    let good = good_each (Text_ path) m.0 is.2 in
    subst (Holds (small paths) v) m.2 (record {
      json = array_of (map field_json (map (Text_ path) m.0));
      value = is.0 ∙ sym (paths_data m.0);
      good = (omega (arith, is.1), good);
      jsons = λ more last. of_paths (length m.0) (map (Text_ path) m.0) more (last tt);
    })
value_holds number v fs e =
    let m = mapped (λ (n : ℕ). Number_ n ∷ []) (number_in (2 ^ 62) v) fs e in
    let is = number_is (2 ^ 62) v m.0 m.1 in
    subst (Holds number v) m.2 (record { json = number_of m.0; value = is.0 ∙ sym (number_value m.0 (omega (arith, is.1))); good = (is.1, tt); jsons = λ more last. refl })
value_holds flag v fs e =
    let m = mapped (λ (b : Bool). Flag_ b ∷ []) (as_bool v) fs e in
    subst (Holds flag v) m.2 (record { json = boolean m.0; value = flag_is v m.0 m.1; good = (tt, tt); jsons = λ more last. refl })
value_holds client v fs e =
    let m = mapped (λ (bytes : List ℕ). Client_ bytes ∷ []) (option_and_then client_said (as_str v)) fs e in
    let w = word_is v m.0 m.1 in
    let is = client_is w.0 m.0 w.2 in
    subst (Holds client v) m.2 (record { json = string (encode_lower m.0); value = w.1 ∙ ap datum.string is.0; good = (is.1, tt); jsons = λ more last. refl })
value_holds call_number v fs e =
    let m = mapped (λ (n : ℕ). Call_ n ∷ []) (number_in (2 ^ 32 - 1) v) fs e in
    let is = number_is (2 ^ 32 - 1) v m.0 m.1 in
    subst (Holds call_number v) m.2 (record { json = number_of m.0; value = is.0 ∙ sym (number_value m.0 (omega (arith, is.1))); good = (omega (arith, is.1), tt); jsons = λ more last. refl })

-- ## The value of a field holds it

-- a field that counts no others
abbrev pub IsAlone : Field → Type 0
IsAlone (Text_ t s) = Unit {0}
IsAlone (Small_ replication n) = Unit {0}
IsAlone (Small_ permission n) = Unit {0}
IsAlone (Small_ numbers n) = ⊥
IsAlone (Small_ paths n) = ⊥
IsAlone (Number_ n) = Unit {0}
IsAlone (Flag_ b) = Unit {0}
IsAlone (Client_ bytes) = Unit {0}
IsAlone (Call_ n) = Unit {0}

number_held : (most n : ℕ) → n ≤ most → n < 2 ^ 64 → number_in most (as_data (number_of n)) ≡ Some n
number_held most n h fits = ap (number_in most) (number_value n fits) ∙ number_again most n h

pub alone_again : (f : Field) → IsAlone f → IsGood f → fields_in (kind_of_field f) (as_data (field_json f)) ≡ Some (f ∷ [])
unfolding fields_in
alone_again (Text_ t s) a h = ap (λ (o : Option (List ℕ)). option_map (λ x. Text_ t x ∷ []) o) (text_again t s h)
alone_again (Small_ replication n) a h = ap (λ (o : Option ℕ). option_map (λ x. Small_ replication x ∷ []) o) (number_held 65535 n (omega (arith, h)) (omega (arith, h)))
alone_again (Small_ permission n) a h = ap (λ (o : Option ℕ). option_map (λ x. Small_ permission x ∷ []) o) (number_held 65535 n (omega (arith, h)) (omega (arith, h)))
alone_again (Small_ numbers n) a h = absurd a
alone_again (Small_ paths n) a h = absurd a
alone_again (Number_ n) a h = ap (λ (o : Option ℕ). option_map (λ x. Number_ x ∷ []) o) (number_held (2 ^ 62) n h (omega (arith, h)))
alone_again (Flag_ b) a h = refl
alone_again (Client_ bytes) a h = ap (λ (o : Option (List ℕ)). option_map (λ x. Client_ x ∷ []) o) (client_again bytes h)
alone_again (Call_ n) a h = ap (λ (o : Option ℕ). option_map (λ x. Call_ x ∷ []) o) (number_held (2 ^ 32 - 1) n (omega (arith, h)) (omega (arith, h)))

pub numbers_again : (ns : List ℕ) → length ns < 2 ^ 16 → AllByRecursion IsGood (map Number_ ns)
    → fields_in (small numbers) (as_data (array_of (map field_json (map Number_ ns)))) ≡ Some (Small_ numbers (length ns) ∷ map Number_ ns)
unfolding fields_in number_data
numbers_again ns short good =
    ap (λ (o : Option (List ℕ)). option_map (λ xs. Small_ numbers (length xs) ∷ map Number_ xs) o) (
    ap (items_in (number_in (2 ^ 62))) (numbers_data ns good)
    ∙ items_again (number_in (2 ^ 62)) number_data (λ (n : ℕ). n ≤ 2 ^ 62) (λ n h. number_again (2 ^ 62) n h) ns (omega (arith, short)) (each_good Number_ ns good)
    )

pub paths_again : (ps : List (List ℕ)) → length ps < 2 ^ 16 → AllByRecursion IsGood (map (Text_ path) ps)
    → fields_in (small paths) (as_data (array_of (map field_json (map (Text_ path) ps)))) ≡ Some (Small_ paths (length ps) ∷ map (Text_ path) ps)
unfolding fields_in
paths_again ps short good =
    ap (λ (o : Option (List (List ℕ))). option_map (λ xs. Small_ paths (length xs) ∷ map (Text_ path) xs) o) (
    ap (items_in (text_in path)) (paths_data ps)
    ∙ items_again (text_in path) datum.string (λ (s : List ℕ). IsGood (Text_ path s)) (λ s h. text_again path s h) ps (omega (arith, short)) (each_good (Text_ path) ps good)
    )
