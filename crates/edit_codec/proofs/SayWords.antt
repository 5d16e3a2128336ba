-- Words: where they end, and which fields they say.
use Rattle.std.proofs.Common.{◌≡◌, ◌≢◌, ℕ, ◌+◌, ◌-◌, ◌/◌, ◌^◌, ◌<◌, ◌≤◌, Bool, true, false, cond, ltb, leb, eqb, List, [], ◌∷◌, ◌++◌, length, take}
use Rattle.std.proofs.Common.{drop, Option, Some, None, refl, sym, ap, subst, ◌∙◌, arith, suc}
use Rattle.std.specs.Prelude.{◌&&◌, ◌==◌, codes, not}
use Rattle.std.specs.List.{list_all, AllByRecursion, position_or_len}
use Rattle.std.specs.Char.{is_ascii_graphic, digit_value}
use Rattle.std.specs.Str.{bytes_eq}
use Rattle.std.specs.Str.Parse.{AllDigits}
use Rattle.std.specs.Fmt.{digits}
use Rattle.std.proofs.lemmas.Bool.{eq-eqb, eqb-true, lt-ltb, ltb-true, le-leb, leb-true, and_parts}
use Rattle.std.proofs.lemmas.Bool.Decides.{nat_tests}
use Rattle.std.proofs.lemmas.List.{take-append-drop, take_all, take_at, drop_at}
use Rattle.std.proofs.lemmas.Fmt.{digits_is_IsNumeral}
use Rattle.std.proofs.Math.Nat.{pow-le-pow_left}
use Rattle.base_words.specs.Numbers.{IsNumber}
use Rattle.edit_ops.specs.Fields.{Kind, Field, Text, path, owner, new_owner, replication, permission, numbers, paths, text, small, number, flag}
use Rattle.edit_ops.specs.Fields.{client, call_number, Text_, Small_, Number_, Flag_, Client_, Call_, kind_of_field, limit, IsGood}
use Rattle.base_words.specs.Hex.{hex_text, bytes_in}
use Rattle.base_words.proofs.HexLaws.{length-hex_text, bytes_back, bytes_found, hex_graphic}
use Rattle.edit_codec.specs.Spaced.{text_word, spaced, CanSay}
use Rattle.edit_codec.specs.Saying.{◌>>=◌, Boundary, split_word, word_at, number_said, at_most, text_said, client_said, said, field_said}
use Rattle.edit_codec.proofs.SayNumbers.{same_bytes, number_is_said, said_is_number, within, said_at_most}
use Rattle.std.proofs.lemmas.Slice.Eq.{bytes_eq-Decides}

-- ---- where a word ends

abbrev pub NoSpace : List ℕ → Type 0
NoSpace word = AllByRecursion (λ b. (b == 32) ≡ false) word

word_end : (word rest : List ℕ) → NoSpace word → Boundary rest → position_or_len (λ b. b == 32) (word ++ rest) ≡ length word
word_end [] [] plain bound = refl
word_end [] (b ∷ rest) plain bound = let space : eqb b 32 ≡ true = eq-eqb _ _ bound in rw space refl
word_end (x ∷ xs) rest plain bound = let clear : eqb x 32 ≡ false = plain.0 in rw clear (ap (λ (n : ℕ). 1 + n) (word_end xs rest plain.1 bound) ∙ omega arith)

pub split_again : (word rest : List ℕ) → NoSpace word → Boundary rest → split_word (word ++ rest) ≡ (word, rest)
split_again word rest plain bound =
    let end = word_end word rest plain bound in
    (λ i. (take (end i) (word ++ rest), drop (end i) (word ++ rest))) ∙ (λ i. (take_at word rest (length word) refl i, drop_at word rest (length word) refl i))

-- ---- the word of a field

-- no word stands for a count
abbrev pub HasWord : Field → Type 0
HasWord (Small_ numbers n) = ⊥
HasWord (Small_ paths n) = ⊥
HasWord (Small_ replication n) = Unit {0}
HasWord (Small_ permission n) = Unit {0}
HasWord (Text_ t bytes) = Unit {0}
HasWord (Number_ n) = Unit {0}
HasWord (Flag_ b) = Unit {0}
HasWord (Client_ bytes) = Unit {0}
HasWord (Call_ n) = Unit {0}

abbrev pub word_in : Field → List ℕ
word_in (Text_ t bytes) = text_word false t bytes
word_in (Small_ replication n) = digits 10 false n
word_in (Small_ permission n) = digits 8 false n
word_in (Small_ numbers n) = []
word_in (Small_ paths n) = []
word_in (Number_ n) = digits 10 false n
word_in (Flag_ true) = codes "yes"
word_in (Flag_ false) = codes "no"
word_in (Client_ bytes) = hex_text bytes
word_in (Call_ n) = digits 10 false n

pub spaced_is : (f : Field) → HasWord f → spaced false f ≡ 32 ∷ word_in f
spaced_is (Text_ t bytes) h = refl
spaced_is (Small_ replication n) h = refl
spaced_is (Small_ permission n) h = refl
spaced_is (Small_ numbers n) h = absurd h
spaced_is (Small_ paths n) h = absurd h
spaced_is (Number_ n) h = refl
spaced_is (Flag_ true) h = refl
spaced_is (Flag_ false) h = refl
spaced_is (Client_ bytes) h = refl
spaced_is (Call_ n) h = refl

-- ---- no space in a word

no_space_digit : (base b : ℕ) → base ≤ 10 → digit_value b < base → (b == 32) ≡ false
no_space_digit base b high d = grind (arith, nat_tests)

digits_no_space : (base : ℕ) (ds : List ℕ) → base ≤ 10 → AllDigits base ds → NoSpace ds
digits_no_space base [] high d = tt
digits_no_space base (b ∷ ds) high d = (no_space_digit base b high d.0, digits_no_space base ds high d.1)

number_no_space : (base : ℕ) → 2 ≤ base → base ≤ 10 → (n : ℕ) → n < 2 ^ 64 → NoSpace (digits base false n)
number_no_space base low high n lt = digits_no_space base (digits base false n) high (digits_is_IsNumeral base false low (omega arith) n (omega (arith, lt, pow-le-pow_left low 64))).0.1

graphic_no_space : (b : ℕ) → is_ascii_graphic b ≡ true → (b == 32) ≡ false
graphic_no_space b g = grind (arith, nat_tests)

text_no_space : (bytes : List ℕ) → list_all is_ascii_graphic bytes ≡ true → NoSpace bytes
text_no_space [] g = tt
text_no_space (b ∷ bytes) g = let p = and_parts (is_ascii_graphic b) (list_all is_ascii_graphic bytes) g in (graphic_no_space b p.0, text_no_space bytes p.1)

-- ---- what a word says

pub record SaidAs (kind : Kind) (word : List ℕ) (f : Field) : Type 0 where
  pub kind_is : kind_of_field f ≡ kind
  pub has_word : HasWord f
  pub good : IsGood f
  pub can : CanSay f
  pub word_is : word ≡ word_in f

abbrev some_field : Field → Option Field
some_field f = Some f

picked : (test : Bool) (f g : Field) → cond test (some_field f) None ≡ Some g → (test ≡ true) × (f ≡ g)
picked true f g e = (refl, cc)
picked false f g e = absurd cc

can_text : (t : Text) (word : List ℕ) → 0 < length word → t ≢ new_owner → CanSay (Text_ t word)
can_text path [] some ne = absurd (omega arith)
can_text path (b ∷ word) some ne = λ is. absurd (cc)
can_text owner [] some ne = absurd (omega arith)
can_text owner (b ∷ word) some ne = λ is. absurd (cc)
can_text new_owner word some ne = absurd (ne refl)

word_of_text : (t : Text) (word : List ℕ) → 0 < length word → word ≡ text_word false t word
word_of_text t [] some = absurd (omega arith)
word_of_text t (b ∷ word) some = refl

-- a text that is said stands for itself
pub text_is_said : (t : Text) (word : List ℕ) (f : Field) → text_said t word ≡ Some f → (f ≡ Text_ t word) × (0 < length word) × (length word ≤ limit t) × (list_all is_ascii_graphic word ≡ true)
unfolding text_said
text_is_said t word f e =
    let p = picked (ltb 0 (length word) && (leb (length word) (limit t) && list_all is_ascii_graphic word)) (Text_ t word) f e in
    let a = and_parts (ltb 0 (length word)) (leb (length word) (limit t) && list_all is_ascii_graphic word) p.0 in
    let b = and_parts (leb (length word) (limit t)) (list_all is_ascii_graphic word) a.1 in
    (sym p.1, ltb-true _ _ a.0, leb-true _ _ b.0, b.1)

pub text_says : (t : Text) (word : List ℕ) → 0 < length word → length word ≤ limit t → list_all is_ascii_graphic word ≡ true → text_said t word ≡ Some (Text_ t word)
unfolding text_said
text_says t word some short printable =
    let a : ltb 0 (length word) ≡ true = lt-ltb _ _ some in
    let b : leb (length word) (limit t) ≡ true = le-leb _ _ short in
    rw (a, b, printable) refl

number_as : (base most : ℕ) (word : List ℕ) (F : ℕ → Field) (f : Field) → (at_most most (number_said base word) >>= λ n. Some (F n)) ≡ Some f → (n : ℕ) × IsNumber base word n × (n ≤ most) × (f ≡ F n)
number_as base most word F f e = by (at_most most (number_said base word)) refl e
  where
    by : (o : Option ℕ) → at_most most (number_said base word) ≡ o → (o >>= λ n. some_field (F n)) ≡ Some f → (n : ℕ) × IsNumber base word n × (n ≤ most) × (f ≡ F n)
    by None is e = absurd cc
    by (Some n) is e = let r = said_at_most most n (number_said base word) is in (n, said_is_number base word n r.0, r.1, let same : F n ≡ f = cc in sym same)

number_says : (base most : ℕ) → 2 ≤ base → base ≤ 16 → (n : ℕ) → n < 2 ^ 64 → n ≤ most → at_most most (number_said base (digits base false n)) ≡ Some n
number_says base most low high n lt le = within most n (number_said base (digits base false n)) (number_is_said base low high (digits base false n) n (lt, refl)) le

flag_by : (yes no_ : Bool) (word : List ℕ) (f : Field) → bytes_eq word (codes "yes") ≡ yes → bytes_eq word (codes "no") ≡ no_
    → cond yes (some_field (Flag_ true)) (cond no_ (some_field (Flag_ false)) None) ≡ Some f → SaidAs flag word f
flag_by true no_ word f is_yes is_no e = let same : Flag_ true ≡ f =
    cc in subst (SaidAs flag word) same (record {
      kind_is = refl;
      has_word = tt;
      good = tt;
      can = tt;
      word_is = same_bytes word (codes "yes") is_yes;
    })
flag_by false true word f is_yes is_no e = let same : Flag_ false ≡ f =
    cc in subst (SaidAs flag word) same (record { kind_is = refl; has_word = tt; good = tt; can = tt; word_is = same_bytes word (codes "no") is_no })
flag_by false false word f is_yes is_no e = absurd cc

as_text : (t : Text) (word : List ℕ) (f : Field) → t ≢ new_owner → text_said t word ≡ Some f → SaidAs (text t) word f
as_text t word f ne e =
    let r = text_is_said t word f e in
    subst (SaidAs (text t) word) (sym r.0) (record { kind_is = refl; has_word = tt; good = (r.2, r.3); can = can_text t word r.1 ne; word_is = word_of_text t word r.1 })

new_owner_by : (dash : Bool) (word : List ℕ) (f : Field) → bytes_eq word (45 ∷ []) ≡ dash
    → cond dash (some_field (Text_ new_owner [])) (text_said new_owner word) ≡ Some f → SaidAs (text new_owner) word f
new_owner_by true word f is e = let same : Text_ new_owner [] ≡ f = cc in subst (SaidAs (text new_owner) word) same
    (record { kind_is = refl; has_word = tt; good = (omega arith, refl); can = λ z. absurd (cc); word_is = same_bytes word (45 ∷ []) is })
new_owner_by false word f is e =
    let r = text_is_said new_owner word f e in
    let no_dash : word ≢ 45 ∷ [] = λ z. let b = (bytes_eq-Decides word (45 ∷ [])).1 z in absurd cc in
    subst (SaidAs (text new_owner) word) (sym r.0) (record { kind_is = refl; has_word = tt; good = (r.2, r.3); can = no_dash; word_is = word_of_text new_owner word r.1 })

client_by : (long : Bool) (o : Option (List ℕ)) (word : List ℕ) (f : Field) → (length word == 32) ≡ long → bytes_in word ≡ o
    → (cond long o None >>= λ bytes. some_field (Client_ bytes)) ≡ Some f → SaidAs client word f
client_by false o word f is read e = absurd cc
client_by true None word f is read e = absurd cc
client_by true (Some bytes) word f is read e =
    let h = bytes_found word bytes read in
    let long : length word ≡ 32 = eqb-true _ _ is in
    let two : length (hex_text bytes) ≡ length word = ap length h.text in
    let size : length bytes ≡ 16 = omega (arith, long, two, length-hex_text bytes) in
    let same : Client_ bytes ≡ f = cc in
    subst (SaidAs client word) same (record { kind_is = refl; has_word = tt; good = (size, h.bytes); can = tt; word_is = sym h.text })

said_client : (word : List ℕ) (f : Field) → (client_said word >>= λ bytes. some_field (Client_ bytes)) ≡ Some f → SaidAs client word f
unfolding client_said
said_client word f e = client_by (length word == 32) (bytes_in word) word f refl refl e

-- ---- the reader of a client's id
pub no_client : (word : List ℕ) → length word ≢ 32 → client_said word ≡ None
unfolding client_said
no_client word n = by (length word == 32) refl
  where
    by : (b : Bool) → (length word == 32) ≡ b → cond b (bytes_in word) None ≡ None
    by true is = absurd (n (eqb-true _ _ is))
    by false is = refl

pub no_hex : (word : List ℕ) → length word ≡ 32 → bytes_in word ≡ None → client_said word ≡ None
unfolding client_said
no_hex word long e = let l : (length word == 32) ≡ true = eq-eqb _ _ long in rw l e

pub client_read : (word bytes : List ℕ) → length word ≡ 32 → length bytes ≡ 16 → bytes_in word ≡ Some (take (length word / 2) bytes) → client_said word ≡ Some bytes
unfolding client_said
client_read word bytes long size e =
    let l : (length word == 32) ≡ true = eq-eqb _ _ long in
    let all : take (length word / 2) bytes ≡ bytes = take_all (length word / 2) bytes (omega (arith, long, size)) in
    rw l (e ∙ ap (λ (bs : List ℕ). let o : Option (List ℕ) = Some bs in o) all)

pub ruleset clients = (no_client, no_hex, client_read)

pub said_takes : (kind : Kind) (word : List ℕ) (f : Field) → said kind word ≡ Some f → SaidAs kind word f
unfolding said
said_takes (text path) word f e = as_text path word f (λ z. absurd (cc)) e
said_takes (text owner) word f e = as_text owner word f (λ z. absurd (cc)) e
said_takes (text new_owner) word f e = new_owner_by (bytes_eq word (45 ∷ [])) word f refl e
said_takes (small replication) word f e = let r = number_as 10 65535 word (Small_ replication) f e in subst (SaidAs (small replication) word)
    (sym r.3) (record { kind_is = refl; has_word = tt; good = omega (arith, r.2); can = tt; word_is = r.1.1 })
said_takes (small permission) word f e = let r = number_as 8 4095 word (Small_ permission) f e in subst (SaidAs (small permission) word) (sym r.3)
    (record { kind_is = refl; has_word = tt; good = omega (arith, r.2); can = omega (arith, r.2); word_is = r.1.1 })
said_takes (small numbers) word f e = absurd cc
said_takes (small paths) word f e = absurd cc
said_takes number word f e = let r = number_as 10 (2 ^ 62) word Number_ f e in subst (SaidAs number word) (sym r.3) (record { kind_is = refl; has_word = tt; good = r.2; can = tt; word_is = r.1.1 })
said_takes flag word f e = flag_by (bytes_eq word (codes "yes")) (bytes_eq word (codes "no")) word f refl refl e
said_takes client word f e = said_client word f e
said_takes call_number word f e = let r = number_as 10 (2 ^ 32 - 1) word Call_ f e in subst (SaidAs call_number word) (sym r.3)
    (record { kind_is = refl; has_word = tt; good = omega (arith, r.2); can = tt; word_is = r.1.1 })

client_again : (bytes : List ℕ) → length bytes ≡ 16 → AllByRecursion (λ b. b < 256) bytes → client_said (hex_text bytes) ≡ Some bytes
unfolding client_said
client_again bytes len fit =
    let l : (length (hex_text bytes) == 32) ≡ true = eq-eqb _ _ (omega (arith, length-hex_text bytes, len)) in
    rw l (bytes_back bytes fit)

-- a number's word says it
says_number : (base most : ℕ) (kind_says : List ℕ → Option Field) (F : ℕ → Field) (n : ℕ) → 2 ≤ base → base ≤ 16 → n < 2 ^ 64 → n ≤ most
    → kind_says (digits base false n) ≡ (at_most most (number_said base (digits base false n)) >>= λ m. some_field (F m))
    → kind_says (digits base false n) ≡ Some (F n)
says_number base most kind_says F n low high lt le is = is ∙ ap (λ (o : Option ℕ). o >>= λ m. some_field (F m)) (number_says base most low high n lt le)

pub said_again : (f : Field) → HasWord f → IsGood f → CanSay f → said (kind_of_field f) (word_in f) ≡ Some f
unfolding said
said_again (Text_ path []) h good can = absurd (can refl)
said_again (Text_ path (b ∷ bytes)) h good can = text_says path (b ∷ bytes) (omega arith) good.0 good.1
said_again (Text_ owner []) h good can = absurd (can refl)
said_again (Text_ owner (b ∷ bytes)) h good can = text_says owner (b ∷ bytes) (omega arith) good.0 good.1
said_again (Text_ new_owner []) h good can = refl
said_again (Text_ new_owner (b ∷ bytes)) h good can =
    let no_dash : bytes_eq (b ∷ bytes) (45 ∷ []) ≡ false = by (bytes_eq (b ∷ bytes) (45 ∷ [])) refl in
    rw no_dash (text_says new_owner (b ∷ bytes) (omega arith) good.0 good.1)
  where
    by : (t : Bool) → bytes_eq (b ∷ bytes) (45 ∷ []) ≡ t → t ≡ false
    by true is = absurd (can (same_bytes (b ∷ bytes) (45 ∷ []) is))
    by false is = refl
said_again (Small_ replication n) h good can = says_number 10 65535 (said (small replication)) (Small_ replication) n (omega arith) (omega arith) (omega (arith, good)) (omega (arith, good)) refl
said_again (Small_ permission n) h good can = says_number 8 4095 (said (small permission)) (Small_ permission) n (omega arith) (omega arith) (omega (arith, good)) (omega (arith, can)) refl
said_again (Small_ numbers n) h good can = absurd h
said_again (Small_ paths n) h good can = absurd h
said_again (Number_ n) h good can = says_number 10 (2 ^ 62) (said number) Number_ n (omega arith) (omega arith) (omega (arith, good)) good refl
said_again (Flag_ true) h good can = refl
said_again (Flag_ false) h good can = refl
said_again (Client_ bytes) h good can = ap (λ (o : Option (List ℕ)). o >>= λ b. some_field (Client_ b)) (client_again bytes good.0 good.1)
said_again (Call_ n) h good can = says_number 10 (2 ^ 32 - 1) (said call_number) Call_ n (omega arith) (omega arith) (omega (arith, good)) (omega (arith, good)) refl

pub word_no_space : (f : Field) → HasWord f → IsGood f → CanSay f → NoSpace (word_in f)
word_no_space (Text_ path []) h good can = absurd (can refl)
word_no_space (Text_ path (b ∷ bytes)) h good can = text_no_space (b ∷ bytes) good.1
word_no_space (Text_ owner []) h good can = absurd (can refl)
word_no_space (Text_ owner (b ∷ bytes)) h good can = text_no_space (b ∷ bytes) good.1
word_no_space (Text_ new_owner []) h good can = (refl, tt)
word_no_space (Text_ new_owner (b ∷ bytes)) h good can = text_no_space (b ∷ bytes) good.1
word_no_space (Small_ replication n) h good can = number_no_space 10 (omega arith) (omega arith) n (omega (arith, good))
word_no_space (Small_ permission n) h good can = number_no_space 8 (omega arith) (omega arith) n (omega (arith, good))
word_no_space (Small_ numbers n) h good can = absurd h
word_no_space (Small_ paths n) h good can = absurd h
word_no_space (Number_ n) h good can = number_no_space 10 (omega arith) (omega arith) n (omega (arith, good))
word_no_space (Flag_ true) h good can = (refl, (refl, (refl, tt)))
word_no_space (Flag_ false) h good can = (refl, (refl, tt))
word_no_space (Client_ bytes) h good can = text_no_space (hex_text bytes) (hex_graphic bytes good.1)
word_no_space (Call_ n) h good can = number_no_space 10 (omega arith) (omega arith) n (omega (arith, good))

-- ---- a field at the front of a text

pub record Says (kind : Kind) (words : List ℕ) (f : Field) (rest : List ℕ) : Type 0 where
  pub kind_is : kind_of_field f ≡ kind
  pub has_word : HasWord f
  pub good : IsGood f
  pub can : CanSay f
  pub parts : words ≡ spaced false f ++ rest

abbrev One : Type 0
One = Option (Field × List ℕ)

abbrev one_of : Field → List ℕ → One
one_of f rest = Some (f, rest)

abbrev some_one : Field × List ℕ → One
some_one x = Some x

one_is : (x y : Field × List ℕ) → some_one x ≡ some_one y → x ≡ y
one_is x y e = cc

ones : (g f : Field) (rest after : List ℕ) → one_of g rest ≡ one_of f after → (g ≡ f) × (rest ≡ after)
ones g f rest after e = let p = one_is (g, rest) (f, after) e in (ap (λ (x : Field × List ℕ). x.0) p, ap (λ (x : Field × List ℕ). x.1) p)

with_rest : List ℕ → Option Field → One
with_rest rest o = o >>= λ f. Some (f, rest)

says_by : (kind : Kind) (words word rest : List ℕ) (f : Field) (after : List ℕ) → words ≡ 32 ∷ (word ++ rest) → (o : Option Field)
    → said kind word ≡ o → with_rest rest o ≡ Some (f, after) → Says kind words f after
unfolding with_rest
says_by kind words word rest f after parts None is e = absurd cc
says_by kind words word rest f after parts (Some g) is e =
    let both_are = ones g f rest after e in
    let field_is : g ≡ f = both_are.0 in
    let rest_is : rest ≡ after = both_are.1 in
    let s = said_takes kind word f (is ∙ ap some_field field_is) in
    record {
      kind_is = s.kind_is;
      has_word = s.has_word;
      good = s.good;
      can = s.can;
      parts = parts ∙ (λ i. 32 ∷ (s.word_is i ++ rest_is i)) ∙ ap (λ (w : List ℕ). w ++ after) (sym (spaced_is f s.has_word));
    }

field_by : (kind : Kind) (b : ℕ) (words : List ℕ) (f : Field) (rest : List ℕ) (space : Bool) → eqb b 32 ≡ space
    → (cond space (Some (split_word words)) None >>= λ w. with_rest w.1 (said kind w.0)) ≡ Some (f, rest) → Says kind (b ∷ words) f rest
field_by kind b words f rest false is e = absurd cc
field_by kind b words f rest true is e =
    let parts : b ∷ words ≡ 32 ∷ ((split_word words).0 ++ (split_word words).1) = (λ i. eqb-true b 32 is i ∷ sym (take-append-drop (position_or_len (λ c. c == 32) words) words) i) in
    says_by kind (b ∷ words) (split_word words).0 (split_word words).1 f rest parts (said kind (split_word words).0) refl e

pub field_said_takes : (kind : Kind) (words : List ℕ) (f : Field) (rest : List ℕ) → field_said kind words ≡ Some (f, rest) → Says kind words f rest
unfolding field_said word_at with_rest
field_said_takes kind [] f rest e = absurd cc
field_said_takes kind (b ∷ words) f rest e = field_by kind b words f rest (eqb b 32) refl e

abbrev with_rest' : Kind → List ℕ × List ℕ → One
with_rest' kind w = said kind w.0 >>= λ g. one_of g w.1

pub field_said_again : (f : Field) (rest : List ℕ) → HasWord f → IsGood f → CanSay f → Boundary rest → field_said (kind_of_field f) (spaced false f ++ rest) ≡ Some (f, rest)
unfolding field_said word_at
field_said_again f rest h good can bound =
    let parts : spaced false f ++ rest ≡ 32 ∷ (word_in f ++ rest) = ap (λ (w : List ℕ). w ++ rest) (spaced_is f h) in
    let split = split_again (word_in f) rest (word_no_space f h good can) bound in
    let again = said_again f h good can in
    ap (field_said (kind_of_field f)) parts ∙ ap (λ (w : List ℕ × List ℕ). with_rest' (kind_of_field f) w) split ∙ ap (λ (o : Option Field). o >>= λ g. one_of g rest) again

pub split_bound : (words : List ℕ) → Boundary (split_word words).1
split_bound [] = tt
split_bound (b ∷ words) = by (eqb b 32) refl (split_bound words)
  where
    by : (t : Bool) → eqb b 32 ≡ t → Boundary (split_word words).1 → Boundary (drop (cond (not t) (1 + position_or_len (λ c. c == 32) words) 0) (b ∷ words))
    by true is rest = eqb-true b 32 is
    by false is rest =
        let next : suc (position_or_len (λ c. c == 32) words) ≡ 1 + position_or_len (λ c. c == 32) words = omega arith in
        subst (λ (n : ℕ). Boundary (drop n (b ∷ words))) next rest

pub split_whole : (words : List ℕ) → (split_word words).0 ++ (split_word words).1 ≡ words
split_whole words = take-append-drop (position_or_len (λ b. b == 32) words) words
