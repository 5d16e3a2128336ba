-- A field that is read is the field that was written, and what was written is read again.
use Rattle.std.proofs.Common.{◌≡◌, ℕ, zero, suc, ◌+◌, ◌-◌, ◌^◌, ◌<◌, ◌≤◌, Bool, true, false, cond, ltb, eqb, List, [], ◌∷◌, ◌++◌, length}
use Rattle.std.proofs.Common.{take, drop, Option, Some, None, Result, Ok, Err, refl, sym, ap, subst, ◌∙◌, append_assoc, arith, inl, inr, ◌⊎◌}
use Rattle.std.specs.List.{list_all, AllByRecursion}
use Rattle.std.specs.Char.{is_ascii_graphic}
use Rattle.std.specs.Int.{Width, w16, w32, w64, from_be_bytes, to_be_bytes}
use Rattle.std.proofs.lemmas.Bool.{cases_lt, ltb-false, ltb-true, lt-ltb, le-ltb}
use Rattle.std.proofs.lemmas.List.{take_at, drop_at, take-append-drop, drop-drop, length-append, length-take, length-drop}
use Rattle.base_words.specs.Fields.{IsBytes}
use Rattle.base_words.proofs.FieldLaws.{bytes_before, bytes_after, Begins, begins_cut, Front, front_begins, field16, field32, field64}
use Rattle.edit_ops.specs.declared.field_fault.FieldFault.{FieldFault}
use Rattle.edit_ops.specs.declared.field_fault.FieldFault.TheVariants.{Short, Bad}
use Rattle.edit_ops.specs.Fields.{Kind, Field, Text, path, owner, new_owner, text, small, number, flag, client, call_number, Text_, Small_, Number_}
use Rattle.edit_ops.specs.Fields.{Flag_, Client_, Call_, kind_of_field, limit, IsGood, field_bytes}
use Rattle.edit_ops.specs.Rules.{told_length, least, broken_rule}
use Rattle.edit_ops.specs.Reading.{field_at, judged, value_at}
use Rattle.edit_ops.proofs.SourceLaws.{ok_is}
use Rattle.edit_ops.proofs.ReadFields.{whole_field, least_text, good_text}

-- ---- what a reading that went well says

picked : (cut : Bool) (rule : Option ℕ) (short : FieldFault) (kind : Kind) (bytes : List ℕ) (x : Field × List ℕ)
    → cond cut (Err short) (judged kind bytes rule) ≡ Ok x → (cut ≡ false) × (rule ≡ None)
    × ((value_at kind bytes, drop (least kind bytes) bytes) ≡ x)
picked true rule short kind bytes x e = absurd cc
picked false None short kind bytes x e = (refl, refl, ok_is (value_at kind bytes, drop (least kind bytes) bytes) x e)
picked false (Some rule) short kind bytes x e = absurd cc

pub record IsRead (kind : Kind) (bytes : List ℕ) (field : Field) (rest : List ℕ) : Type 0 where
  pub there : least kind bytes ≤ length bytes
  pub no_rule : broken_rule kind bytes ≡ None
  pub field_is : value_at kind bytes ≡ field
  pub rest_is : drop (least kind bytes) bytes ≡ rest

pub is_read : (kind : Kind) (bytes : List ℕ) (field : Field) (rest : List ℕ) → field_at kind bytes ≡ Ok (field, rest) → IsRead kind bytes field rest
unfolding field_at
is_read kind bytes field rest e =
    let p = picked (ltb (length bytes) (least kind bytes)) (broken_rule kind bytes) (Short (least kind bytes - length bytes)) kind bytes (field, rest) e in
    record {
      there = ltb-false _ _ p.0;
      no_rule = p.1;
      field_is = ap (λ (x : Field × List ℕ). x.0) p.2;
      rest_is = ap (λ (x : Field × List ℕ). x.1) p.2;
    }

-- what is wrong where a reading went ill
pub record IsCut (kind : Kind) (bytes : List ℕ) (missing : ℕ) : Type 0 where
  pub short : length bytes < least kind bytes
  pub told : missing + length bytes ≡ least kind bytes

pub record IsBad (kind : Kind) (bytes : List ℕ) (left rule : ℕ) : Type 0 where
  pub there : least kind bytes ≤ length bytes
  pub broken : broken_rule kind bytes ≡ Some rule
  pub told : left ≡ length bytes

abbrev pub IsWrong : Kind → List ℕ → FieldFault → Type 0
IsWrong kind bytes (Short missing) = IsCut kind bytes missing
IsWrong kind bytes (Bad left rule) = IsBad kind bytes left rule

abbrev failed : FieldFault → Result (Field × List ℕ) FieldFault
failed fault = Err fault

wrong_by : (cut : Bool) (rule : Option ℕ) (kind : Kind) (bytes : List ℕ) (fault : FieldFault) → ltb (length bytes) (least kind bytes) ≡ cut → broken_rule kind bytes ≡ rule
    → cond cut (Err (Short (least kind bytes - length bytes))) (judged kind bytes rule) ≡ failed fault → IsWrong kind bytes fault
wrong_by true rule kind bytes (Short missing) is e f = let m : least kind bytes - length bytes ≡ missing =
    cc in let lt : length bytes < least kind bytes = ltb-true _ _ is in record { short = lt; told = omega (arith, m, lt) }
wrong_by true rule kind bytes (Bad left r) is e f = absurd cc
wrong_by false None kind bytes fault is e f = absurd cc
wrong_by false (Some r) kind bytes (Short missing) is e f = absurd cc
wrong_by false (Some r) kind bytes (Bad left s) is e f = let l : length bytes ≡ left = cc in let same : r ≡ s =
    cc in record { there = ltb-false _ _ is; broken = e ∙ ap (λ (n : ℕ). Some n) same; told = sym l }

pub is_wrong : (kind : Kind) (bytes : List ℕ) (fault : FieldFault) → field_at kind bytes ≡ Err fault → IsWrong kind bytes fault
unfolding field_at
is_wrong kind bytes fault e = wrong_by (ltb (length bytes) (least kind bytes)) (broken_rule kind bytes) kind bytes fault refl refl e

-- ---- what is read

-- bytes begin with a field of this kind
pub record Takes (kind : Kind) (bytes : List ℕ) (field : Field) (rest : List ℕ) : Type 0 where
  pub kind_is : kind_of_field field ≡ kind
  pub good : IsGood field
  pub begins : Begins bytes (field_bytes field) rest

no_text_rule : (long printable : Bool) → cond {A = Option ℕ} long (Some 1) (cond {A = Option ℕ} printable None (Some 2)) ≡ None → (long ≡ false) × (printable ≡ true)
no_text_rule true printable e = absurd cc
no_text_rule false true e = (refl, refl)
no_text_rule false false e = absurd cc

no_rule_4 : (over : Bool) → cond {A = Option ℕ} over (Some 4) None ≡ None → over ≡ false
no_rule_4 true e = absurd cc
no_rule_4 false e = refl

no_rule_3 : (over : Bool) → cond {A = Option ℕ} over (Some 3) None ≡ None → over ≡ false
no_rule_3 true e = absurd cc
no_rule_3 false e = refl

flag_spelled : (b : ℕ) → b ≤ 1 → cond (eqb b 1) 1 0 ≡ b
flag_spelled zero le = refl
flag_spelled (suc zero) le = refl
flag_spelled (suc (suc b)) le = absurd (omega (arith, le))

all_bytes : (bytes : List ℕ) → IsBytes bytes → AllByRecursion (λ b. b < 256) bytes
all_bytes [] fits = tt
all_bytes (b ∷ bytes) fits = (fits 0, all_bytes bytes (λ i. fits (suc i)))

taken : (kind : Kind) (bytes : List ℕ) → IsBytes bytes → least kind bytes ≤ length bytes → broken_rule kind bytes ≡ None → Takes kind bytes (value_at kind bytes) (drop (least kind bytes) bytes)
taken (text t) bytes fits there none =
    let rules = no_text_rule (ltb (limit t) (told_length bytes)) (list_all is_ascii_graphic (take (told_length bytes) (drop 2 bytes))) none in
    let two : 2 ≤ length bytes = two_there (cases_lt (length bytes) 2) in
    let least_is = least_text t bytes two in
    let len : length (take (told_length bytes) (drop 2 bytes)) ≡ told_length bytes = omega (arith, length-take (told_length bytes) (drop 2 bytes), length-drop 2 bytes, there, least_is) in
    let size : Front w16 2 (2 ^ 16) bytes (told_length bytes) (drop 2 bytes) = field16.found bytes fits two in
    let split : drop 2 bytes ≡ take (told_length bytes) (drop 2 bytes) ++ drop (least (text t) bytes) bytes =
    sym (take-append-drop (told_length bytes) (drop 2 bytes)) ∙ ap (λ (r : List ℕ). take (told_length bytes) (drop 2 bytes) ++ r)
    (drop-drop (told_length bytes) 2 bytes ∙ ap (λ (n : ℕ). drop n bytes) (sym least_is)) in
    record {
      kind_is = refl;
      good = (omega (arith, len, ltb-false _ _ rules.0), rules.1);
      begins = record {
        spelled = size.spelled ∙ (λ i. to_be_bytes w16 (sym len i) ++ split i)
            ∙ sym (append_assoc (to_be_bytes w16 (length (take (told_length bytes) (drop 2 bytes)))) (take (told_length bytes) (drop 2 bytes))
            (drop (least (text t) bytes) bytes));
        left = bytes_after (least (text t) bytes) bytes fits;
      };
    }
  where
    two_there : (length bytes < 2) ⊎ (2 ≤ length bytes) → 2 ≤ length bytes
    two_there (inl short) = let cut : ltb (length bytes) 2 ≡ true = lt-ltb _ _ short in let told : least (text t) bytes ≡ 2 = rw cut refl in omega (arith, told, there)
    two_there (inr le) = le
taken (small s) bytes fits there none = let n = field16.found bytes fits there in record { kind_is = refl; good = n.small; begins = front_begins n fits }
taken number bytes fits there none =
    let n = field64.found bytes fits there in
    record { kind_is = refl; good = ltb-false _ _ (no_rule_4 (ltb (2 ^ 62) (from_be_bytes w64 (take 8 bytes))) none); begins = front_begins n fits }
taken flag [] fits there none = absurd (omega (arith, there))
taken flag (b ∷ bytes) fits there none =
    let spelled : b ∷ bytes ≡ cond (eqb b 1) 1 0 ∷ bytes = ap (λ (c : ℕ). c ∷ bytes) (sym (flag_spelled b (ltb-false _ _ (no_rule_3 (ltb 1 b) none)))) in
    record { kind_is = refl; good = tt; begins = record { spelled = spelled; left = λ i. fits (suc i) } }
taken client bytes fits there none = record {
  kind_is = refl;
  good = (omega (arith, length-take 16 bytes, there), all_bytes (take 16 bytes) (bytes_before 16 bytes fits));
  begins = begins_cut 16 bytes fits;
}
taken call_number bytes fits there none = let n = field32.found bytes fits there in record { kind_is = refl; good = n.small; begins = front_begins n fits }

pub field_takes : (kind : Kind) (bytes : List ℕ) (field : Field) (rest : List ℕ) → IsBytes bytes → field_at kind bytes ≡ Ok (field, rest) → Takes kind bytes field rest
field_takes kind bytes field rest fits e =
    let r = is_read kind bytes field rest e in
    let t = taken kind bytes fits r.there r.no_rule in
    subst (λ (x : Field × List ℕ). Takes kind bytes x.0 x.1) (λ i. (r.field_is i, r.rest_is i)) t

-- ---- what is written

again_by : (kind : Kind) (bytes : List ℕ) (field : Field) (rest : List ℕ) (size : ℕ) → least kind bytes ≡ size → size ≤ length bytes
    → broken_rule kind bytes ≡ None → value_at kind bytes ≡ field → drop size bytes ≡ rest → field_at kind bytes ≡ Ok (field, rest)
again_by kind bytes field rest size size_is there none field_is rest_is =
    whole_field kind bytes (omega (arith, size_is, there)) none ∙ (λ i. Ok (field_is i, (ap (λ (n : ℕ). drop n bytes) size_is ∙ rest_is) i))

short_limit : (t : Text) → limit t ≤ 1000
short_limit path = omega arith
short_limit owner = omega arith
short_limit new_owner = omega arith

pub field_again : (field : Field) (rest : List ℕ) → IsGood field → field_at (kind_of_field field) (field_bytes field ++ rest) ≡ Ok (field, rest)
field_again (Text_ t said) rest good =
    let bytes : List ℕ = to_be_bytes w16 (length said) ++ (said ++ rest) in
    let small_enough : length said < 2 ^ 16 = omega (arith, good.0, short_limit t) in
    let size : Front w16 2 (2 ^ 16) (to_be_bytes w16 (length said) ++ (said ++ rest)) (length said) (said ++ rest) = field16.put (length said) (said ++ rest) small_enough in
    let told : told_length (to_be_bytes w16 (length said) ++ (said ++ rest)) ≡ length said = size.number in
    let least_is : least (text t) (to_be_bytes w16 (length said) ++ (said ++ rest)) ≡ 2 + length said =
    least_text t (to_be_bytes w16 (length said) ++ (said ++ rest)) size.enough ∙ ap (λ (n : ℕ). 2 + n) told in
    let text_is : take (told_length (to_be_bytes w16 (length said) ++ (said ++ rest))) (drop 2 (to_be_bytes w16 (length said) ++ (said ++ rest))) ≡
    said = (λ i. take (told i) (size.after i)) ∙ take_at said rest (length said) refl in
    let whole : 2 + length said ≤ length (to_be_bytes w16 (length said) ++ (said ++ rest)) =
    omega (arith, length-append (to_be_bytes w16 (length said)) (said ++ rest), length-append said rest) in
    let rest_is : drop (2 + length said) (to_be_bytes w16 (length said) ++ (said ++ rest)) ≡ rest =
    sym (drop-drop (length said) 2 (to_be_bytes w16 (length said) ++ (said ++ rest))) ∙ ap (drop (length said)) size.after
    ∙ drop_at said rest (length said) refl in
    ap (field_at (text t)) (append_assoc (to_be_bytes w16 (length said)) said rest)
    ∙ again_by (text t) (to_be_bytes w16 (length said) ++ (said ++ rest)) (Text_ t said) rest (2 + length said) least_is whole
    (good_text t (to_be_bytes w16 (length said) ++ (said ++ rest)) (omega (arith, told, good.0))
    (ap (list_all is_ascii_graphic) text_is ∙ good.1)) (ap (Text_ t) text_is) rest_is
field_again (Small_ s n) rest good =
    let put : Front w16 2 (2 ^ 16) (to_be_bytes w16 n ++ rest) n rest = field16.put n rest good in
    again_by (small s) (to_be_bytes w16 n ++ rest) (Small_ s n) rest 2 refl put.enough refl (ap (Small_ s) put.number) put.after
field_again (Number_ n) rest good =
    let put : Front w64 8 (2 ^ 64) (to_be_bytes w64 n ++ rest) n rest = field64.put n rest (omega (arith, good)) in
    let is : from_be_bytes w64 (take 8 (to_be_bytes w64 n ++ rest)) ≡ n = put.number in
    let within : ltb (2 ^ 62) (from_be_bytes w64 (take 8 (to_be_bytes w64 n ++ rest))) ≡ false = le-ltb _ _ (omega (arith, is, good)) in
    again_by number (to_be_bytes w64 n ++ rest) (Number_ n) rest 8 refl put.enough (ap (λ (b : Bool). cond {A = Option ℕ} b (Some 4) None) within) (ap Number_ is) put.after
field_again (Flag_ true) rest good = again_by flag (1 ∷ rest) (Flag_ true) rest 1 refl (omega arith) refl refl refl
field_again (Flag_ false) rest good = again_by flag (0 ∷ rest) (Flag_ false) rest 1 refl (omega arith) refl refl refl
field_again (Client_ bytes) rest good = again_by client (bytes ++ rest) (Client_ bytes) rest 16 refl (omega (arith, length-append bytes rest, good.0))
    refl (ap Client_ (take_at bytes rest 16 good.0)) (drop_at bytes rest 16 good.0)
field_again (Call_ n) rest good =
    let put : Front w32 4 (2 ^ 32) (to_be_bytes w32 n ++ rest) n rest = field32.put n rest good in
    again_by call_number (to_be_bytes w32 n ++ rest) (Call_ n) rest 4 refl put.enough refl (ap Call_ put.number) put.after

-- each field has a byte or more
pub some_byte : (field : Field) → IsGood field → 0 < length (field_bytes field)
some_byte (Text_ t said) good = omega (arith, length-append (to_be_bytes w16 (length said)) said)
some_byte (Small_ s n) good = omega arith
some_byte (Number_ n) good = omega arith
some_byte (Flag_ b) good = omega arith
some_byte (Client_ bytes) good = omega (arith, good.0)
some_byte (Call_ n) good = omega arith

-- a field needs at most so many bytes
pub least_bound : (kind : Kind) (bytes : List ℕ) → IsBytes bytes → least kind bytes ≤ 65537
least_bound (text t) bytes fits = by (ltb (length bytes) 2)
  where
    by : (b : Bool) → cond b 2 (2 + told_length bytes) ≤ 65537
    by true = omega arith
    by false = omega (arith, field16.small (take 2 bytes) (bytes_before 2 bytes fits))
least_bound (small s) bytes fits = omega arith
least_bound number bytes fits = omega arith
least_bound flag bytes fits = omega arith
least_bound client bytes fits = omega arith
least_bound call_number bytes fits = omega arith
