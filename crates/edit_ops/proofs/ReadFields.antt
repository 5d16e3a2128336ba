-- What the readers of fields find.
use Rattle.std.proofs.Common.{◌≡◌, ℕ, ◌+◌, ◌-◌, ◌<◌, ◌≤◌, Bool, true, false, cond, ltb, List, length, take, drop, Some, None, Ok, Err, refl, sym, ap, ◌∙◌, arith}
use Rattle.std.specs.List.{list_all}
use Rattle.std.specs.Char.{is_ascii_graphic}
use Rattle.std.proofs.lemmas.Bool.{le-ltb, lt-ltb}
use Rattle.std.proofs.lemmas.List.{drop-drop}
use Rattle.edit_ops.specs.declared.field_fault.FieldFault.TheVariants.{Short, Bad}
use Rattle.edit_ops.specs.Fields.{Kind, Text, Text_, text, limit}
use Rattle.edit_ops.specs.Rules.{told_length, least, broken_rule}
use Rattle.edit_ops.specs.Reading.{field_at, value_at}

pub number_found : (b : Bool) (v n : ℕ) → Some n ≡ cond b (Some v) None → (b ≡ true) × (n ≡ v)
number_found true v n e = (refl, cc)
number_found false v n e = absurd cc

-- a field that is whole and breaks no rule
pub whole_field : (kind : Kind) (bytes : List ℕ) → least kind bytes ≤ length bytes → broken_rule kind bytes ≡ None → field_at kind bytes ≡ Ok (value_at kind bytes, drop (least kind bytes) bytes)
unfolding field_at
whole_field kind bytes there none =
    let long : ltb (length bytes) (least kind bytes) ≡ false = le-ltb _ _ there in
    rw (long, none) refl

pub broken_field : (kind : Kind) (bytes : List ℕ) (rule : ℕ) → least kind bytes ≤ length bytes → broken_rule kind bytes ≡ Some rule → field_at kind bytes ≡ Err (Bad (length bytes) rule)
unfolding field_at
broken_field kind bytes rule there some =
    let long : ltb (length bytes) (least kind bytes) ≡ false = le-ltb _ _ there in
    rw (long, some) refl

pub short_field : (kind : Kind) (bytes : List ℕ) → length bytes < least kind bytes → field_at kind bytes ≡ Err (Short (least kind bytes - length bytes))
unfolding field_at
short_field kind bytes short =
    let cut : ltb (length bytes) (least kind bytes) ≡ true = lt-ltb _ _ short in
    rw cut refl

pub least_text : (t : Text) (bytes : List ℕ) → 2 ≤ length bytes → least (text t) bytes ≡ 2 + told_length bytes
least_text t bytes there = let two : ltb (length bytes) 2 ≡ false = le-ltb _ _ there in rw two refl

pub good_text : (t : Text) (bytes : List ℕ) → told_length bytes ≤ limit t → list_all is_ascii_graphic (take (told_length bytes) (drop 2 bytes)) ≡ true → broken_rule (text t) bytes ≡ None
good_text t bytes short printable = let fits : ltb (limit t) (told_length bytes) ≡ false = le-ltb _ _ short in rw (fits, printable) refl

pub text_found : (t : Text) (bytes said rest : List ℕ) (len : ℕ) → len ≡ told_length bytes → 2 + len ≤ length bytes → len ≤ limit t
    → list_all is_ascii_graphic said ≡ true → said ≡ take len (drop 2 bytes) → rest ≡ drop len (drop 2 bytes)
    → field_at (text t) bytes ≡ Ok (Text_ t said, rest)
text_found t bytes said rest len told there short printable said_is rest_is =
    let text_is : take (told_length bytes) (drop 2 bytes) ≡ said = ap (λ (n : ℕ). take n (drop 2 bytes)) (sym told) ∙ sym said_is in
    let least_is : least (text t) bytes ≡ 2 + told_length bytes = least_text t bytes (omega (arith, there)) in
    let rest_of : drop (least (text t) bytes) bytes ≡ rest = ap (λ (n : ℕ). drop n bytes) least_is ∙ sym (drop-drop (told_length bytes) 2 bytes)
    ∙ ap (λ (n : ℕ). drop n (drop 2 bytes)) (sym told) ∙ sym rest_is in
    whole_field (text t) bytes (omega (arith, least_is, told, there)) (good_text t bytes (omega (arith, told, short)) (ap (list_all is_ascii_graphic) text_is ∙ printable))
    ∙ (λ i. Ok (Text_ t (text_is i), rest_of i))
