-- The text of an edit is words with one space between two.
use Rattle.std.proofs.Common.{◌≡◌, ℕ, ◌<◌, ◌≤◌, ◌^◌, true, false, List, [], ◌∷◌, ◌++◌, length, Option, Some, None, refl, sym, ap, ◌∙◌, append_assoc, append-nil, arith}
use Rattle.std.specs.Prelude.{codes}
use Rattle.std.specs.List.{flat_map, list_all, AllByRecursion}
use Rattle.std.specs.Char.{is_ascii_graphic, digit_value}
use Rattle.std.specs.Str.Parse.{AllDigits}
use Rattle.std.specs.Fmt.{digits}
use Rattle.std.proofs.lemmas.Bool.Decides.{nat_tests}
use Rattle.std.proofs.lemmas.Fmt.{digits_is_IsNumeral}
use Rattle.std.proofs.Math.Nat.{pow-le-pow_left}
use Rattle.edit_ops.specs.declared.op.Op.{Op}
use Rattle.edit_ops.specs.declared.kind.OpKind.{OpKind}
use Rattle.edit_ops.specs.declared.kind.OpKind.TheVariants as kinds
use Rattle.edit_ops.specs.declared.call.Call.{Call}
use Rattle.edit_ops.specs.Words.{verb}
use Rattle.edit_ops.specs.Fields.{Field, path, owner, new_owner, replication, permission, numbers, paths, Text_, Small_, Number_, Flag_, Client_, Call_, IsGood}
use Rattle.edit_ops.specs.Records.{EditView, kind_of, fields_of, call_fields}
use Rattle.base_words.specs.Hex.{hex_text}
use Rattle.base_words.proofs.HexLaws.{length-hex_text, hex_graphic}
use Rattle.edit_codec.specs.Spaced.{spaced, CanSay}
use Rattle.edit_codec.specs.EditTexts.{IsText}
use Rattle.edit_codec.specs.ReadTexts.{IsLine}
use Rattle.edit_codec.specs.SaidTexts.{IsGraphic, IsWorded}
use Rattle.edit_codec.proofs.SayEdits.{called_text, plain_text}

graphic_digit : (base b : ℕ) → base ≤ 10 → digit_value b < base → is_ascii_graphic b ≡ true
graphic_digit base b high d = grind (arith, nat_tests)

digits_graphic : (base : ℕ) (ds : List ℕ) → base ≤ 10 → AllDigits base ds → list_all is_ascii_graphic ds ≡ true
digits_graphic base [] high d = refl
digits_graphic base (b ∷ ds) high d = let first : is_ascii_graphic b ≡ true = graphic_digit base b high d.0 in rw first (digits_graphic base ds high d.1)

number_graphic : (base : ℕ) → 2 ≤ base → base ≤ 10 → (n : ℕ) → n < 2 ^ 64 → IsGraphic (digits base false n)
number_graphic base low high n lt =
    let numeral = (digits_is_IsNumeral base false low (omega arith) n (omega (arith, lt, pow-le-pow_left low 64))).0 in
    record { some = numeral.0; graphic = digits_graphic base (digits base false n) high numeral.1 }

client_graphic : (bytes : List ℕ) → length bytes ≡ 16 → AllByRecursion (λ b. b < 256) bytes → IsGraphic (hex_text bytes)
client_graphic bytes len fit = record { some = omega (arith, len, length-hex_text bytes); graphic = hex_graphic bytes fit }

-- ## Words after spaces
abbrev spelled_by : List (List ℕ) → List ℕ
spelled_by words = flat_map (λ word. 32 ∷ word) words

abbrev Spelled : List ℕ → Type 0
Spelled text = (words : List (List ℕ)) × AllByRecursion IsGraphic words × (text ≡ spelled_by words)

nothing : Spelled []
nothing = ([], tt, refl)

one : (word : List ℕ) → IsGraphic word → Spelled (32 ∷ word)
one word g = (word ∷ [], (g, tt), sym (append-nil (32 ∷ word)))

all_joined : (xs ys : List (List ℕ)) → AllByRecursion IsGraphic xs → AllByRecursion IsGraphic ys → AllByRecursion IsGraphic (xs ++ ys)
all_joined [] ys p q = q
all_joined (x ∷ xs) ys p q = (p.0, all_joined xs ys p.1 q)

spelled_joined : (xs ys : List (List ℕ)) → spelled_by (xs ++ ys) ≡ spelled_by xs ++ spelled_by ys
spelled_joined [] ys = refl
spelled_joined (x ∷ xs) ys = ap (λ (w : List ℕ). 32 ∷ (x ++ w)) (spelled_joined xs ys) ∙ sym (append_assoc (32 ∷ x) (spelled_by xs) (spelled_by ys))

joined : (a b : List ℕ) → Spelled a → Spelled b → Spelled (a ++ b)
joined a b p q = (p.0 ++ q.0, all_joined p.0 q.0 p.1 q.1, (λ i. p.2 i ++ q.2 i) ∙ sym (spelled_joined p.0 q.0))

text_graphic : (b : ℕ) (bytes : List ℕ) → list_all is_ascii_graphic (b ∷ bytes) ≡ true → IsGraphic (b ∷ bytes)
text_graphic b bytes g = record { some = omega arith; graphic = g }

field_spelled : (f : Field) → IsGood f → CanSay f → Spelled (spaced false f)
field_spelled (Text_ path []) good can = absurd (can refl)
field_spelled (Text_ path (b ∷ bytes)) good can = one (b ∷ bytes) (text_graphic b bytes good.1)
field_spelled (Text_ owner []) good can = absurd (can refl)
field_spelled (Text_ owner (b ∷ bytes)) good can = one (b ∷ bytes) (text_graphic b bytes good.1)
field_spelled (Text_ new_owner []) good can = one (45 ∷ []) (record { some = omega arith; graphic = refl })
field_spelled (Text_ new_owner (b ∷ bytes)) good can = one (b ∷ bytes) (text_graphic b bytes good.1)
field_spelled (Small_ replication n) good can = one (digits 10 false n) (number_graphic 10 (omega arith) (omega arith) n (omega (arith, good)))
field_spelled (Small_ permission n) good can = one (digits 8 false n) (number_graphic 8 (omega arith) (omega arith) n (omega (arith, good)))
field_spelled (Small_ numbers n) good can = nothing
field_spelled (Small_ paths n) good can = nothing
field_spelled (Number_ n) good can = one (digits 10 false n) (number_graphic 10 (omega arith) (omega arith) n (omega (arith, good)))
field_spelled (Flag_ true) good can = one (codes "yes") (record { some = omega arith; graphic = refl })
field_spelled (Flag_ false) good can = one (codes "no") (record { some = omega arith; graphic = refl })
field_spelled (Client_ bytes) good can = one (hex_text bytes) (client_graphic bytes good.0 good.1)
field_spelled (Call_ n) good can = one (digits 10 false n) (number_graphic 10 (omega arith) (omega arith) n (omega (arith, good)))

fields_spelled : (fields : List Field) → AllByRecursion IsGood fields → AllByRecursion CanSay fields → Spelled (flat_map (spaced false) fields)
fields_spelled [] good can = nothing
fields_spelled (f ∷ fs) good can = joined (spaced false f) (flat_map (spaced false) fs) (field_spelled f good.0 can.0) (fields_spelled fs good.1 can.1)

verb_graphic : (kind : OpKind) → IsGraphic (verb kind)
unfolding verb
verb_graphic kinds.Add = record { some = omega arith; graphic = refl }
verb_graphic kinds.RenameOld = record { some = omega arith; graphic = refl }
verb_graphic kinds.Delete = record { some = omega arith; graphic = refl }
verb_graphic kinds.Mkdir = record { some = omega arith; graphic = refl }
verb_graphic kinds.SetReplication = record { some = omega arith; graphic = refl }
verb_graphic kinds.SetPermissions = record { some = omega arith; graphic = refl }
verb_graphic kinds.SetOwner = record { some = omega arith; graphic = refl }
verb_graphic kinds.Close = record { some = omega arith; graphic = refl }
verb_graphic kinds.Times = record { some = omega arith; graphic = refl }
verb_graphic kinds.SetQuota = record { some = omega arith; graphic = refl }
verb_graphic kinds.Rename = record { some = omega arith; graphic = refl }
verb_graphic kinds.ConcatDelete = record { some = omega arith; graphic = refl }
verb_graphic kinds.EndLogSegment = record { some = omega arith; graphic = refl }
verb_graphic kinds.StartLogSegment = record { some = omega arith; graphic = refl }

line_worded : (text : List ℕ) (op : Op) → IsLine text op → IsWorded text
line_worded text op line =
    let rest = fields_spelled (fields_of op) line.good line.said in
    record {
      first = verb (kind_of op);
      others = rest.0;
      words = (verb_graphic (kind_of op), rest.1);
      spelled = line.spelled ∙ ap (λ (w : List ℕ). verb (kind_of op) ++ w) rest.2;
    }

worded_by : (text : List ℕ) (c : Option Call) (op : Op) → IsText text (record { op = op; call = c }) → IsWorded text
worded_by text None op is = line_worded text op (plain_text text op is)
worded_by text (Some call) op is =
    let t = called_text text call op is in
    let front = fields_spelled (call_fields (Some call)) t.good (tt, (tt, tt)) in
    let line = line_worded t.line op t.is_line in
    record {
      first = codes "call";
      others = front.0 ++ (line.first ∷ line.others);
      words = (record { some = omega arith; graphic = refl }, all_joined front.0 (line.first ∷ line.others) front.1 line.words);
      spelled = t.parts ∙ ap (λ (w : List ℕ). codes "call" ++ w) ((λ i. front.2 i ++ 32 ∷ line.spelled i) ∙ sym (spelled_joined front.0 (line.first ∷ line.others)));
    }

pub worded : (text : List ℕ) (e : EditView) → IsText text e → IsWorded text
worded text e is = worded_by text e.call e.op is
