-- The values of the listing's objects can be read: numbers below 2^64, UTF-8 texts, and arrays of
-- such.
use Rattle.std.proofs.Common.{◌≡◌, ℕ, ◌^◌, ◌<◌, ◌≤◌, List, [], ◌∷◌, ◌++◌, map, true, Option, Some, None, codes, decimal, IsUtf8, refl, sym, ap, subst, ◌∙◌, arith}
use Rattle.std.specs.Prelude.{option_map, option_and_then, unwrap_or}
use Rattle.std.specs.Char.{is_ascii_graphic}
use Rattle.std.specs.List.{AllByRecursion, list_all}
use Rattle.std.proofs.lemmas.Bool.{and_parts}
use Rattle.std.proofs.lemmas.Str.{IsUtf8-from_ascii}
use Rattle.std.proofs.lemmas.Fmt.{IsAscii-decimal}
use Rattle.json.specs.Json as json
use Rattle.json.specs.Json.{Json, null, boolean, number, string, array, object}
use Rattle.json.specs.Tree.{depth, items_depth, members_depth, HasNumbers, ItemsHaveNumbers, MembersHaveNumbers}
use Rattle.json.proofs.Printed.Decimals.{IsNumber-decimal}
use Rattle.json.proofs.Printed.Utf8.{are_ascii, IsUtf8-are_ascii}
use Rattle.list_text.specs.Values.{number_of, items_of, members_of}
use Rattle.list_text.proofs.Ascii.{graphic_ascii}
use Rattle.serde_json.specs.Data as datum
use Rattle.serde_json.specs.Data.{Data, Members, no_members}
use Rattle.serde_json.specs.Read.{of_json, of_items, of_members}
use Rattle.serde_json.proofs.Numbers.{number_of-decimal}
use Rattle.list_back.specs.Members.{put_all, put_onto}
use Rattle.list_back.specs.Texts.{HasTexts, ItemsHaveTexts, MembersHaveTexts}
use Rattle.edit_ops.specs.declared.call.Call.{Call}
use Rattle.edit_ops.specs.declared.op.Op.{Op}
use Rattle.edit_ops.specs.declared.op.Op.TheVariants.{Add, RenameOld, Delete, Mkdir, SetReplication, SetPermissions, SetOwner, Close, Times, SetQuota}
use Rattle.edit_ops.specs.declared.op.Op.TheVariants.{Rename, ConcatDelete, EndLogSegment, StartLogSegment}
use Rattle.edit_ops.specs.Fields.{Field, Text_, Number_, path, IsGood}
use Rattle.edit_ops.specs.Records.{EditView, fields_of, call_fields}
use Rattle.edit_ops.specs.Grammar.{IsEdit}
use Rattle.list_oev.specs.Entries.{early, call_members, late, members, entry}
use Rattle.list_oev.proofs.EntryLaws.{client_ascii}
use Rattle.list_back.specs.Rows.{Row, edit_rows, as_data}
use Rattle.list_back.proofs.Rows.{read_row, rows_same, keys_ascii}

-- ## Values that can be read

abbrev pub IsLeaf : Json → Type 0
IsLeaf null = Unit {0}
IsLeaf (boolean b) = Unit {0}
IsLeaf (number s) = (n : ℕ) × (s ≡ decimal n) × (n < 2 ^ 64)
IsLeaf (string s) = IsUtf8 s
IsLeaf (array js) = ⊥
IsLeaf (object ms) = ⊥

abbrev pub AreLeaves : json.Items → Type 0
AreLeaves json.no_items = Unit {0}
AreLeaves (json.item j js) = IsLeaf j × AreLeaves js

abbrev pub IsSound : Json → Type 0
IsSound null = Unit {0}
IsSound (boolean b) = Unit {0}
IsSound (number s) = (n : ℕ) × (s ≡ decimal n) × (n < 2 ^ 64)
IsSound (string s) = IsUtf8 s
IsSound (array js) = AreLeaves js
IsSound (object ms) = ⊥

pub number_reads : (n : ℕ) → n < 2 ^ 64 → of_json (number_of n) ≡ Some (datum.number (datum.unsigned n))
number_reads n h = ap (λ (o : Option datum.Num). option_map datum.number o) (number_of-decimal n h)

pub as_is : (j : Json) (d : Data) → of_json j ≡ Some d → as_data j ≡ d
as_is j d e = ap (λ (o : Option Data). unwrap_or o datum.null) e

reads_as : (j : Json) (d : Data) → of_json j ≡ Some d → of_json j ≡ Some (as_data j)
reads_as j d e = e ∙ ap (λ (x : Data). Some x) (sym (as_is j d e))

decimal_reads : (s : List ℕ) (n : ℕ) → s ≡ decimal n → n < 2 ^ 64 → of_json (number s) ≡ Some (as_data (number s))
decimal_reads s n e h = reads_as (number s) (datum.number (datum.unsigned n)) (ap (λ (t : List ℕ). of_json (number t)) e ∙ number_reads n h)

leaf_reads : (j : Json) → IsLeaf j → of_json j ≡ Some (as_data j)
leaf_reads null h = refl
leaf_reads (boolean b) h = refl
leaf_reads (number s) h = decimal_reads s h.0 h.1 h.2
leaf_reads (string s) h = refl
leaf_reads (array js) h = absurd h
leaf_reads (object ms) h = absurd h

leaves_read : (js : json.Items) → AreLeaves js → (ds : datum.Items) × (of_items js ≡ Some ds)
leaves_read json.no_items h = (datum.no_items, refl)
leaves_read (json.item j js) h =
    let rest = leaves_read js h.1 in (
      datum.item (as_data j) rest.0,
      ap (λ (o : Option Data). option_and_then (λ d. option_map (datum.item d) (of_items js)) o) (leaf_reads j h.0)
          ∙ ap (λ (o : Option datum.Items). option_map (datum.item (as_data j)) o) rest.1,
    )

pub sound_reads : (j : Json) → IsSound j → of_json j ≡ Some (as_data j)
sound_reads null h = refl
sound_reads (boolean b) h = refl
sound_reads (number s) h = decimal_reads s h.0 h.1 h.2
sound_reads (string s) h = refl
sound_reads (array js) h = let r = leaves_read js h in reads_as (array js) (datum.array r.0) (ap (λ (o : Option datum.Items). option_map datum.array o) r.1)
sound_reads (object ms) h = absurd h

abbrev AreSound : List Row → Type 0
AreSound rows = AllByRecursion (λ row. IsSound row.1) rows

onto : (rows : List Row) (found : Members) → AreSound rows → of_members (members_of rows) found ≡ Some (put_onto (map read_row rows) found)
onto [] found h = refl
onto (row ∷ rows) found h =
    ap (λ (o : Option Data). option_and_then (λ d. of_members (members_of rows) (datum.put row.0 d found)) o) (sound_reads row.1 h.0)
    ∙ onto rows (datum.put row.0 (as_data row.1) found) h.1

-- ## Their texts and numbers

leaf_numbers : (j : Json) → IsLeaf j → HasNumbers j
leaf_numbers null h = tt
leaf_numbers (boolean b) h = tt
leaf_numbers (number s) h = subst (λ (t : List ℕ). HasNumbers (number t)) (sym h.1) (IsNumber-decimal h.0 h.2)
leaf_numbers (string s) h = tt
leaf_numbers (array js) h = absurd h
leaf_numbers (object ms) h = absurd h

leaves_numbers : (js : json.Items) → AreLeaves js → ItemsHaveNumbers js
leaves_numbers json.no_items h = tt
leaves_numbers (json.item j js) h = (leaf_numbers j h.0, leaves_numbers js h.1)

sound_numbers : (j : Json) → IsSound j → HasNumbers j
sound_numbers null h = tt
sound_numbers (boolean b) h = tt
sound_numbers (number s) h = subst (λ (t : List ℕ). HasNumbers (number t)) (sym h.1) (IsNumber-decimal h.0 h.2)
sound_numbers (string s) h = tt
sound_numbers (array js) h = leaves_numbers js h
sound_numbers (object ms) h = absurd h

rows_numbers : (rows : List Row) → AreSound rows → MembersHaveNumbers (members_of rows)
rows_numbers [] h = tt
rows_numbers (row ∷ rows) h = (sound_numbers row.1 h.0, rows_numbers rows h.1)

decimal_text : (n : ℕ) → n < 2 ^ 64 → IsUtf8 (decimal n)
decimal_text n h = IsUtf8-from_ascii (decimal n) (IsAscii-decimal n h)

leaf_texts : (j : Json) → IsLeaf j → HasTexts j
leaf_texts null h = tt
leaf_texts (boolean b) h = tt
leaf_texts (number s) h = subst (λ (t : List ℕ). HasTexts (number t)) (sym h.1) (decimal_text h.0 h.2)
leaf_texts (string s) h = h
leaf_texts (array js) h = absurd h
leaf_texts (object ms) h = absurd h

leaves_texts : (js : json.Items) → AreLeaves js → ItemsHaveTexts js
leaves_texts json.no_items h = tt
leaves_texts (json.item j js) h = (leaf_texts j h.0, leaves_texts js h.1)

sound_texts : (j : Json) → IsSound j → HasTexts j
sound_texts null h = tt
sound_texts (boolean b) h = tt
sound_texts (number s) h = subst (λ (t : List ℕ). HasTexts (number t)) (sym h.1) (decimal_text h.0 h.2)
sound_texts (string s) h = h
sound_texts (array js) h = leaves_texts js h
sound_texts (object ms) h = absurd h

rows_texts : (rows : List Row) → AreSound rows → list_all (λ row. are_ascii row.0) rows ≡ true → MembersHaveTexts (members_of rows)
rows_texts [] h k = tt
rows_texts (row ∷ rows) h k = let p = and_parts _ _ k in (IsUtf8-are_ascii row.0 p.0, sound_texts row.1 h.0, rows_texts rows h.1 p.1)

leaf_depth : (j : Json) → IsLeaf j → depth j ≤ 0
leaf_depth null h = omega arith
leaf_depth (boolean b) h = omega arith
leaf_depth (number s) h = omega arith
leaf_depth (string s) h = omega arith
leaf_depth (array js) h = absurd h
leaf_depth (object ms) h = absurd h

leaves_depth : (js : json.Items) → AreLeaves js → items_depth js ≤ 0
leaves_depth json.no_items h = omega arith
leaves_depth (json.item j js) h = omega (arith, leaf_depth j h.0, leaves_depth js h.1)

sound_depth : (j : Json) → IsSound j → depth j ≤ 1
sound_depth null h = omega arith
sound_depth (boolean b) h = omega arith
sound_depth (number s) h = omega arith
sound_depth (string s) h = omega arith
sound_depth (array js) h = omega (arith, leaves_depth js h)
sound_depth (object ms) h = absurd h

rows_depth : (rows : List Row) → AreSound rows → members_depth (members_of rows) ≤ 1
rows_depth [] h = omega arith
rows_depth (row ∷ rows) h = omega (arith, sound_depth row.1 h.0, rows_depth rows h.1)

-- ## The listing's values

text_sound : (s : List ℕ) → list_all is_ascii_graphic s ≡ true → IsUtf8 s
text_sound s h = IsUtf8-from_ascii s (graphic_ascii s h)

big : (n : ℕ) → n ≤ 2 ^ 62 → IsSound (number_of n)
big n h = (n, refl, omega (arith, h))

tiny : (n : ℕ) → n < 2 ^ 16 → IsSound (number_of n)
tiny n h = (n, refl, omega (arith, h))

numbers_sound : (ns : List ℕ) → AllByRecursion IsGood (map Number_ ns) → AreLeaves (items_of (map number_of ns))
numbers_sound [] h = tt
numbers_sound (n ∷ ns) h = ((n, refl, omega (arith, h.0)), numbers_sound ns h.1)

paths_sound : (ss : List (List ℕ)) → AllByRecursion IsGood (map (Text_ path) ss) → AreLeaves (items_of (map string ss))
paths_sound [] h = tt
paths_sound (s ∷ ss) h = (text_sound s h.0.1, paths_sound ss h.1)

early_sound : (op : Op) → AllByRecursion IsGood (fields_of op) → AreSound (early op)
early_sound (Add p r m a b s u g) h = (big a h.1.1.1.0, (big b h.1.1.1.1.0, tt))
early_sound (RenameOld s d t) h = tt
early_sound (Delete p t) h = tt
early_sound (Mkdir p t s u g) h = tt
early_sound (SetReplication p r) h = tt
early_sound (SetPermissions p s) h = tt
early_sound (SetOwner p u g) h = tt
early_sound (Close p m a ls) h = (big a h.1.1.0, tt)
early_sound (Times p m a) h = (big a h.1.1.0, tt)
early_sound (SetQuota p n s) h = tt
early_sound (Rename s d t o) h = tt
early_sound (ConcatDelete p t ss) h = tt
early_sound EndLogSegment h = tt
early_sound StartLogSegment h = tt

late_sound : (txid : ℕ) (op : Op) → txid ≤ 2 ^ 62 → AllByRecursion IsGood (fields_of op) → AreSound (late txid op)
late_sound txid (Add p r m a b s u g) small h = (
  text_sound g h.1.1.1.1.1.1.1.0.1,
  (
    big m h.1.1.0,
    (
      text_sound (codes "OP_ADD") refl,
      (
        text_sound p h.0.1,
        (tiny s h.1.1.1.1.1.0, (tiny r h.1.0, (big txid small, (text_sound u h.1.1.1.1.1.1.0.1, tt)))),
      ),
    ),
  ),
)
late_sound txid (RenameOld s d t) small h = (text_sound d h.1.0.1, (text_sound (codes "OP_RENAME_OLD") refl, (text_sound s h.0.1, (big t h.1.1.0, (big txid small, tt)))))
late_sound txid (Delete p t) small h = (text_sound (codes "OP_DELETE") refl, (text_sound p h.0.1, (big t h.1.0, (big txid small, tt))))
late_sound txid (Mkdir p t s u g) small h = (
  text_sound g h.1.1.1.1.0.1,
  (text_sound (codes "OP_MKDIR") refl, (text_sound p h.0.1, (tiny s h.1.1.0, (big t h.1.0, (big txid small, (text_sound u h.1.1.1.0.1, tt)))))),
)
late_sound txid (SetReplication p r) small h = (text_sound (codes "OP_SET_REPLICATION") refl, (text_sound p h.0.1, (tiny r h.1.0, (big txid small, tt))))
late_sound txid (SetPermissions p s) small h = (text_sound (codes "OP_SET_PERMISSIONS") refl, (text_sound p h.0.1, (tiny s h.1.0, (big txid small, tt))))
late_sound txid (SetOwner p u g) small h = (text_sound g h.1.1.0.1, (text_sound (codes "OP_SET_OWNER") refl, (text_sound p h.0.1, (big txid small, (text_sound u h.1.0.1, tt)))))
late_sound txid (Close p m a ls) small h = (numbers_sound ls h.1.1.1.1, (big m h.1.0, (text_sound (codes "OP_CLOSE") refl, (text_sound p h.0.1, (big txid small, tt)))))
late_sound txid (Times p m a) small h = (big m h.1.0, (text_sound (codes "OP_TIMES") refl, (text_sound p h.0.1, (big txid small, tt))))
late_sound txid (SetQuota p n s) small h = (big s h.1.1.0, (big n h.1.0, (text_sound (codes "OP_SET_QUOTA") refl, (text_sound p h.0.1, (big txid small, tt)))))
late_sound txid (Rename s d t o) small h = (text_sound d h.1.0.1, (text_sound (codes "OP_RENAME") refl, (tt, (text_sound s h.0.1, (big t h.1.1.0, (big txid small, tt))))))
late_sound txid (ConcatDelete p t ss) small h = (text_sound (codes "OP_CONCAT_DELETE") refl, (paths_sound ss h.1.1.1, (text_sound p h.0.1, (big t h.1.0, (big txid small, tt)))))
late_sound txid EndLogSegment small h = (text_sound (codes "OP_END_LOG_SEGMENT") refl, (big txid small, tt))
late_sound txid StartLogSegment small h = (text_sound (codes "OP_START_LOG_SEGMENT") refl, (big txid small, tt))

call_sound : (call : Option Call) (fs : List Field) → AllByRecursion IsGood (call_fields call ++ fs) → AreSound (call_members call) × AllByRecursion IsGood fs
call_sound None fs h = (tt, h)
call_sound (Some call) fs h = (((call.number, refl, omega (arith, h.1.0)), (IsUtf8-from_ascii _ (client_ascii call.client), tt)), h.1.1)

sound_append : (xs ys : List Row) → AreSound xs → AreSound ys → AreSound (xs ++ ys)
sound_append [] ys h k = k
sound_append (x ∷ xs) ys h k = (h.0, sound_append xs ys h.1 k)

pub members_sound : (txid : ℕ) (e : EditView) → IsEdit e → txid ≤ 2 ^ 62 → AreSound (members txid e)
members_sound txid e is small =
    let c = call_sound e.call (fields_of e.op) is.fields in
    sound_append (early e.op) (call_members e.call ++ late txid e.op) (early_sound e.op c.1) (sound_append (call_members e.call) (late txid e.op) c.0 (late_sound txid e.op small c.1))

-- ## The object of an edit

pub entry_reads : (txid : ℕ) (e : EditView) → IsEdit e → txid ≤ 2 ^ 62 → of_json (entry txid e) ≡ Some (datum.object (put_all (map read_row (edit_rows txid e))))
entry_reads txid e is small =
    ap (λ (o : Option Members). option_map datum.object o) (onto (members txid e) no_members (members_sound txid e is small))
    ∙ ap (λ (ms : Members). Some (datum.object ms)) (rows_same txid e)

pub entry_numbers : (txid : ℕ) (e : EditView) → IsEdit e → txid ≤ 2 ^ 62 → HasNumbers (entry txid e)
entry_numbers txid e is small = rows_numbers (members txid e) (members_sound txid e is small)

pub entry_texts : (txid : ℕ) (e : EditView) → IsEdit e → txid ≤ 2 ^ 62 → HasTexts (entry txid e)
entry_texts txid e is small = rows_texts (members txid e) (members_sound txid e is small) (keys_ascii txid e)

pub entry_depth : (txid : ℕ) (e : EditView) → IsEdit e → txid ≤ 2 ^ 62 → depth (entry txid e) ≤ 2
entry_depth txid e is small = omega (arith, rows_depth (members txid e) (members_sound txid e is small))
