-- The body of an edit has no more than five bytes for each byte of its text.
use Rattle.std.proofs.Common.{ℕ, ◌≡◌, ◌+◌, ◌*◌, ◌<◌, ◌≤◌, List, [], ◌∷◌, ◌++◌, map, length, Option, Some, None, true, false, refl, ap, arith, length-append}
use Rattle.std.specs.Prelude.{codes}
use Rattle.std.specs.List.{flat_map, AllByRecursion}
use Rattle.std.specs.Fmt.{decimal}
use Rattle.std.specs.Int.{w16, w32, w64, to_be_bytes}
use Rattle.std.proofs.lemmas.Fmt.{decimal_nonempty}
use Rattle.std.proofs.lemmas.Grind.{flat_map-append}
use Rattle.base_words.specs.Hex.{hex_text}
use Rattle.base_words.proofs.HexLaws.{length-hex_text}
use Rattle.edit_ops.specs.declared.kind.OpKind.{OpKind}
use Rattle.edit_ops.specs.declared.kind.OpKind.TheVariants as kinds
use Rattle.edit_ops.specs.declared.op.Op.{Op}
use Rattle.edit_ops.specs.declared.op.Op.TheVariants.{Add, RenameOld, Delete, Mkdir, SetReplication, SetPermissions, SetOwner, Close, Times, SetQuota}
use Rattle.edit_ops.specs.declared.op.Op.TheVariants.{Rename, ConcatDelete, EndLogSegment, StartLogSegment}
use Rattle.edit_ops.specs.declared.call.Call.{Call}
use Rattle.edit_ops.specs.Words.{verb}
use Rattle.edit_ops.specs.Fields.{Text, Field, path, owner, new_owner, replication, permission, numbers, paths, Text_, Small_, Number_, Flag_, Client_, Call_, IsGood, field_bytes}
use Rattle.edit_ops.specs.Records.{EditView, kind_of, fields_of, call_fields, edit_fields, record_of}
use Rattle.edit_codec.specs.Spaced.{spaced, text_word}
use Rattle.edit_codec.specs.EditTexts.{call_text, text_of, IsText}
use Rattle.journal_text.specs.Texts.{bodies_text}
use Rattle.play_script.specs.Edits.{others_text, IsSayable}
use Rattle.pipe_lead.specs.Widths.{EditsFit}

-- ## A field
-- a count has no word
abbrev extra : Field → ℕ
extra (Text_ t bytes) = 0
extra (Small_ replication n) = 0
extra (Small_ permission n) = 0
extra (Small_ numbers n) = 2
extra (Small_ paths n) = 2
extra (Number_ n) = 0
extra (Flag_ b) = 0
extra (Client_ bytes) = 0
extra (Call_ n) = 0

abbrev extras : List Field → ℕ
extras [] = 0
extras (f ∷ fs) = extra f + extras fs

text_long : (t : Text) (bytes : List ℕ) → length bytes ≤ length (text_word false t bytes)
text_long t (b ∷ bytes) = omega arith
text_long path [] = omega arith
text_long owner [] = omega arith
text_long new_owner [] = omega arith

one : (f : Field) → IsGood f → length (field_bytes f) ≤ 5 * length (spaced false f) + extra f
one (Text_ t bytes) good =
    let long = text_long t bytes in
    let all : length (to_be_bytes w16 (length bytes) ++ bytes) ≡ 2 + length bytes = length-append (to_be_bytes w16 (length bytes)) bytes in
    omega (arith, long, all)
one (Small_ replication n) good = let two : length (to_be_bytes w16 n) ≡ 2 = refl in omega (arith, two)
one (Small_ permission n) good = let two : length (to_be_bytes w16 n) ≡ 2 = refl in omega (arith, two)
one (Small_ numbers n) good = let two : length (to_be_bytes w16 n) ≡ 2 = refl in omega (arith, two)
one (Small_ paths n) good = let two : length (to_be_bytes w16 n) ≡ 2 = refl in omega (arith, two)
one (Number_ n) good =
    let eight : length (to_be_bytes w64 n) ≡ 8 = refl in
    let some : 0 < length (decimal n) = decimal_nonempty n (omega (arith, good)) in
    omega (arith, eight, some)
one (Flag_ true) good = let four : length (codes " yes") ≡ 4 = refl in omega (arith, four)
one (Flag_ false) good = let three : length (codes " no") ≡ 3 = refl in omega (arith, three)
one (Client_ bytes) good = let twice = length-hex_text bytes in omega (arith, twice)
one (Call_ n) good = let four : length (to_be_bytes w32 n) ≡ 4 = refl in omega (arith, four)

all : (fs : List Field) → AllByRecursion IsGood fs → length (flat_map field_bytes fs) ≤ 5 * length (flat_map (spaced false) fs) + extras fs
all [] h = omega arith
all (f ∷ fs) h =
    let first = one f h.0 in
    let more = all fs h.1 in
    let bytes = length-append (field_bytes f) (flat_map field_bytes fs) in
    let words = length-append (spaced false f) (flat_map (spaced false) fs) in
    omega (arith, first, more, bytes, words)

-- ## An edit
no_numbers : (ns : List ℕ) → extras (map Number_ ns) ≡ 0
no_numbers [] = refl
no_numbers (n ∷ ns) = let none = no_numbers ns in omega (arith, none)

no_paths : (ps : List (List ℕ)) → extras (map (Text_ path) ps) ≡ 0
no_paths [] = refl
no_paths (p ∷ ps) = let none = no_paths ps in omega (arith, none)

few : (op : Op) → extras (fields_of op) ≤ 2
few (Add p r m a b s u g) = omega arith
few (RenameOld s d t) = omega arith
few (Delete p t) = omega arith
few (Mkdir p t s u g) = omega arith
few (SetReplication p r) = omega arith
few (SetPermissions p s) = omega arith
few (SetOwner p u g) = omega arith
few (Close p m a ls) = let none = no_numbers ls in omega (arith, none)
few (Times p m a) = omega arith
few (SetQuota p n s) = omega arith
few (Rename s d t o) = omega arith
few (ConcatDelete p t ss) = let none = no_paths ss in omega (arith, none)
few EndLogSegment = omega arith
few StartLogSegment = omega arith

with_call : (c : Option Call) (fs : List Field) → extras (call_fields c ++ fs) ≡ extras fs
with_call None fs = refl
with_call (Some c) fs = omega arith

call_long : (c : Option Call) → length (flat_map (spaced false) (call_fields c)) ≤ length (call_text c)
call_long None = omega arith
call_long (Some c) =
    let words : List ℕ = flat_map (spaced false) (call_fields (Some c)) in
    let front = length-append (codes "call") (words ++ 32 ∷ []) in
    let back = length-append words (32 ∷ []) in
    omega (arith, front, back)

verb_long : (k : OpKind) → 2 ≤ length (verb k)
unfolding verb
verb_long kinds.Add = omega arith
verb_long kinds.RenameOld = omega arith
verb_long kinds.Delete = omega arith
verb_long kinds.Mkdir = omega arith
verb_long kinds.SetReplication = omega arith
verb_long kinds.SetPermissions = omega arith
verb_long kinds.SetOwner = omega arith
verb_long kinds.Close = omega arith
verb_long kinds.Times = omega arith
verb_long kinds.SetQuota = omega arith
verb_long kinds.Rename = omega arith
verb_long kinds.ConcatDelete = omega arith
verb_long kinds.EndLogSegment = omega arith
verb_long kinds.StartLogSegment = omega arith

body_fits : (e : EditView) → IsText (text_of false e) e → 1 + length (hex_text (record_of e)) ≤ 10 * length (text_of false e)
body_fits e h =
    let calls : List Field = call_fields e.call in
    let fields : List Field = fields_of e.op in
    let its = all (edit_fields e) h.edit.fields in
    let counts = with_call e.call fields in
    let few_counts = few e.op in
    let parted = ap length (flat_map-append (spaced false) calls fields) in
    let parts = length-append (flat_map (spaced false) calls) (flat_map (spaced false) fields) in
    let call = call_long e.call in
    let word = verb_long (kind_of e.op) in
    let text = length-append (call_text e.call) (verb (kind_of e.op) ++ flat_map (spaced false) fields) in
    let rest = length-append (verb (kind_of e.op)) (flat_map (spaced false) fields) in
    let twice = length-hex_text (record_of e) in
    omega (arith, its, counts, few_counts, parted, parts, call, word, text, rest, twice)

-- ## The edits of a line
others_fit : (es : List EditView) → AllByRecursion IsSayable es → length (bodies_text (map record_of es)) ≤ 10 * length (others_text es)
unfolding bodies_text
others_fit [] h = omega arith
others_fit (e ∷ es) h =
    let first = body_fits e h.0.text in
    let more = others_fit es h.1 in
    let bodies = length-append (32 ∷ hex_text (record_of e)) (bodies_text (map record_of es)) in
    let texts = length-append (codes " ; " ++ text_of false e) (others_text es) in
    let one_text = length-append (codes " ; ") (text_of false e) in
    omega (arith, first, more, bodies, texts, one_text)

pub fits : EditsFit
unfolding bodies_text
fits [] h = omega arith
fits (e ∷ es) h =
    let first = body_fits e h.0.text in
    let more = others_fit es h.1 in
    let bodies = length-append (32 ∷ hex_text (record_of e)) (bodies_text (map record_of es)) in
    let texts = length-append (text_of false e) (others_text es) in
    omega (arith, first, more, bodies, texts)
