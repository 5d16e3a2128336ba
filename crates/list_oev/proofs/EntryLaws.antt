-- Edits as JSON: one edit more, and that texts are ASCII.
use Rattle.std.proofs.Common.{◌≡◌, ℕ, suc, ◌+◌, List, [], ◌∷◌, ◌++◌, length, map, codes, Option, Some, None, Result, Ok, Err, IsAscii, refl, sym, ap, subst, ◌∙◌, append_assoc, arith}
use Rattle.std.specs.List.{flat_map, AllByRecursion}
use Rattle.std.proofs.lemmas.List.{append-nil}
use Rattle.std.proofs.lemmas.List.Concat.{flat_map-append}
use Rattle.json.specs.Json.{Json, string}
use Rattle.json.specs.Token.{Token}
use Rattle.json.specs.Tree.{json_tokens}
use Rattle.json.specs.Written.{Written}
use Rattle.hex.specs.Hex.{lower_digits, encode_lower}
use Rattle.hex.proofs.HexLemmas.{IsAscii-encode_with}
use Rattle.edit_ops.specs.declared.op.Op.{Op}
use Rattle.edit_ops.specs.declared.op.Op.TheVariants.{Add, RenameOld, Delete, Mkdir, SetReplication, SetPermissions, SetOwner, Close, Times, SetQuota}
use Rattle.edit_ops.specs.declared.op.Op.TheVariants.{Rename, ConcatDelete, EndLogSegment, StartLogSegment}
use Rattle.edit_ops.specs.declared.call.Call.{Call}
use Rattle.edit_ops.specs.Fields.{Text_, path, IsGood}
use Rattle.edit_ops.specs.Records.{EditView, fields_of}
use Rattle.edit_ops.specs.Grammar.{IsEdit}
use Rattle.edit_ops.proofs.EditLaws.{op_is_good}
use Rattle.list_text.specs.Values.{number_of, items_of, array_of, object_of, json_line, member_tokens, AreAsciiTexts, IsAsciiMember}
use Rattle.list_text.specs.Written.{Adds}
use Rattle.list_text.proofs.Ascii.{graphic_ascii, texts_ascii}
use Rattle.list_text.proofs.Trees.{object_is}
use Rattle.list_oev.specs.Entries.{early, call_members, late, members, entry, entries, entry_tokens, entry_lines}
use Rattle.list_oev.specs.Listed.{IsTold}

-- ---- one edit more

entry_at : (t u : ℕ) (edit : EditView) → t ≡ u → json_tokens (entry t edit) ≡ json_tokens (entry u edit)
entry_at t u edit h = ap (λ (n : ℕ). json_tokens (entry n edit)) h

flat_push : (txid : ℕ) (edits : List EditView) (edit : EditView)
    → flat_map json_tokens (entries txid (edits ++ edit ∷ [])) ≡ flat_map json_tokens (entries txid edits) ++ json_tokens (entry (txid + length edits) edit)
flat_push txid [] edit = append-nil (json_tokens (entry txid edit)) ∙ entry_at txid (txid + 0) edit (omega arith)
flat_push txid (x ∷ edits) edit =
    ap (λ (z : List Token). json_tokens (entry txid x) ++ z)
    (flat_push (txid + 1) edits edit ∙ ap (λ (z : List Token). flat_map json_tokens (entries (txid + 1) edits) ++ z)
    (entry_at (txid + 1 + length edits) (txid + suc (length edits)) edit (omega arith)))
    ∙ sym (append_assoc (json_tokens (entry txid x)) (flat_map json_tokens (entries (txid + 1) edits)) (json_tokens (entry (txid + suc (length edits)) edit)))

pub tokens_push : (txid : ℕ) (edits : List EditView) (edit : EditView) → entry_tokens txid (edits ++ edit ∷ []) ≡ entry_tokens txid edits ++ json_tokens (entry (txid + length edits) edit)
tokens_push txid edits edit = ap (λ (z : List Token). Token.begin_array ∷ z) (flat_push txid edits edit)

-- ---- an object in three parts

parts : (old a b c d e : List Token) (x y z : List (List ℕ × Json)) → a ≡ old ++ Token.begin_object ∷ [] → b ≡ a ++ flat_map member_tokens x → c ≡ b ++ flat_map member_tokens y
    → d ≡ c ++ flat_map member_tokens z → e ≡ d ++ Token.end_object ∷ [] → e ≡ old ++ json_tokens (object_of (x ++ (y ++ z)))
parts old a b c d e x y z pa pb pc pd pe =
    let all : e ≡ ((((old ++ Token.begin_object ∷ []) ++ flat_map member_tokens x) ++ flat_map member_tokens y) ++ flat_map member_tokens z) ++ Token.end_object ∷ [] = cc in
    let line : ((((old ++ Token.begin_object ∷ []) ++ flat_map member_tokens x) ++ flat_map member_tokens y) ++ flat_map member_tokens z) ++ Token.end_object ∷ []
    ≡ old ++ Token.begin_object ∷ (flat_map member_tokens x ++ (flat_map member_tokens y ++ (flat_map member_tokens z ++ Token.end_object ∷ []))) = simp append_assoc in
    let inner : flat_map member_tokens (x ++ (y ++ z)) ++ Token.end_object ∷ [] ≡ flat_map member_tokens x ++ (flat_map member_tokens y ++ (flat_map member_tokens z ++ Token.end_object ∷ [])) =
    ap (λ (t : List Token). t ++ Token.end_object ∷ []) (flat_map-append member_tokens x (y ++ z) ∙ ap (λ (t : List Token). flat_map member_tokens x ++ t) (flat_map-append member_tokens y z))
    ∙ simp append_assoc in
    all ∙ (line ∙ (ap (λ (t : List Token). old ++ Token.begin_object ∷ t) (sym inner) ∙ ap (λ (t : List Token). old ++ t) (sym (object_is (x ++ (y ++ z))))))

pub entry_added : {E : Type 0} (r : Result (Unit {0}) E) (old a b c d e : Written) (txid : ℕ) (edit : EditView) → (a.tokens ≡ old.tokens ++ Token.begin_object ∷ []) × (a.before ≡ old.before)
    → (b.tokens ≡ a.tokens ++ flat_map member_tokens (early edit.op)) × (b.before ≡ a.before) → (c.tokens ≡ b.tokens ++ flat_map member_tokens (call_members edit.call)) × (c.before ≡ b.before)
    → (d.tokens ≡ c.tokens ++ flat_map member_tokens (late txid edit.op)) × (d.before ≡ c.before) → Adds r d e (Token.end_object ∷ []) → Adds r old e (json_tokens (entry txid edit))
entry_added (Ok u) old a b c d e txid edit pa pb pc pd pe = (
  parts old.tokens a.tokens b.tokens c.tokens d.tokens e.tokens (early edit.op) (call_members edit.call) (late txid edit.op) pa.0 pb.0 pc.0 pd.0 pe.0,
  pe.1 ∙ (pd.1 ∙ (pc.1 ∙ (pb.1 ∙ pa.1))),
)
entry_added (Err u) old a b c d e txid edit pa pb pc pd pe = tt

-- ---- texts are ASCII

pub client_ascii : (client : List ℕ) → IsAscii (encode_lower client)
client_ascii client = IsAscii-encode_with lower_digits client (graphic_ascii lower_digits refl)

numbers_ascii : (ns : List ℕ) → AreAsciiTexts (items_of (map number_of ns))
numbers_ascii [] = tt
numbers_ascii (n ∷ ns) = (tt, numbers_ascii ns)

paths_ascii : (ss : List (List ℕ)) → AllByRecursion IsGood (map (Text_ path) ss) → AllByRecursion IsAscii ss
paths_ascii [] h = tt
paths_ascii (s ∷ ss) h = (graphic_ascii s h.0.1, paths_ascii ss h.1)

late_ascii : (txid : ℕ) (op : Op) → AllByRecursion IsGood (fields_of op) → AllByRecursion IsAsciiMember (late txid op)
late_ascii txid (Add p r m a b s u g) h = (
  graphic_ascii g h.1.1.1.1.1.1.1.0.1,
  (tt, (graphic_ascii (codes "OP_ADD") refl, (graphic_ascii p h.0.1, (tt, (tt, (tt, (graphic_ascii u h.1.1.1.1.1.1.0.1, tt))))))),
)
late_ascii txid (RenameOld s d t) h = (graphic_ascii d h.1.0.1, (graphic_ascii (codes "OP_RENAME_OLD") refl, (graphic_ascii s h.0.1, (tt, (tt, tt)))))
late_ascii txid (Delete p t) h = (graphic_ascii (codes "OP_DELETE") refl, (graphic_ascii p h.0.1, (tt, (tt, tt))))
late_ascii txid (Mkdir p t s u g) h = (graphic_ascii g h.1.1.1.1.0.1, (graphic_ascii (codes "OP_MKDIR") refl, (graphic_ascii p h.0.1, (tt, (tt, (tt, (graphic_ascii u h.1.1.1.0.1, tt)))))))
late_ascii txid (SetReplication p r) h = (graphic_ascii (codes "OP_SET_REPLICATION") refl, (graphic_ascii p h.0.1, (tt, (tt, tt))))
late_ascii txid (SetPermissions p s) h = (graphic_ascii (codes "OP_SET_PERMISSIONS") refl, (graphic_ascii p h.0.1, (tt, (tt, tt))))
late_ascii txid (SetOwner p u g) h = (graphic_ascii g h.1.1.0.1, (graphic_ascii (codes "OP_SET_OWNER") refl, (graphic_ascii p h.0.1, (tt, (graphic_ascii u h.1.0.1, tt)))))
late_ascii txid (Close p m a ls) h = (numbers_ascii ls, (tt, (graphic_ascii (codes "OP_CLOSE") refl, (graphic_ascii p h.0.1, (tt, tt)))))
late_ascii txid (Times p m a) h = (tt, (graphic_ascii (codes "OP_TIMES") refl, (graphic_ascii p h.0.1, (tt, tt))))
late_ascii txid (SetQuota p n s) h = (tt, (tt, (graphic_ascii (codes "OP_SET_QUOTA") refl, (graphic_ascii p h.0.1, (tt, tt)))))
late_ascii txid (Rename s d t o) h = (graphic_ascii d h.1.0.1, (graphic_ascii (codes "OP_RENAME") refl, (tt, (graphic_ascii s h.0.1, (tt, (tt, tt))))))
late_ascii txid (ConcatDelete p t ss) h = (graphic_ascii (codes "OP_CONCAT_DELETE") refl, (texts_ascii ss (paths_ascii ss h.1.1.1), (graphic_ascii p h.0.1, (tt, (tt, tt)))))
late_ascii txid EndLogSegment h = (graphic_ascii (codes "OP_END_LOG_SEGMENT") refl, (tt, tt))
late_ascii txid StartLogSegment h = (graphic_ascii (codes "OP_START_LOG_SEGMENT") refl, (tt, tt))

-- of an edit that has a record
pub edit_ascii : (txid : ℕ) (edit : EditView) → IsEdit edit → AllByRecursion IsAsciiMember (late txid edit.op)
edit_ascii txid edit h = late_ascii txid edit.op (op_is_good edit h)

-- ---- the late members of an edit, by an operation that equals its own

pub late_said : (txid : ℕ) {o op : Op} → o ≡ op → flat_map member_tokens (late txid o) ≡ flat_map member_tokens (late txid op)
late_said txid e = ap (λ (o : Op). flat_map member_tokens (late txid o)) e

pub late_kept : (txid : ℕ) {o op : Op} → o ≡ op → AllByRecursion IsAsciiMember (late txid op) → AllByRecursion IsAsciiMember (late txid o)
late_kept txid e h = subst (λ (o : Op). AllByRecursion IsAsciiMember (late txid o)) (sym e) h

-- ---- the whole

-- what is told of all edits is the line, where the line is what its tokens are
pub told_entries : (bytes : List ℕ) (tokens : List Token) (text : List ℕ) → IsTold entry_tokens bytes tokens
    → ((items : List Json) → tokens ≡ Token.begin_array ∷ flat_map json_tokens items → text ≡ json_line (array_of items)) → IsTold entry_lines bytes text
told_entries bytes tokens text h line = record { start = h.start; edits = h.edits; segment = h.segment; spelled = line (entries h.start h.edits) h.spelled }
