-- The record of an edit decodes to that edit, and nothing else decodes.
use Rattle.std.proofs.Common.{◌≡◌, ℕ, zero, suc, ◌+◌, ◌-◌, ◌≤◌, List, [], ◌∷◌, ◌++◌, map, length, drop, Option, Some, None, Result, Ok, Err}
use Rattle.std.proofs.Common.{Bool, true, false, cond, refl, sym, ap, ◌∙◌, subst, arith, ◌==◌, ◌≢◌, ◌⊎◌, inl, inr, nat_lt}
use Rattle.std.specs.Prelude.{replicate}
use Rattle.std.specs.List.{flat_map, AllByRecursion}
use Rattle.std.proofs.lemmas.Bool.Decides.{nat_tests}
use Rattle.std.proofs.lemmas.List.{append-nil}
use Rattle.base_words.specs.Fields.{IsBytes}
use Rattle.edit_ops.specs.declared.kind.OpKind.{OpKind}
use Rattle.edit_ops.specs.declared.kind.OpKind.TheVariants as kinds
use Rattle.edit_ops.specs.declared.op.Op.TheVariants.{EndLogSegment, StartLogSegment}
use Rattle.edit_ops.specs.declared.field_fault.FieldFault.{FieldFault}
use Rattle.edit_ops.specs.Kinds.{code, is_mark}
use Rattle.edit_ops.specs.Fields.{Kind, Field, Small, path, owner, new_owner, replication, permission, numbers, paths, text, small, number, flag}
use Rattle.edit_ops.specs.Fields.{client, call_number, Text_, Small_, Number_, Flag_, Client_, Call_, kind_of_field, IsGood, follow, field_bytes}
use Rattle.edit_ops.specs.Records.{EditView, kind_of, fields_of, opcode, called, edit_fields, layout, full_layout, record_of}
use Rattle.edit_ops.specs.Reading.{fields_at}
use Rattle.edit_codec.specs.declared.decoded.Decoded.{Decoded}
use Rattle.edit_codec.specs.declared.decoded.Decoded.TheVariants.{Edit, OutOfMemory}
use Rattle.edit_ops.specs.Rules.{Matches}
use Rattle.edit_codec.specs.Decoding.{IsDecoded}
use Rattle.edit_ops.specs.Grammar.{MayCall, IsEdit, IsRecord}
use Rattle.edit_ops.proofs.WalkLaws.{fields_good, fields_all_good, runs}
use Rattle.edit_codec.proofs.DecodeLaws.{right_edit}
use Rattle.edit_ops.proofs.EditLaws.{edit_matches, again_by}
use Rattle.ns_edits.specs.Decoded.{text_in, number_in, flag_in, at, op_from, edit_from, Opcode, known, edit_kind, opcode_of, read_whole, decoded_as, decoded}
use Rattle.ns_edits.specs.Keeps.{OnlyRecordsDecode, AreBytes}
use Rattle.ns_edits.proofs.Splits.{some_is, none≢some}

-- the opcode tells the kind
opcode_again : (kind : OpKind) (c : Bool) → MayCall kind c → opcode_of (opcode kind c) ≡ known c kind
unfolding opcode_of
opcode_again kinds.Add false m = refl
opcode_again kinds.Add true m = refl
opcode_again kinds.RenameOld false m = refl
opcode_again kinds.RenameOld true m = refl
opcode_again kinds.Delete false m = refl
opcode_again kinds.Delete true m = refl
opcode_again kinds.Mkdir false m = refl
opcode_again kinds.Mkdir true m = refl
opcode_again kinds.SetReplication false m = refl
opcode_again kinds.SetReplication true m = refl
opcode_again kinds.SetPermissions false m = refl
opcode_again kinds.SetPermissions true m = refl
opcode_again kinds.SetOwner false m = refl
opcode_again kinds.SetOwner true m = refl
opcode_again kinds.Close false m = refl
opcode_again kinds.Close true m = refl
opcode_again kinds.Times false m = refl
opcode_again kinds.Times true m = refl
opcode_again kinds.SetQuota false m = refl
opcode_again kinds.SetQuota true m = refl
opcode_again kinds.Rename false m = refl
opcode_again kinds.Rename true m = refl
opcode_again kinds.ConcatDelete false m = refl
opcode_again kinds.ConcatDelete true m = refl
opcode_again kinds.EndLogSegment false m = refl
opcode_again kinds.EndLogSegment true m = absurd (cc m)
opcode_again kinds.StartLogSegment false m = refl
opcode_again kinds.StartLogSegment true m = absurd (cc m)

read_again : (kind : OpKind) (c : Bool) (fields : List Field) (bytes : List ℕ) → fields_at (full_layout kind c) bytes ≡ Ok (fields, [])
    → read_whole kind c (fields_at (full_layout kind c) bytes) ≡ Some (edit_from kind c fields)
read_again kind c fields bytes e = ap (read_whole kind c) e

pub record_decodes : (e : EditView) → IsEdit e → decoded (record_of e) ≡ Some e
unfolding decoded
record_decodes e is =
    ap (λ (o : Option Opcode). decoded_as o (flat_map field_bytes (edit_fields e))) (opcode_again (kind_of e.op) (called e) is.call)
    ∙ read_again (kind_of e.op) (called e) (edit_fields e) (flat_map field_bytes (edit_fields e)) fields
    ∙ ap (λ (x : EditView). Some x) (again_by e.call e.op)
  where
    fields : fields_at (full_layout (kind_of e.op) (called e)) (flat_map field_bytes (edit_fields e)) ≡ Ok (edit_fields e, [])
    fields =
        ap (fields_at (full_layout (kind_of e.op) (called e))) (sym (append-nil (flat_map field_bytes (edit_fields e))))
        ∙ runs (full_layout (kind_of e.op) (called e)) (edit_fields e) [] [] (edit_matches e is)
        ∙ ap (λ (l : List Field). Ok (l, [])) (append-nil (edit_fields e))

-- ## Only records decode
-- a field of this kind with what the field holds
abbrev canon : Kind → Field → Field
canon (text t) f = Text_ t (text_in f)
canon (small s) f = Small_ s (number_in f)
canon number f = Number_ (number_in f)
canon flag f = Flag_ (flag_in f)
canon client f = Client_ (text_in f)
canon call_number f = Call_ (number_in f)

canon_self : (f : Field) → canon (kind_of_field f) f ≡ f
canon_self (Text_ t bytes) = refl
canon_self (Small_ s n) = refl
canon_self (Number_ n) = refl
canon_self (Flag_ b) = refl
canon_self (Client_ bytes) = refl
canon_self (Call_ n) = refl

-- a kind of field that no others follow
abbrev is_plain : Kind → Bool
is_plain (text t) = true
is_plain (small replication) = true
is_plain (small permission) = true
is_plain (small numbers) = false
is_plain (small paths) = false
is_plain number = true
is_plain flag = true
is_plain client = true
is_plain call_number = true

follow_plain : (f : Field) → is_plain (kind_of_field f) ≡ true → follow f ≡ []
follow_plain (Text_ t bytes) e = refl
follow_plain (Small_ replication n) e = refl
follow_plain (Small_ permission n) e = refl
follow_plain (Small_ numbers n) e = absurd (cc e)
follow_plain (Small_ paths n) e = absurd (cc e)
follow_plain (Number_ n) e = refl
follow_plain (Flag_ b) e = refl
follow_plain (Client_ bytes) e = refl
follow_plain (Call_ n) e = refl

-- the first of fields of these kinds, and the others
record Head (kind : Kind) (kinds : List Kind) (fields : List Field) : Type 0 where
  first : Field
  others : List Field
  is : fields ≡ first ∷ others
  same : canon kind first ≡ first
  rest : Matches kinds others []

head_of : (kind : Kind) (kinds : List Kind) (fields : List Field) → is_plain kind ≡ true → Matches (kind ∷ kinds) fields [] → Head kind kinds fields
head_of kind kinds [] p m = absurd (cc m)
head_of kind kinds (f ∷ fs) p m = record {
  first = f;
  others = fs;
  is = refl;
  same = subst (λ (k : Kind). canon k f ≡ f) m.0 (canon_self f);
  rest = subst (λ (ks : List Kind). Matches (ks ++ kinds) fs []) (follow_plain f (ap is_plain m.0 ∙ p)) m.2;
}

-- a count, and what it counts
record Counted (s : Small) (items : ℕ → List Kind) (fields : List Field) : Type 0 where
  count : ℕ
  others : List Field
  is : fields ≡ Small_ s count ∷ others
  rest : Matches (items count ++ []) others []

count_of : (s : Small) (items : ℕ → List Kind) (fields : List Field) → ((n : ℕ) → follow (Small_ s n) ≡ items n) → Matches (small s ∷ []) fields [] → Counted s items fields
count_of s items [] f m = absurd (cc m)
count_of s items (Small_ z n ∷ fs) f m =
    let same : z ≡ s = (let e : small z ≡ small s = m.0 in cc) in
    record {
      count = n;
      others = fs;
      is = ap (λ (y : Small). Small_ y n ∷ fs) same;
      rest = subst (λ (ks : List Kind). Matches (ks ++ []) fs []) (ap (λ (y : Small). follow (Small_ y n)) same ∙ f n) m.2;
    }
count_of s items (Text_ t b ∷ fs) f m = absurd (let e : text t ≡ small s = m.0 in cc e)
count_of s items (Number_ n ∷ fs) f m = absurd (let e : number ≡ small s = m.0 in cc e)
count_of s items (Flag_ b ∷ fs) f m = absurd (let e : flag ≡ small s = m.0 in cc e)
count_of s items (Client_ b ∷ fs) f m = absurd (let e : client ≡ small s = m.0 in cc e)
count_of s items (Call_ n ∷ fs) f m = absurd (let e : call_number ≡ small s = m.0 in cc e)

ended : (fields : List Field) → Matches [] fields [] → fields ≡ []
ended [] m = refl
ended (f ∷ fs) m = absurd m

numbers_kept : (n : ℕ) (fields : List Field) → Matches (replicate n number ++ []) fields [] → (map Number_ (map number_in fields) ≡ fields) × (length (map number_in fields) ≡ n)
numbers_kept zero fields m = let e = ended fields m in (ap (λ (l : List Field). map Number_ (map number_in l)) e ∙ sym e, ap (λ (l : List Field). length (map number_in l)) e)
numbers_kept (suc n) fields m =
    let h = head_of number (replicate n number ++ []) fields refl m in
    let more = numbers_kept n h.others h.rest in
    (ap (λ (l : List Field). map Number_ (map number_in l)) h.is ∙ (λ i. h.same i ∷ more.0 i) ∙ sym h.is, ap (λ (l : List Field). length (map number_in l)) h.is ∙ ap suc more.1)

paths_kept : (n : ℕ) (fields : List Field) → Matches (replicate n (text path) ++ []) fields [] → (map (Text_ path) (map text_in fields) ≡ fields) × (length (map text_in fields) ≡ n)
paths_kept zero fields m = let e = ended fields m in (ap (λ (l : List Field). map (Text_ path) (map text_in l)) e ∙ sym e, ap (λ (l : List Field). length (map text_in l)) e)
paths_kept (suc n) fields m =
    let h = head_of (text path) (replicate n (text path) ++ []) fields refl m in
    let more = paths_kept n h.others h.rest in
    (ap (λ (l : List Field). map (Text_ path) (map text_in l)) h.is ∙ (λ i. h.same i ∷ more.0 i) ∙ sym h.is, ap (λ (l : List Field). length (map text_in l)) h.is ∙ ap suc more.1)

-- the fields of the edit that fields tell are these
fields_kept : (kind : OpKind) (fields : List Field) → Matches (layout kind) fields [] → fields_of (op_from kind fields) ≡ fields
unfolding op_from
fields_kept kinds.Add fields m =
    let a = head_of (text path) ((small replication) ∷ number ∷ number ∷ number ∷ (small permission) ∷ (text owner) ∷ (text owner) ∷ []) fields refl m in
    let b = head_of (small replication) (number ∷ number ∷ number ∷ (small permission) ∷ (text owner) ∷ (text owner) ∷ []) a.others refl a.rest in
    let c = head_of number (number ∷ number ∷ (small permission) ∷ (text owner) ∷ (text owner) ∷ []) b.others refl b.rest in
    let d = head_of number (number ∷ (small permission) ∷ (text owner) ∷ (text owner) ∷ []) c.others refl c.rest in
    let e = head_of number ((small permission) ∷ (text owner) ∷ (text owner) ∷ []) d.others refl d.rest in
    let f = head_of (small permission) ((text owner) ∷ (text owner) ∷ []) e.others refl e.rest in
    let g = head_of (text owner) ((text owner) ∷ []) f.others refl f.rest in
    let h = head_of (text owner) ([]) g.others refl g.rest in
    let whole : fields ≡ a.first ∷ b.first ∷ c.first ∷ d.first ∷ e.first ∷ f.first ∷ g.first ∷ h.first ∷ [] = a.is
    ∙ ap (λ (l : List Field). a.first ∷ l) (b.is ∙ ap (λ (l : List Field). b.first ∷ l)
    (c.is ∙ ap (λ (l : List Field). c.first ∷ l) (d.is ∙ ap (λ (l : List Field). d.first ∷ l)
    (e.is ∙ ap (λ (l : List Field). e.first ∷ l) (f.is ∙ ap (λ (l : List Field). f.first ∷ l)
    (g.is ∙ ap (λ (l : List Field). g.first ∷ l) (h.is ∙ ap (λ (l : List Field). h.first ∷ l) (ended h.others h.rest)))))))) in
    ap (λ (l : List Field). fields_of (op_from kinds.Add l)) whole ∙ (λ i. a.same i ∷ b.same i ∷ c.same i ∷ d.same i ∷ e.same i ∷ f.same i ∷ g.same i ∷ h.same i ∷ []) ∙ sym whole
fields_kept kinds.RenameOld fields m =
    let a = head_of (text path) ((text path) ∷ number ∷ []) fields refl m in
    let b = head_of (text path) (number ∷ []) a.others refl a.rest in
    let c = head_of number ([]) b.others refl b.rest in
    let whole : fields ≡ a.first ∷ b.first ∷ c.first ∷ [] = a.is ∙ ap (λ (l : List Field). a.first ∷ l)
    (b.is ∙ ap (λ (l : List Field). b.first ∷ l) (c.is ∙ ap (λ (l : List Field). c.first ∷ l) (ended c.others c.rest))) in
    ap (λ (l : List Field). fields_of (op_from kinds.RenameOld l)) whole ∙ (λ i. a.same i ∷ b.same i ∷ c.same i ∷ []) ∙ sym whole
fields_kept kinds.Delete fields m =
    let a = head_of (text path) (number ∷ []) fields refl m in
    let b = head_of number ([]) a.others refl a.rest in
    let whole : fields ≡ a.first ∷ b.first ∷ [] = a.is ∙ ap (λ (l : List Field). a.first ∷ l) (b.is ∙ ap (λ (l : List Field). b.first ∷ l) (ended b.others b.rest)) in
    ap (λ (l : List Field). fields_of (op_from kinds.Delete l)) whole ∙ (λ i. a.same i ∷ b.same i ∷ []) ∙ sym whole
fields_kept kinds.Mkdir fields m =
    let a = head_of (text path) (number ∷ (small permission) ∷ (text owner) ∷ (text owner) ∷ []) fields refl m in
    let b = head_of number ((small permission) ∷ (text owner) ∷ (text owner) ∷ []) a.others refl a.rest in
    let c = head_of (small permission) ((text owner) ∷ (text owner) ∷ []) b.others refl b.rest in
    let d = head_of (text owner) ((text owner) ∷ []) c.others refl c.rest in
    let e = head_of (text owner) ([]) d.others refl d.rest in
    let whole : fields ≡ a.first ∷ b.first ∷ c.first ∷ d.first ∷ e.first ∷ [] = a.is
    ∙ ap (λ (l : List Field). a.first ∷ l) (b.is ∙ ap (λ (l : List Field). b.first ∷ l)
    (c.is ∙ ap (λ (l : List Field). c.first ∷ l) (d.is ∙ ap (λ (l : List Field). d.first ∷ l)
    (e.is ∙ ap (λ (l : List Field). e.first ∷ l) (ended e.others e.rest))))) in
    ap (λ (l : List Field). fields_of (op_from kinds.Mkdir l)) whole ∙ (λ i. a.same i ∷ b.same i ∷ c.same i ∷ d.same i ∷ e.same i ∷ []) ∙ sym whole
fields_kept kinds.SetReplication fields m =
    let a = head_of (text path) ((small replication) ∷ []) fields refl m in
    let b = head_of (small replication) ([]) a.others refl a.rest in
    let whole : fields ≡ a.first ∷ b.first ∷ [] = a.is ∙ ap (λ (l : List Field). a.first ∷ l) (b.is ∙ ap (λ (l : List Field). b.first ∷ l) (ended b.others b.rest)) in
    ap (λ (l : List Field). fields_of (op_from kinds.SetReplication l)) whole ∙ (λ i. a.same i ∷ b.same i ∷ []) ∙ sym whole
fields_kept kinds.SetPermissions fields m =
    let a = head_of (text path) ((small permission) ∷ []) fields refl m in
    let b = head_of (small permission) ([]) a.others refl a.rest in
    let whole : fields ≡ a.first ∷ b.first ∷ [] = a.is ∙ ap (λ (l : List Field). a.first ∷ l) (b.is ∙ ap (λ (l : List Field). b.first ∷ l) (ended b.others b.rest)) in
    ap (λ (l : List Field). fields_of (op_from kinds.SetPermissions l)) whole ∙ (λ i. a.same i ∷ b.same i ∷ []) ∙ sym whole
fields_kept kinds.SetOwner fields m =
    let a = head_of (text path) ((text new_owner) ∷ (text new_owner) ∷ []) fields refl m in
    let b = head_of (text new_owner) ((text new_owner) ∷ []) a.others refl a.rest in
    let c = head_of (text new_owner) ([]) b.others refl b.rest in
    let whole : fields ≡ a.first ∷ b.first ∷ c.first ∷ [] = a.is ∙ ap (λ (l : List Field). a.first ∷ l)
    (b.is ∙ ap (λ (l : List Field). b.first ∷ l) (c.is ∙ ap (λ (l : List Field). c.first ∷ l) (ended c.others c.rest))) in
    ap (λ (l : List Field). fields_of (op_from kinds.SetOwner l)) whole ∙ (λ i. a.same i ∷ b.same i ∷ c.same i ∷ []) ∙ sym whole
fields_kept kinds.Times fields m =
    let a = head_of (text path) (number ∷ number ∷ []) fields refl m in
    let b = head_of number (number ∷ []) a.others refl a.rest in
    let c = head_of number ([]) b.others refl b.rest in
    let whole : fields ≡ a.first ∷ b.first ∷ c.first ∷ [] = a.is ∙ ap (λ (l : List Field). a.first ∷ l)
    (b.is ∙ ap (λ (l : List Field). b.first ∷ l) (c.is ∙ ap (λ (l : List Field). c.first ∷ l) (ended c.others c.rest))) in
    ap (λ (l : List Field). fields_of (op_from kinds.Times l)) whole ∙ (λ i. a.same i ∷ b.same i ∷ c.same i ∷ []) ∙ sym whole
fields_kept kinds.SetQuota fields m =
    let a = head_of (text path) (number ∷ number ∷ []) fields refl m in
    let b = head_of number (number ∷ []) a.others refl a.rest in
    let c = head_of number ([]) b.others refl b.rest in
    let whole : fields ≡ a.first ∷ b.first ∷ c.first ∷ [] = a.is ∙ ap (λ (l : List Field). a.first ∷ l)
    (b.is ∙ ap (λ (l : List Field). b.first ∷ l) (c.is ∙ ap (λ (l : List Field). c.first ∷ l) (ended c.others c.rest))) in
    ap (λ (l : List Field). fields_of (op_from kinds.SetQuota l)) whole ∙ (λ i. a.same i ∷ b.same i ∷ c.same i ∷ []) ∙ sym whole
fields_kept kinds.Rename fields m =
    let a = head_of (text path) ((text path) ∷ number ∷ flag ∷ []) fields refl m in
    let b = head_of (text path) (number ∷ flag ∷ []) a.others refl a.rest in
    let c = head_of number (flag ∷ []) b.others refl b.rest in
    let d = head_of flag ([]) c.others refl c.rest in
    let whole : fields ≡ a.first ∷ b.first ∷ c.first ∷ d.first ∷ [] = a.is
    ∙ ap (λ (l : List Field). a.first ∷ l) (b.is ∙ ap (λ (l : List Field). b.first ∷ l)
    (c.is ∙ ap (λ (l : List Field). c.first ∷ l) (d.is ∙ ap (λ (l : List Field). d.first ∷ l) (ended d.others d.rest)))) in
    ap (λ (l : List Field). fields_of (op_from kinds.Rename l)) whole ∙ (λ i. a.same i ∷ b.same i ∷ c.same i ∷ d.same i ∷ []) ∙ sym whole
fields_kept kinds.EndLogSegment fields m = sym (ended fields m)
fields_kept kinds.StartLogSegment fields m = sym (ended fields m)
fields_kept kinds.Close fields m =
    let a = head_of (text path) (number ∷ number ∷ small numbers ∷ []) fields refl m in
    let b = head_of number (number ∷ small numbers ∷ []) a.others refl a.rest in
    let c = head_of number (small numbers ∷ []) b.others refl b.rest in
    let n = count_of numbers (λ n. replicate n number) c.others (λ k. refl) c.rest in
    let all = numbers_kept n.count n.others n.rest in
    let whole : fields ≡ a.first ∷ b.first ∷ c.first ∷ Small_ numbers n.count ∷ n.others = a.is
    ∙ ap (λ (l : List Field). a.first ∷ l) (b.is ∙ ap (λ (l : List Field). b.first ∷ l) (c.is ∙ ap (λ (l : List Field). c.first ∷ l) (n.is))) in
    ap (λ (l : List Field). fields_of (op_from kinds.Close l)) whole ∙ (λ i. a.same i ∷ b.same i ∷ c.same i ∷ Small_ numbers (all.1 i) ∷ all.0 i) ∙ sym whole
fields_kept kinds.ConcatDelete fields m =
    let a = head_of (text path) (number ∷ small paths ∷ []) fields refl m in
    let b = head_of number (small paths ∷ []) a.others refl a.rest in
    let n = count_of paths (λ n. replicate n (text path)) b.others (λ k. refl) b.rest in
    let all = paths_kept n.count n.others n.rest in
    let whole : fields ≡ a.first ∷ b.first ∷ Small_ paths n.count ∷ n.others = a.is ∙ ap (λ (l : List Field). a.first ∷ l) (b.is ∙ ap (λ (l : List Field). b.first ∷ l) (n.is)) in
    ap (λ (l : List Field). fields_of (op_from kinds.ConcatDelete l)) whole ∙ (λ i. a.same i ∷ b.same i ∷ Small_ paths (all.1 i) ∷ all.0 i) ∙ sym whole

kind_kept : (kind : OpKind) (fields : List Field) → kind_of (op_from kind fields) ≡ kind
unfolding op_from
kind_kept kinds.Add fields = refl
kind_kept kinds.RenameOld fields = refl
kind_kept kinds.Delete fields = refl
kind_kept kinds.Mkdir fields = refl
kind_kept kinds.SetReplication fields = refl
kind_kept kinds.SetPermissions fields = refl
kind_kept kinds.SetOwner fields = refl
kind_kept kinds.Close fields = refl
kind_kept kinds.Times fields = refl
kind_kept kinds.SetQuota fields = refl
kind_kept kinds.Rename fields = refl
kind_kept kinds.ConcatDelete fields = refl
kind_kept kinds.EndLogSegment fields = refl
kind_kept kinds.StartLogSegment fields = refl

record Kept (kind : OpKind) (c : Bool) (fields : List Field) : Type 0 where
  kind_is : kind_of (edit_from kind c fields).op ≡ kind
  called_is : called (edit_from kind c fields) ≡ c
  fields_are : edit_fields (edit_from kind c fields) ≡ fields

kept_by : (kind : OpKind) (c : Bool) (fields : List Field) → Matches (full_layout kind c) fields [] → Kept kind c fields
unfolding edit_from
kept_by kind false fields m = record { kind_is = kind_kept kind fields; called_is = refl; fields_are = fields_kept kind fields m }
kept_by kind true fields m =
    let a = head_of client (call_number ∷ layout kind) fields refl m in
    let b = head_of call_number (layout kind) a.others refl a.rest in
    let whole : fields ≡ a.first ∷ b.first ∷ b.others = a.is ∙ ap (λ (l : List Field). a.first ∷ l) b.is in
    record {
      kind_is = kind_kept kind (drop 2 fields);
      called_is = refl;
      fields_are =
          ap (λ (l : List Field). edit_fields (record { op = op_from kind (drop 2 l); call = Some (record { client = text_in (at 0 l); number = number_in (at 1 l) }) })) whole
          ∙ (λ i. a.same i ∷ b.same i ∷ fields_kept kind b.others b.rest i) ∙ sym whole;
    }

-- ## The kind of an opcode
record IsOpcode (byte : ℕ) (o : Opcode) : Type 0 where
  may_call : MayCall o.kind o.called
  code_is : opcode o.kind o.called ≡ byte

record IsKind (c : Bool) (n : ℕ) (o : Opcode) : Type 0 where
  called_is : o.called ≡ c
  code_is : code o.kind ≡ n
  no_mark : is_mark o.kind ≡ false

one_kind : (c : Bool) (n k : ℕ) (kind : OpKind) (rest : Option Opcode) (o : Opcode) → code kind ≡ k → is_mark kind ≡ false
    → (rest ≡ Some o → IsKind c n o) → cond (n == k) (known c kind) rest ≡ Some o → IsKind c n o
one_kind c n k kind rest o code_is no_mark go e = by (n == k) refl e
  where
    by : (z : Bool) → (n == k) ≡ z → cond z (known c kind) rest ≡ Some o → IsKind c n o
    by true is e = subst (IsKind c n) (some_is (record { kind = kind; called = c }) o e)
        (record { called_is = refl; code_is = (let same : n ≡ k = grind (arith, nat_tests, is) in code_is ∙ sym same); no_mark = no_mark })
    by false is e = go e

kind_is : (c : Bool) (n : ℕ) (o : Opcode) → edit_kind c n ≡ Some o → IsKind c n o
kind_is c n o =
    one_kind c n 0 kinds.Add _ o refl refl (one_kind c n 1 kinds.RenameOld _ o refl refl
    (one_kind c n 2 kinds.Delete _ o refl refl (one_kind c n 3 kinds.Mkdir _ o refl refl
    (one_kind c n 4 kinds.SetReplication _ o refl refl (one_kind c n 7 kinds.SetPermissions _ o refl refl
    (one_kind c n 8 kinds.SetOwner _ o refl refl (one_kind c n 9 kinds.Close _ o refl refl
    (one_kind c n 13 kinds.Times _ o refl refl (one_kind c n 14 kinds.SetQuota _ o refl refl
    (one_kind c n 15 kinds.Rename _ o refl refl (one_kind c n 16 kinds.ConcatDelete _ o refl refl (λ e. none≢some o e))))))))))))

opcode_is : (byte : ℕ) (o : Opcode) → opcode_of byte ≡ Some o → IsOpcode byte o
unfolding opcode_of
opcode_is byte o = mark 23 kinds.EndLogSegment _ refl (mark 24 kinds.StartLogSegment _ refl edits)
  where
    mark : (k : ℕ) (kind : OpKind) (rest : Option Opcode) → code kind ≡ k → (rest ≡ Some o → IsOpcode byte o) → cond (byte == k) (known false kind) rest ≡ Some o → IsOpcode byte o
    mark k kind rest code_is go e = by (byte == k) refl e
      where
        by : (z : Bool) → (byte == k) ≡ z → cond z (known false kind) rest ≡ Some o → IsOpcode byte o
        by true is e = subst (IsOpcode byte) (some_is (record { kind = kind; called = false }) o e)
            (record { may_call = tt; code_is = (let same : byte ≡ k = grind (arith, nat_tests, is) in code_is ∙ sym same) })
        by false is e = go e

    plain : (c : Bool) (kind : OpKind) → c ≡ false → code kind ≡ byte → IsOpcode byte (record { kind = kind; called = c })
    plain false kind e code_is = record { may_call = tt; code_is = code_is }
    plain true kind e code_is = absurd (cc e)

    with_call : (c : Bool) (kind : OpKind) → c ≡ true → code kind + 64 ≡ byte → is_mark kind ≡ false → IsOpcode byte (record { kind = kind; called = c })
    with_call true kind e code_is no_mark = record { may_call = no_mark; code_is = code_is }
    with_call false kind e code_is no_mark = absurd (cc e)

    edits : cond (nat_lt byte 64) (edit_kind false byte) (edit_kind true (byte - 64)) ≡ Some o → IsOpcode byte o
    edits e = by (nat_lt byte 64) refl e
      where
        by : (z : Bool) → nat_lt byte 64 ≡ z → cond z (edit_kind false byte) (edit_kind true (byte - 64)) ≡ Some o → IsOpcode byte o
        by true is e = let k = kind_is false byte o e in plain o.called o.kind k.called_is k.code_is
        by false is e = let k = kind_is true (byte - 64) o e in
            let high : 64 ≤ byte = grind (arith, nat_tests, is) in
            with_call o.called o.kind k.called_is (omega (arith, high, k.code_is)) k.no_mark

-- ## Bodies
rest_fits : (byte : ℕ) (bytes : List ℕ) → IsBytes (byte ∷ bytes) → IsBytes bytes
rest_fits byte bytes h = λ i. h (suc i)

decoded_record : (body : List ℕ) (e : EditView) → IsBytes body → decoded body ≡ Some e → IsRecord body e
unfolding decoded
decoded_record [] e h d = none≢some e d
decoded_record (byte ∷ bytes) e h d = by_code (opcode_of byte) refl d
  where
    fits : IsBytes bytes
    fits = rest_fits byte bytes h

    read : (o : Opcode) → IsOpcode byte o → (r : Result (List Field × List ℕ) FieldFault) → fields_at (full_layout o.kind o.called) bytes ≡ r
        → read_whole o.kind o.called r ≡ Some e → IsRecord (byte ∷ bytes) e
    read o c (Err fault) is d = none≢some e d
    read o c (Ok (fields, b ∷ rest)) is d = none≢some e d
    read o c (Ok (fields, [])) is d =
        let ends = fields_good (full_layout o.kind o.called) bytes fields [] fits is in
        let k : Kept o.kind o.called fields = kept_by o.kind o.called fields ends.matches in
        let edit : IsEdit (edit_from o.kind o.called fields) = record {
          fields = subst (AllByRecursion IsGood) (sym k.fields_are) (fields_all_good (full_layout o.kind o.called) bytes fields [] fits is);
          call = subst (λ (x : Bool). MayCall (kind_of (edit_from o.kind o.called fields).op) x) (sym k.called_is) (subst (λ (x : OpKind). MayCall x o.called) (sym k.kind_is) c.may_call);
        } in
        subst (IsRecord (byte ∷ bytes)) (some_is (edit_from o.kind o.called fields) e d)
        (right_edit o.kind o.called (byte ∷ bytes) bytes byte c.may_call c.code_is refl fits (edit_from o.kind o.called fields) [] edit k.kind_is
        k.called_is (is ∙ ap (λ (l : List Field). Ok (l, [])) (sym k.fields_are)) refl)

    by_code : (o : Option Opcode) → opcode_of byte ≡ o → decoded_as o bytes ≡ Some e → IsRecord (byte ∷ bytes) e
    by_code None is d = none≢some e d
    by_code (Some o) is d = read o (opcode_is byte o is) (fields_at (full_layout o.kind o.called) bytes) refl d

bytes_fit : (bytes : List ℕ) → AreBytes bytes → IsBytes bytes
bytes_fit [] h i = omega arith
bytes_fit (b ∷ bs) h zero = h.0
bytes_fit (b ∷ bs) h (suc i) = bytes_fit bs h.1 i

pub only_record_decodes : OnlyRecordsDecode
only_record_decodes body e h d = decoded_record body e (bytes_fit body h) d

-- ## What the decoder answers
pub edit_decodes : (body : List ℕ) (e : EditView) → IsRecord body e → Some e ≡ decoded body
edit_decodes body e r = sym (ap decoded r.spelled ∙ record_decodes e r.edit)

-- any other answer is right only where nothing is decoded
pub fault_decodes : (body : List ℕ) (answer : Decoded) → IsBytes body → ((e : EditView) → answer ≡ Edit e → ⊥) → answer ≢ OutOfMemory
    → ((other : Decoded) → IsDecoded body other → other ≢ OutOfMemory → (answer ≡ OutOfMemory) ⊎ (answer ≡ other)) → None ≡ decoded body
fault_decodes body answer fits no_edit no_memory only = by (decoded body) refl
  where
    told : (e : EditView) → (answer ≡ OutOfMemory) ⊎ (answer ≡ Edit e) → None ≡ decoded body
    told e (inl m) = absurd (no_memory m)
    told e (inr s) = absurd (no_edit e s)

    by : (o : Option EditView) → decoded body ≡ o → None ≡ decoded body
    by None is = sym is
    by (Some e) is = told e (only (Edit e) (decoded_record body e fits is) (λ m. absurd (cc m)))

-- the records that begin and end a segment
pub start_decodes : decoded (24 ∷ []) ≡ Some (record { op = StartLogSegment; call = None })
unfolding decoded opcode_of edit_from op_from
start_decodes = refl

pub end_decodes : decoded (23 ∷ []) ≡ Some (record { op = EndLogSegment; call = None })
unfolding decoded opcode_of edit_from op_from
end_decodes = refl
