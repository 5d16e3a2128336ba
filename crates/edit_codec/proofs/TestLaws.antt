-- The test of texts passes the texts of edits, and no others.
use Rattle.std.proofs.Common.{◌≡◌, ℕ, zero, suc, Bool, true, false, cond, List, [], ◌∷◌, ◌++◌, length, map, Option, Some, None, Result, Ok, Err, refl, sym, ap, subst, ◌∙◌, arith}
use Rattle.std.specs.Prelude.{codes, ◌==◌}
use Rattle.std.specs.Str.{bytes_eq}
use Rattle.std.specs.List.{find, flat_map, AllByRecursion}
use Rattle.std.proofs.lemmas.Bool.{eqb-true, false≢true, and_parts}
use Rattle.std.proofs.lemmas.List.{append-nil, nil_from_length}
use Rattle.edit_codec.specs.declared.bad_text.BadText.{BadText}
use Rattle.edit_ops.specs.declared.kind.OpKind.{OpKind}
use Rattle.edit_ops.specs.declared.kind.OpKind.TheVariants as kinds
use Rattle.edit_ops.specs.declared.op.Op.{Op}
use Rattle.edit_ops.specs.declared.op.Op.TheVariants.{Add, RenameOld, Delete, Mkdir, SetReplication, SetPermissions, SetOwner, Close, Times, SetQuota}
use Rattle.edit_ops.specs.declared.op.Op.TheVariants.{Rename, ConcatDelete, EndLogSegment, StartLogSegment}
use Rattle.edit_ops.specs.declared.call.Call.{Call}
use Rattle.edit_ops.specs.Kinds.{is_mark}
use Rattle.edit_ops.specs.Words.{verb}
use Rattle.edit_ops.specs.Fields.{Kind, Field, path, replication, permission, numbers, paths, text, small, number, flag, client, call_number, Text_}
use Rattle.edit_ops.specs.Fields.{Small_, Number_, Flag_, Client_, Call_, kind_of_field, IsGood}
use Rattle.edit_ops.specs.Records.{EditView, kind_of, fields_of, layout, call_fields}
use Rattle.edit_codec.specs.Spaced.{spaced, CanSay}
use Rattle.edit_codec.specs.EditTexts.{IsText}
use Rattle.edit_codec.specs.ReadTexts.{IsLine}
use Rattle.edit_codec.specs.Saying.{◌>>=◌, Boundary, split_word, field_said, items_said, group_said, fields_said}
use Rattle.edit_codec.specs.SaidTexts.{said_kinds, kind_said, says_all, says_fields, is_line_text, is_line_after, is_called_text, is_edit_text}
use Rattle.edit_codec.proofs.SayNumbers.{same_bytes}
use Rattle.edit_codec.proofs.SayWords.{split_again, field_said_takes, split_whole}
use Rattle.edit_ops.proofs.SourceLaws.{ok_is, with_front}
use Rattle.edit_codec.proofs.SayLaws.{Group, group_then, fields_taken, some_group, some_is}
use Rattle.edit_codec.proofs.SayOps.{no_call_verb}
use Rattle.edit_codec.proofs.SayEdits.{line_says, line_word, line_rest, called_text, plain_text, call_plain, call_bound, call_says, called_edit, plain_edit}
use Rattle.std.proofs.lemmas.Slice.Eq.{bytes_eq-Decides}

abbrev Read : Type 0
Read = Result (List Field × List ℕ) BadText

abbrev One : Type 0
One = Option (Field × List ℕ)

-- ## The values of fields that were read
abbrev Value : Kind → Type 0
Value (text t) = List ℕ
Value (small replication) = ℕ
Value (small permission) = ℕ
Value (small numbers) = List ℕ
Value (small paths) = List (List ℕ)
Value number = ℕ
Value flag = Bool
Value client = List ℕ
Value call_number = ℕ

-- a field, or a count with what it counts
abbrev group_of : (kind : Kind) → Value kind → List Field
group_of (text t) v = Text_ t v ∷ []
group_of (small replication) v = Small_ replication v ∷ []
group_of (small permission) v = Small_ permission v ∷ []
group_of (small numbers) v = Small_ numbers (length v) ∷ map Number_ v
group_of (small paths) v = Small_ paths (length v) ∷ map (Text_ path) v
group_of number v = Number_ v ∷ []
group_of flag v = Flag_ v ∷ []
group_of client v = Client_ v ∷ []
group_of call_number v = Call_ v ∷ []

abbrev IsGroup : Kind → List Field → Type 0
IsGroup kind group = (v : Value kind) × (group ≡ group_of kind v)

abbrev Values : List Kind → Type 0
Values [] = Unit {0}
Values (k ∷ ks) = Value k × Values ks

abbrev fields_from : (kinds : List Kind) → Values kinds → List Field
fields_from [] vs = []
fields_from (k ∷ ks) vs = group_of k vs.0 ++ fields_from ks vs.1

abbrev AreGroups : List Kind → List Field → Type 0
AreGroups kinds fields = (vs : Values kinds) × (fields ≡ fields_from kinds vs)

-- a field of its kind
abbrev IsSingle : Kind → Field → Type 0
IsSingle (text t) f = (bytes : List ℕ) × (f ≡ Text_ t bytes)
IsSingle (small s) f = (n : ℕ) × (f ≡ Small_ s n)
IsSingle number f = (n : ℕ) × (f ≡ Number_ n)
IsSingle flag f = (b : Bool) × (f ≡ Flag_ b)
IsSingle client f = (bytes : List ℕ) × (f ≡ Client_ bytes)
IsSingle call_number f = (n : ℕ) × (f ≡ Call_ n)

single_own : (f : Field) → IsSingle (kind_of_field f) f
single_own (Text_ t bytes) = (bytes, refl)
single_own (Small_ s n) = (n, refl)
single_own (Number_ n) = (n, refl)
single_own (Flag_ b) = (b, refl)
single_own (Client_ bytes) = (bytes, refl)
single_own (Call_ n) = (n, refl)

single_is : (kind : Kind) (f : Field) → kind_of_field f ≡ kind → IsSingle kind f
single_is kind f e = subst (λ (k : Kind). IsSingle k f) e (single_own f)

abbrev one : One → Group
one o = o >>= λ f. some_group (f.0 ∷ [], f.1)

single_read : (kind : Kind) (words : List ℕ) (x : List Field × List ℕ) → one (field_said kind words) ≡ Some x → (f : Field) × IsSingle kind f × (x.0 ≡ f ∷ [])
single_read kind words x e = by (field_said kind words) refl e
  where
    by : (o : One) → field_said kind words ≡ o → one o ≡ Some x → (f : Field) × IsSingle kind f × (x.0 ≡ f ∷ [])
    by None is e = absurd cc
    by (Some f) is e =
        let same = some_is (f.0 ∷ [], f.1) x e in
        (f.0, single_is kind f.0 (field_said_takes kind words f.0 f.1 is).kind_is, sym (ap (λ (y : List Field × List ℕ). y.0) same))

abbrev some_fields : List Field → Option (List Field)
some_fields fields = Some fields

items_step : (kind : Kind) (words : List ℕ) (most : ℕ) (fields : List Field)
    → ((more : List ℕ) (items : List Field) → items_said most kind more ≡ Some items → AllByRecursion (λ f. kind_of_field f ≡ kind) items)
    → (o : One) → field_said kind words ≡ o → (o >>= λ item. items_said most kind item.1 >>= λ items. some_fields (item.0 ∷ items)) ≡ Some fields → AllByRecursion (λ f. kind_of_field f ≡ kind) fields
items_step kind words most fields rec None is e = absurd cc
items_step kind words most fields rec (Some f) is e = by (items_said most kind f.1) refl e
  where
    by : (o : Option (List Field)) → items_said most kind f.1 ≡ o → (o >>= λ items. some_fields (f.0 ∷ items)) ≡ Some fields → AllByRecursion (λ g. kind_of_field g ≡ kind) fields
    by None items_are e = absurd cc
    by (Some items) items_are e =
        let same : f.0 ∷ items ≡ fields = cc in
        subst (AllByRecursion (λ g. kind_of_field g ≡ kind)) same ((field_said_takes kind words f.0 f.1 is).kind_is, rec f.1 items items_are)

items_kinds : (most : ℕ) (kind : Kind) (words : List ℕ) (fields : List Field) → items_said most kind words ≡ Some fields → AllByRecursion (λ f. kind_of_field f ≡ kind) fields
unfolding items_said
items_kinds zero kind [] fields e = let same : [] ≡ fields = cc in subst (AllByRecursion (λ f. kind_of_field f ≡ kind)) same tt
items_kinds (suc most) kind [] fields e = let same : [] ≡ fields = cc in subst (AllByRecursion (λ f. kind_of_field f ≡ kind)) same tt
items_kinds zero kind (b ∷ words) fields e = absurd cc
items_kinds (suc most) kind (b ∷ words) fields e = items_step kind (b ∷ words) most fields (λ more items is. items_kinds most kind more items is) (field_said kind (b ∷ words)) refl e

are_numbers : (fields : List Field) → AllByRecursion (λ f. kind_of_field f ≡ number) fields → (ns : List ℕ) × (fields ≡ map Number_ ns) × (length fields ≡ length ns)
are_numbers [] h = ([], refl, refl)
are_numbers (f ∷ fs) h =
    let first = single_is number f h.0 in
    let rest = are_numbers fs h.1 in
    (first.0 ∷ rest.0, (λ i. first.1 i ∷ rest.1 i), omega (arith, rest.2))

are_paths : (fields : List Field) → AllByRecursion (λ f. kind_of_field f ≡ text path) fields → (ps : List (List ℕ)) × (fields ≡ map (Text_ path) ps) × (length fields ≡ length ps)
are_paths [] h = ([], refl, refl)
are_paths (f ∷ fs) h =
    let first = single_is (text path) f h.0 in
    let rest = are_paths fs h.1 in
    (first.0 ∷ rest.0, (λ i. first.1 i ∷ rest.1 i), omega (arith, rest.2))

listed_read : (count : ℕ → Field) (kind : Kind) (words : List ℕ) (x : List Field × List ℕ) → (items_said 65535 kind words >>= λ items. some_group (count (length items) ∷ items, [])) ≡ Some x
    → (items : List Field) × AllByRecursion (λ f. kind_of_field f ≡ kind) items × (x.0 ≡ count (length items) ∷ items)
listed_read count kind words x e = by (items_said 65535 kind words) refl e
  where
    by : (o : Option (List Field)) → items_said 65535 kind words ≡ o → (o >>= λ items. some_group (count (length items) ∷ items, [])) ≡ Some x
        → (items : List Field) × AllByRecursion (λ f. kind_of_field f ≡ kind) items × (x.0 ≡ count (length items) ∷ items)
    by None is e = absurd cc
    by (Some items) is e =
        let same = some_is (count (length items) ∷ items, []) x e in
        (items, items_kinds 65535 kind words items is, sym (ap (λ (y : List Field × List ℕ). y.0) same))

group_read : (kind : Kind) (words : List ℕ) (x : List Field × List ℕ) → group_said kind words ≡ Some x → IsGroup kind x.0
group_read (text t) words x e = let r = single_read (text t) words x e in (r.1.0, r.2 ∙ ap (λ (f : Field). f ∷ []) r.1.1)
group_read (small replication) words x e = let r = single_read (small replication) words x e in (r.1.0, r.2 ∙ ap (λ (f : Field). f ∷ []) r.1.1)
group_read (small permission) words x e = let r = single_read (small permission) words x e in (r.1.0, r.2 ∙ ap (λ (f : Field). f ∷ []) r.1.1)
group_read (small numbers) words x e =
    let r = listed_read (Small_ numbers) number words x e in
    let ns = are_numbers r.0 r.1 in
    (ns.0, r.2 ∙ (λ i. Small_ numbers (ns.2 i) ∷ ns.1 i))
group_read (small paths) words x e =
    let r = listed_read (Small_ paths) (text path) words x e in
    let ps = are_paths r.0 r.1 in
    (ps.0, r.2 ∙ (λ i. Small_ paths (ps.2 i) ∷ ps.1 i))
group_read number words x e = let r = single_read number words x e in (r.1.0, r.2 ∙ ap (λ (f : Field). f ∷ []) r.1.1)
group_read flag words x e = let r = single_read flag words x e in (r.1.0, r.2 ∙ ap (λ (f : Field). f ∷ []) r.1.1)
group_read client words x e = let r = single_read client words x e in (r.1.0, r.2 ∙ ap (λ (f : Field). f ∷ []) r.1.1)
group_read call_number words x e = let r = single_read call_number words x e in (r.1.0, r.2 ∙ ap (λ (f : Field). f ∷ []) r.1.1)

groups_read : (kinds : List Kind) (words : List ℕ) (x : List Field × List ℕ) → fields_said kinds words ≡ Ok x → AreGroups kinds x.0
groups_read [] words x e = (tt, sym (ap (λ (y : List Field × List ℕ). y.0) (ok_is ([], words) x e)))
groups_read (k ∷ ks) words x e = by (λ more y is. groups_read ks more y is) (group_said k words) refl e
  where
    by : ((more : List ℕ) (y : List Field × List ℕ) → fields_said ks more ≡ Ok y → AreGroups ks y.0) → (g : Group) → group_said k words ≡ g
        → group_then g (fields_said ks) ≡ Ok x → AreGroups (k ∷ ks) x.0
    by rec None is e = absurd cc
    by rec (Some a) is e = last (fields_said ks a.1) refl e
      where
        last : (r : Read) → fields_said ks a.1 ≡ r → with_front a.0 r ≡ Ok x → AreGroups (k ∷ ks) x.0
        last (Err f) others e = absurd cc
        last (Ok b) others e =
            let first = group_read k words a is in
            let rest = rec a.1 b others in
            let front : a.0 ++ b.0 ≡ x.0 = ap (λ (y : List Field × List ℕ). y.0) (ok_is (a.0 ++ b.0, b.1) x e) in
            ((first.0, rest.0), sym front ∙ (λ i. first.1 i ++ rest.1 i))

-- ## The edit that has these fields
abbrev Made : OpKind → List Field → Type 0
Made kind fields = (op : Op) × (kind_of op ≡ kind) × (fields_of op ≡ fields)

made_from : (kind : OpKind) (vs : Values (layout kind)) → Made kind (fields_from (layout kind) vs)
made_from kinds.Add vs = (Add vs.0 vs.1.0 vs.1.1.0 vs.1.1.1.0 vs.1.1.1.1.0 vs.1.1.1.1.1.0 vs.1.1.1.1.1.1.0 vs.1.1.1.1.1.1.1.0, refl, refl)
made_from kinds.RenameOld vs = (RenameOld vs.0 vs.1.0 vs.1.1.0, refl, refl)
made_from kinds.Delete vs = (Delete vs.0 vs.1.0, refl, refl)
made_from kinds.Mkdir vs = (Mkdir vs.0 vs.1.0 vs.1.1.0 vs.1.1.1.0 vs.1.1.1.1.0, refl, refl)
made_from kinds.SetReplication vs = (SetReplication vs.0 vs.1.0, refl, refl)
made_from kinds.SetPermissions vs = (SetPermissions vs.0 vs.1.0, refl, refl)
made_from kinds.SetOwner vs = (SetOwner vs.0 vs.1.0 vs.1.1.0, refl, refl)
made_from kinds.Close vs = (
  Close vs.0 vs.1.0 vs.1.1.0 vs.1.1.1.0,
  refl,
  ap (λ (fs : List Field).
      Text_ path vs.0 ∷ Number_ vs.1.0 ∷ Number_ vs.1.1.0 ∷ Small_ numbers (length vs.1.1.1.0) ∷ fs) (sym (append-nil (map Number_ vs.1.1.1.0))),
)
made_from kinds.Times vs = (Times vs.0 vs.1.0 vs.1.1.0, refl, refl)
made_from kinds.SetQuota vs = (SetQuota vs.0 vs.1.0 vs.1.1.0, refl, refl)
made_from kinds.Rename vs = (Rename vs.0 vs.1.0 vs.1.1.0 vs.1.1.1.0, refl, refl)
made_from kinds.ConcatDelete vs =
    (ConcatDelete vs.0 vs.1.0 vs.1.1.0, refl, ap (λ (fs : List Field). Text_ path vs.0 ∷ Number_ vs.1.0 ∷ Small_ paths (length vs.1.1.0) ∷ fs) (sym (append-nil (map (Text_ path) vs.1.1.0))))
made_from kinds.EndLogSegment vs = (EndLogSegment, refl, refl)
made_from kinds.StartLogSegment vs = (StartLogSegment, refl, refl)

made : (kind : OpKind) (words : List ℕ) (x : List Field × List ℕ) → fields_said (layout kind) words ≡ Ok x → Made kind x.0
made kind words x e =
    let groups = groups_read (layout kind) words x e in
    let m = made_from kind groups.0 in
    (m.0, m.1, m.2 ∙ sym groups.1)

-- ## First words
abbrev IsFirstWord : List ℕ → OpKind → Type 0
IsFirstWord word kind = (bytes_eq word (verb kind) ≡ true) × (is_mark kind ≡ false)

unmarked : AllByRecursion (λ (kind : OpKind). is_mark kind ≡ false) said_kinds
unmarked = (refl, (refl, (refl, (refl, (refl, (refl, (refl, (refl, (refl, (refl, (refl, (refl, tt))))))))))))

find_by : (word : List ℕ) (x : OpKind) (xs : List OpKind) (kind : OpKind) (b : Bool) → bytes_eq word (verb x) ≡ b → is_mark x ≡ false
    → (find (λ k. bytes_eq word (verb k)) xs ≡ Some kind → IsFirstWord word kind)
    → cond b (Some x) (find (λ k. bytes_eq word (verb k)) xs) ≡ Some kind → IsFirstWord word kind
find_by word x xs kind true h m rest e = let same : x ≡ kind = cc in subst (IsFirstWord word) same (h, m)
find_by word x xs kind false h m rest e = rest e

found : (word : List ℕ) (ks : List OpKind) (kind : OpKind) → AllByRecursion (λ (k : OpKind). is_mark k ≡ false) ks → find (λ k. bytes_eq word (verb k)) ks ≡ Some kind → IsFirstWord word kind
found word [] kind m e = absurd cc
found word (x ∷ xs) kind m e = find_by word x xs kind (bytes_eq word (verb x)) refl m.0 (found word xs kind m.1) e

kind_told : (word : List ℕ) (kind : OpKind) → kind_said word ≡ Some kind → (verb kind ≡ word) × (is_mark kind ≡ false)
unfolding kind_said
kind_told word kind e = let f = found word said_kinds kind unmarked e in (sym (same_bytes word (verb kind) f.0), f.1)

kind_again : (kind : OpKind) → is_mark kind ≡ false → kind_said (verb kind) ≡ Some kind
unfolding kind_said verb
kind_again kinds.Add m = refl
kind_again kinds.RenameOld m = refl
kind_again kinds.Delete m = refl
kind_again kinds.Mkdir m = refl
kind_again kinds.SetReplication m = refl
kind_again kinds.SetPermissions m = refl
kind_again kinds.SetOwner m = refl
kind_again kinds.Close m = refl
kind_again kinds.Times m = refl
kind_again kinds.SetQuota m = refl
kind_again kinds.Rename m = refl
kind_again kinds.ConcatDelete m = refl
kind_again kinds.EndLogSegment m = absurd cc
kind_again kinds.StartLogSegment m = absurd cc

-- ## Lines
abbrev flat : List Field → List ℕ
flat fields = flat_map (spaced false) fields

line_passes : (words : List ℕ) (op : Op) → IsLine words op → is_line_text words ≡ true
unfolding is_line_text
line_passes words op line =
    (λ i. says_fields (kind_said (line_word words op line i)) (line_rest words op line i)) ∙ ap (λ (o : Option OpKind). says_fields o (flat (fields_of op))) (kind_again (kind_of op) line.no_mark)
    ∙ ap says_all (line_says words op line)

line_from : (words : List ℕ) → is_line_text words ≡ true → (op : Op) × IsLine words op
unfolding is_line_text
line_from words e = by (kind_said (split_word words).0) refl e
  where
    by : (o : Option OpKind) → kind_said (split_word words).0 ≡ o → says_fields o (split_word words).1 ≡ true → (op : Op) × IsLine words op
    by None told e = absurd (false≢true e)
    by (Some kind) told e = last (fields_said (layout kind) (split_word words).1) refl e
      where
        last : (r : Read) → fields_said (layout kind) (split_word words).1 ≡ r → says_all r ≡ true → (op : Op) × IsLine words op
        last (Err f) read e = absurd (false≢true e)
        last (Ok x) read e =
            let k = kind_told (split_word words).0 kind told in
            let m = made kind (split_word words).1 x read in
            let t = fields_taken (layout kind) (split_word words).1 x read in
            let nothing : x.1 ≡ [] = nil_from_length x.1 (eqb-true _ _ e) in
            let rest : (split_word words).1 ≡ flat x.0 = t.parts ∙ ap (λ (w : List ℕ). flat x.0 ++ w) nothing ∙ append-nil (flat x.0) in (
              m.0,
              record {
                good = subst (AllByRecursion IsGood) (sym m.2) t.good;
                said = subst (AllByRecursion CanSay) (sym m.2) t.can;
                no_mark = ap is_mark m.1 ∙ k.1;
                spelled = sym (split_whole words) ∙ (λ i. (sym k.0 ∙ ap verb (sym m.1)) i ++ (rest ∙ ap flat (sym m.2)) i);
              },
            )

-- ## Whole texts
first_word_of : (words : List ℕ) → Boundary words → (split_word (codes "call" ++ words)).0 ≡ codes "call"
first_word_of words bound = ap (λ (p : List ℕ × List ℕ). p.0) (split_again (codes "call") words call_plain bound)

rest_of : (words : List ℕ) → Boundary words → (split_word (codes "call" ++ words)).1 ≡ words
rest_of words bound = ap (λ (p : List ℕ × List ℕ). p.1) (split_again (codes "call") words call_plain bound)

no_call_word : (words : List ℕ) (op : Op) → IsLine words op → (b : Bool) → bytes_eq (split_word words).0 (codes "call") ≡ b → b ≡ false
no_call_word words op line true e = absurd (no_call_verb (kind_of op) (sym (line_word words op line) ∙ same_bytes (split_word words).0 (codes "call") e))
no_call_word words op line false e = refl

passes_by : (bytes : List ℕ) (c : Option Call) (op : Op) → IsText bytes (record { op = op; call = c }) → is_edit_text bytes ≡ true
unfolding is_edit_text
passes_by bytes None op is =
    let line = plain_text bytes op is in
    let other : bytes_eq (split_word bytes).0 (codes "call") ≡ false = no_call_word bytes op line (bytes_eq (split_word bytes).0 (codes "call")) refl in
    ap (λ (b : Bool). cond b (is_called_text (fields_said (client ∷ call_number ∷ []) (split_word bytes).1)) (is_line_text bytes)) other ∙ line_passes bytes op line
passes_by bytes (Some call) op is =
    let t = called_text bytes call op is in
    let words : List ℕ = flat (call_fields (Some call)) ++ 32 ∷ t.line in
    let bound = call_bound call t.line in
    let first : bytes_eq (split_word bytes).0 (codes "call") ≡ true =
    (bytes_eq-Decides _ _).1 (ap (λ (w : List ℕ). (split_word w).0) t.parts ∙ first_word_of (flat (call_fields (Some call)) ++ 32 ∷ t.line) bound)
    in
    ap (λ (b : Bool). cond b (is_called_text (fields_said (client ∷ call_number ∷ []) (split_word bytes).1)) (is_line_text bytes)) first
    ∙ ap (λ (w : List ℕ). is_called_text (fields_said (client ∷ call_number ∷ []) (split_word w).1)) t.parts
    ∙ ap (λ (w : List ℕ). is_called_text (fields_said (client ∷ call_number ∷ []) w)) (rest_of (flat (call_fields (Some call)) ++ 32 ∷ t.line) bound)
    ∙ ap is_called_text (call_says call t.line t.good) ∙ line_passes t.line op t.is_line

pub passes : (bytes : List ℕ) (e : EditView) → IsText bytes e → is_edit_text bytes ≡ true
passes bytes e is = passes_by bytes e.call e.op is

-- a space, and a line after it
abbrev Behind : List ℕ → Type 0
Behind words = (line : List ℕ) × (words ≡ 32 ∷ line) × (is_line_text line ≡ true)

after_from : (words : List ℕ) → is_line_after words ≡ true → Behind words
after_from [] e = absurd (false≢true e)
after_from (b ∷ words) e = let p = and_parts (b == 32) (is_line_text words) e in (words, ap (λ (c : ℕ). c ∷ words) (eqb-true _ _ p.0), p.1)

pub edit_from : (bytes : List ℕ) → is_edit_text bytes ≡ true → (e : EditView) × IsText bytes e
unfolding is_edit_text
edit_from bytes e = by (bytes_eq (split_word bytes).0 (codes "call")) refl e
  where
    by : (b : Bool) → bytes_eq (split_word bytes).0 (codes "call") ≡ b
        → cond b (is_called_text (fields_said (client ∷ call_number ∷ []) (split_word bytes).1)) (is_line_text bytes) ≡ true
        → (d : EditView) × IsText bytes d
    by false first e = let line = line_from bytes e in (record { op = line.0; call = None }, plain_edit bytes line.0 line.1)
    by true first e = last (fields_said (client ∷ call_number ∷ []) (split_word bytes).1) refl e
      where
        last : (r : Read) → fields_said (client ∷ call_number ∷ []) (split_word bytes).1 ≡ r → is_called_text r ≡ true → (d : EditView) × IsText bytes d
        last (Err f) read e = absurd (false≢true e)
        last (Ok x) read e =
            let line = after_from x.1 e in
            let op = line_from line.0 line.2 in
            let groups = groups_read (client ∷ call_number ∷ []) (split_word bytes).1 x read in
            let call : Call = record { client = groups.0.0; number = groups.0.1.0 } in
            let whole : bytes ≡ codes "call" ++ (split_word bytes).1 = sym (split_whole bytes) ∙ ap (λ (w : List ℕ). w ++ (split_word bytes).1) (same_bytes _ _ first) in
            let spelled : fields_said (client ∷ call_number ∷ []) (split_word bytes).1 ≡ Ok (call_fields (Some call), 32 ∷ line.0) = read ∙ (λ i. Ok (groups.1 i, line.1 i)) in
            (record { op = op.0; call = Some call }, called_edit bytes (split_word bytes).1 line.0 call op.0 whole spelled op.1)
