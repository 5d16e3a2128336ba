-- What the texts of edits say after their first words, and what those words tell.
use Rattle.std.proofs.Common.{◌≡◌, ◌≢◌, ℕ, ◌≤◌, false, List, [], ◌∷◌, ◌++◌, length, map, Some, Ok, refl, sym, ap, subst, ◌∙◌, arith}
use Rattle.std.specs.Prelude.{codes, if◌then◌else◌}
use Rattle.std.specs.Str.{bytes_eq}
use Rattle.std.specs.List.{flat_map, AllByRecursion}
use Rattle.std.proofs.lemmas.List.{append-nil, length-map}
use Rattle.edit_ops.specs.declared.kind.OpKind.{OpKind}
use Rattle.edit_ops.specs.declared.kind.OpKind.TheVariants as kinds
use Rattle.edit_ops.specs.declared.op.Op.{Op}
use Rattle.edit_ops.specs.declared.op.Op.TheVariants.{Add, RenameOld, Delete, Mkdir, SetReplication, SetPermissions, SetOwner, Close, Times, SetQuota}
use Rattle.edit_ops.specs.declared.op.Op.TheVariants.{Rename, ConcatDelete, EndLogSegment, StartLogSegment}
use Rattle.edit_ops.specs.Kinds.{is_mark}
use Rattle.edit_ops.specs.Words.{verb}
use Rattle.edit_ops.specs.Records.{kind_of, fields_of, layout}
use Rattle.edit_ops.specs.Fields.{Field, path, numbers, paths, text, small, number, Text_, Small_, Number_, kind_of_field, IsGood}
use Rattle.edit_codec.specs.Spaced.{spaced, CanSay}
use Rattle.edit_codec.specs.Saying.{Boundary, items_said, fields_said}
use Rattle.edit_ops.proofs.SourceLaws.{with_front}
use Rattle.edit_codec.proofs.SayWords.{NoSpace, HasWord}
use Rattle.edit_codec.proofs.SayLaws.{CanSayAll, boundary, runs, items_again, flat-append}

-- ---- the fields of an edit

plain_says : (fields : List Field) → CanSayAll fields → fields_said (map kind_of_field fields ++ []) (flat_map (spaced false) fields) ≡ Ok (fields ++ [], [])
plain_says fields can = ap (fields_said (map kind_of_field fields ++ [])) (sym (append-nil (flat_map (spaced false) fields))) ∙ runs fields [] [] can tt

number_kinds : (ns : List ℕ) → AllByRecursion (λ f. kind_of_field f ≡ number) (map Number_ ns)
number_kinds [] = tt
number_kinds (n ∷ ns) = (refl, number_kinds ns)

number_words : (ns : List ℕ) → AllByRecursion HasWord (map Number_ ns)
number_words [] = tt
number_words (n ∷ ns) = (tt, number_words ns)

path_kinds : (ps : List (List ℕ)) → AllByRecursion (λ f. kind_of_field f ≡ text path) (map (Text_ path) ps)
path_kinds [] = tt
path_kinds (p ∷ ps) = (refl, path_kinds ps)

path_words : (ps : List (List ℕ)) → AllByRecursion HasWord (map (Text_ path) ps)
path_words [] = tt
path_words (p ∷ ps) = (tt, path_words ps)

bound_of : (fields : List Field) → AllByRecursion HasWord fields → Boundary (flat_map (spaced false) fields)
bound_of fields has = subst Boundary (append-nil (flat_map (spaced false) fields)) (boundary fields [] has tt)

pub op_says : (op : Op) → AllByRecursion IsGood (fields_of op) → AllByRecursion CanSay (fields_of op) → is_mark (kind_of op) ≡ false
    → fields_said (layout (kind_of op)) (flat_map (spaced false) (fields_of op)) ≡ Ok (fields_of op, [])
op_says (Add p r m a b s u g) good can mark = plain_says (fields_of (Add p r m a b s u g)) ((tt, (tt, (tt, (tt, (tt, (tt, (tt, (tt, tt)))))))), good, can)
op_says (RenameOld s d t) good can mark = plain_says (fields_of (RenameOld s d t)) ((tt, (tt, (tt, tt))), good, can)
op_says (Delete p t) good can mark = plain_says (fields_of (Delete p t)) ((tt, (tt, tt)), good, can)
op_says (Mkdir p t s u g) good can mark = plain_says (fields_of (Mkdir p t s u g)) ((tt, (tt, (tt, (tt, (tt, tt))))), good, can)
op_says (SetReplication p r) good can mark = plain_says (fields_of (SetReplication p r)) ((tt, (tt, tt)), good, can)
op_says (SetPermissions p s) good can mark = plain_says (fields_of (SetPermissions p s)) ((tt, (tt, tt)), good, can)
op_says (SetOwner p u g) good can mark = plain_says (fields_of (SetOwner p u g)) ((tt, (tt, (tt, tt))), good, can)
op_says (Times p m a) good can mark = plain_says (fields_of (Times p m a)) ((tt, (tt, (tt, tt))), good, can)
op_says (SetQuota p n s) good can mark = plain_says (fields_of (SetQuota p n s)) ((tt, (tt, (tt, tt))), good, can)
op_says (Rename s d t o) good can mark = plain_says (fields_of (Rename s d t o)) ((tt, (tt, (tt, (tt, tt)))), good, can)
op_says (Close p m a ls) good can mark =
    let items : List ℕ = flat_map (spaced false) (map Number_ ls) in
    let front : List Field = Text_ path p ∷ Number_ m ∷ Number_ a ∷ [] in
    let few : length (map Number_ ls) ≤ 65535 = omega (arith, length-map ls Number_, good.1.1.1.0) in
    let read : items_said 65535 number (flat_map (spaced false) (map Number_ ls)) ≡ Some (map Number_ ls) =
    items_again 65535 number (map Number_ ls) (number_kinds ls) (number_words ls, good.1.1.1.1, can.1.1.1.1) few in
    let same : length (map Number_ ls) ≡ length ls = length-map ls Number_ in
    let grouped : fields_said (small numbers ∷ []) (flat_map (spaced false) (map Number_ ls)) ≡ Ok (Small_ numbers (length ls) ∷ map Number_ ls, []) =
    rw (read, same, append-nil (map Number_ ls)) refl in
    let parts : flat_map (spaced false) (fields_of (Close p m a ls)) ≡ flat_map (spaced false) (Text_ path p ∷ Number_ m ∷ Number_ a ∷ []) ++ flat_map
    (spaced false) (map Number_ ls) = flat-append (Text_ path p ∷ Number_ m ∷ Number_ a ∷ []) (map Number_ ls) in
    ap (fields_said (layout kinds.Close)) parts ∙ runs (Text_ path p ∷ Number_ m ∷ Number_ a ∷ []) (small numbers ∷ [])
    (flat_map (spaced false) (map Number_ ls)) ((tt, (tt, (tt, tt))), (good.0, (good.1.0, (good.1.1.0, tt))), (can.0, (can.1.0, (can.1.1.0, tt))))
    (bound_of (map Number_ ls) (number_words ls))
    ∙ ap (with_front (Text_ path p ∷ Number_ m ∷ Number_ a ∷ [])) grouped
op_says (ConcatDelete p t ss) good can mark =
    let few : length (map (Text_ path) ss) ≤ 65535 = omega (arith, length-map ss (Text_ path), good.1.1.0) in
    let read : items_said 65535 (text path) (flat_map (spaced false) (map (Text_ path) ss)) ≡ Some (map (Text_ path) ss) =
    items_again 65535 (text path) (map (Text_ path) ss) (path_kinds ss) (path_words ss, good.1.1.1, can.1.1.1) few in
    let same : length (map (Text_ path) ss) ≡ length ss = length-map ss (Text_ path) in
    let grouped : fields_said (small paths ∷ []) (flat_map (spaced false) (map (Text_ path) ss)) ≡ Ok
    (Small_ paths (length ss) ∷ map (Text_ path) ss, []) = rw (read, same, append-nil (map (Text_ path) ss)) refl in
    let parts : flat_map (spaced false) (fields_of (ConcatDelete p t ss)) ≡ flat_map (spaced false) (Text_ path p ∷ Number_ t ∷ []) ++ flat_map
    (spaced false) (map (Text_ path) ss) = flat-append (Text_ path p ∷ Number_ t ∷ []) (map (Text_ path) ss) in
    ap (fields_said (layout kinds.ConcatDelete)) parts ∙ runs (Text_ path p ∷ Number_ t ∷ []) (small paths ∷ [])
    (flat_map (spaced false) (map (Text_ path) ss)) ((tt, (tt, tt)), (good.0, (good.1.0, tt)), (can.0, (can.1.0, tt)))
    (bound_of (map (Text_ path) ss) (path_words ss))
    ∙ ap (with_front (Text_ path p ∷ Number_ t ∷ [])) grouped
op_says EndLogSegment good can mark = absurd cc
op_says StartLogSegment good can mark = absurd cc

pub op_bound : (op : Op) → is_mark (kind_of op) ≡ false → Boundary (flat_map (spaced false) (fields_of op))
op_bound (Add p r m a b s u g) mark = refl
op_bound (RenameOld s d t) mark = refl
op_bound (Delete p t) mark = refl
op_bound (Mkdir p t s u g) mark = refl
op_bound (SetReplication p r) mark = refl
op_bound (SetPermissions p s) mark = refl
op_bound (SetOwner p u g) mark = refl
op_bound (Close p m a ls) mark = refl
op_bound (Times p m a) mark = refl
op_bound (SetQuota p n s) mark = refl
op_bound (Rename s d t o) mark = refl
op_bound (ConcatDelete p t ss) mark = refl
op_bound EndLogSegment mark = absurd cc
op_bound StartLogSegment mark = absurd cc

-- ---- the first word

from_verb : List ℕ → OpKind
from_verb w = if bytes_eq w (codes "add") then kinds.Add else (if bytes_eq w (codes "mv") then kinds.RenameOld
    else (if bytes_eq w (codes "delete") then kinds.Delete else (if bytes_eq w (codes "mkdir") then kinds.Mkdir
    else (if bytes_eq w (codes "setrep") then kinds.SetReplication else (if bytes_eq w (codes "chmod") then kinds.SetPermissions
    else (if bytes_eq w (codes "setowner") then kinds.SetOwner else (if bytes_eq w (codes "close") then kinds.Close
    else (if bytes_eq w (codes "times") then kinds.Times else (if bytes_eq w (codes "quota") then kinds.SetQuota
    else (if bytes_eq w (codes "rename") then kinds.Rename else (if bytes_eq w (codes "concat") then kinds.ConcatDelete
    else (if bytes_eq w (codes "end") then kinds.EndLogSegment else (kinds.StartLogSegment)))))))))))))

verb_again : (kind : OpKind) → from_verb (verb kind) ≡ kind
unfolding from_verb verb
verb_again kinds.Add = refl
verb_again kinds.RenameOld = refl
verb_again kinds.Delete = refl
verb_again kinds.Mkdir = refl
verb_again kinds.SetReplication = refl
verb_again kinds.SetPermissions = refl
verb_again kinds.SetOwner = refl
verb_again kinds.Close = refl
verb_again kinds.Times = refl
verb_again kinds.SetQuota = refl
verb_again kinds.Rename = refl
verb_again kinds.ConcatDelete = refl
verb_again kinds.EndLogSegment = refl
verb_again kinds.StartLogSegment = refl

pub same_verb : (k l : OpKind) → verb k ≡ verb l → k ≡ l
same_verb k l e = sym (verb_again k) ∙ ap from_verb e ∙ verb_again l

pub verb_plain : (kind : OpKind) → NoSpace (verb kind)
unfolding verb
verb_plain kinds.Add = (refl, (refl, (refl, tt)))
verb_plain kinds.RenameOld = (refl, (refl, tt))
verb_plain kinds.Delete = (refl, (refl, (refl, (refl, (refl, (refl, tt))))))
verb_plain kinds.Mkdir = (refl, (refl, (refl, (refl, (refl, tt)))))
verb_plain kinds.SetReplication = (refl, (refl, (refl, (refl, (refl, (refl, tt))))))
verb_plain kinds.SetPermissions = (refl, (refl, (refl, (refl, (refl, tt)))))
verb_plain kinds.SetOwner = (refl, (refl, (refl, (refl, (refl, (refl, (refl, (refl, tt))))))))
verb_plain kinds.Close = (refl, (refl, (refl, (refl, (refl, tt)))))
verb_plain kinds.Times = (refl, (refl, (refl, (refl, (refl, tt)))))
verb_plain kinds.SetQuota = (refl, (refl, (refl, (refl, (refl, tt)))))
verb_plain kinds.Rename = (refl, (refl, (refl, (refl, (refl, (refl, tt))))))
verb_plain kinds.ConcatDelete = (refl, (refl, (refl, (refl, (refl, (refl, tt))))))
verb_plain kinds.EndLogSegment = (refl, (refl, (refl, tt)))
verb_plain kinds.StartLogSegment = (refl, (refl, (refl, (refl, (refl, tt)))))

pub no_call_verb : (kind : OpKind) → verb kind ≢ codes "call"
unfolding verb
no_call_verb kinds.Add = λ e. absurd (cc)
no_call_verb kinds.RenameOld = λ e. absurd (cc)
no_call_verb kinds.Delete = λ e. absurd (cc)
no_call_verb kinds.Mkdir = λ e. absurd (cc)
no_call_verb kinds.SetReplication = λ e. absurd (cc)
no_call_verb kinds.SetPermissions = λ e. absurd (cc)
no_call_verb kinds.SetOwner = λ e. absurd (cc)
no_call_verb kinds.Close = λ e. absurd (cc)
no_call_verb kinds.Times = λ e. absurd (cc)
no_call_verb kinds.SetQuota = λ e. absurd (cc)
no_call_verb kinds.Rename = λ e. absurd (cc)
no_call_verb kinds.ConcatDelete = λ e. absurd (cc)
no_call_verb kinds.EndLogSegment = λ e. absurd (cc)
no_call_verb kinds.StartLogSegment = λ e. absurd (cc)
