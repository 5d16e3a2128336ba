-- The fields of an edit match the layout of its kind, and tell the edit.
use Rattle.std.proofs.Common.{◌≡◌, ℕ, ◌<◌, List, [], ◌∷◌, ◌++◌, length, map, Bool, true, false, Option, Some, None, refl, sym, ap, subst, ◌∙◌, arith}
use Rattle.std.specs.Prelude.{replicate, is_some, ◌==◌, if◌then◌else◌}
use Rattle.std.specs.List.{AllByRecursion}
use Rattle.edit_ops.specs.declared.kind.OpKind.{OpKind}
use Rattle.edit_ops.specs.declared.kind.OpKind.TheVariants as kinds
use Rattle.edit_ops.specs.declared.op.Op.{Op}
use Rattle.edit_ops.specs.declared.op.Op.TheVariants.{Add, RenameOld, Delete, Mkdir, SetReplication, SetPermissions, SetOwner, Close, Times, SetQuota}
use Rattle.edit_ops.specs.declared.op.Op.TheVariants.{Rename, ConcatDelete, EndLogSegment, StartLogSegment}
use Rattle.edit_ops.specs.declared.call.Call.{Call}
use Rattle.edit_ops.specs.Kinds.{code}
use Rattle.edit_ops.specs.Fields.{Kind, Field, path, text, number, Text_, Number_, kind_of_field, IsGood, follow}
use Rattle.edit_ops.specs.Records.{EditView, kind_of, fields_of, layout, full_layout, call_fields, opcode, called, edit_fields}
use Rattle.edit_ops.specs.Grammar.{IsEdit}
use Rattle.edit_ops.specs.Rules.{Matches}
use Rattle.edit_ops.specs.FromFields.{text_in, number_in, op_from, edit_from}

-- ---- fields match their layout

plain_match : (fields : List Field) → AllByRecursion (λ f. follow f ≡ []) fields → AllByRecursion IsGood fields → Matches (map kind_of_field fields) fields []
plain_match [] plain good = refl
plain_match (f ∷ fs) plain good = (refl, good.0, subst (λ (more : List Kind). Matches (more ++ map kind_of_field fs) fs []) (sym plain.0) (plain_match fs plain.1 good.1))

numbers_match : (ns : List ℕ) → AllByRecursion IsGood (map Number_ ns) → Matches (replicate (length ns) number ++ []) (map Number_ ns) []
numbers_match [] good = refl
numbers_match (n ∷ ns) good = (refl, good.0, numbers_match ns good.1)

paths_match : (ps : List (List ℕ)) → AllByRecursion IsGood (map (Text_ path) ps) → Matches (replicate (length ps) (text path) ++ []) (map (Text_ path) ps) []
paths_match [] good = refl
paths_match (p ∷ ps) good = (refl, good.0, paths_match ps good.1)

pub op_matches : (op : Op) → AllByRecursion IsGood (fields_of op) → Matches (layout (kind_of op)) (fields_of op) []
op_matches (Add p r m a b s u g) good = plain_match (fields_of (Add p r m a b s u g)) (refl, (refl, (refl, (refl, (refl, (refl, (refl, (refl, tt)))))))) good
op_matches (RenameOld s d t) good = plain_match (fields_of (RenameOld s d t)) (refl, (refl, (refl, tt))) good
op_matches (Delete p t) good = plain_match (fields_of (Delete p t)) (refl, (refl, tt)) good
op_matches (Mkdir p t s u g) good = plain_match (fields_of (Mkdir p t s u g)) (refl, (refl, (refl, (refl, (refl, tt))))) good
op_matches (SetReplication p r) good = plain_match (fields_of (SetReplication p r)) (refl, (refl, tt)) good
op_matches (SetPermissions p s) good = plain_match (fields_of (SetPermissions p s)) (refl, (refl, tt)) good
op_matches (SetOwner p u g) good = plain_match (fields_of (SetOwner p u g)) (refl, (refl, (refl, tt))) good
op_matches (Close p m a ls) good = (refl, good.0, (refl, good.1.0, (refl, good.1.1.0, (refl, good.1.1.1.0, numbers_match ls good.1.1.1.1))))
op_matches (Times p m a) good = plain_match (fields_of (Times p m a)) (refl, (refl, (refl, tt))) good
op_matches (SetQuota p n s) good = plain_match (fields_of (SetQuota p n s)) (refl, (refl, (refl, tt))) good
op_matches (Rename s d t o) good = plain_match (fields_of (Rename s d t o)) (refl, (refl, (refl, (refl, tt)))) good
op_matches (ConcatDelete p t ss) good = (refl, good.0, (refl, good.1.0, (refl, good.1.1.0, paths_match ss good.1.1.1)))
op_matches EndLogSegment good = refl
op_matches StartLogSegment good = refl

matches_by : (call : Option Call) (op : Op) → AllByRecursion IsGood (call_fields call ++ fields_of op) → Matches (full_layout (kind_of op) (is_some call)) (call_fields call ++ fields_of op) []
matches_by None op good = op_matches op good
matches_by (Some call) op good = (refl, good.0, (refl, good.1.0, op_matches op good.1.1))

pub edit_matches : (e : EditView) → IsEdit e → Matches (full_layout (kind_of e.op) (called e)) (edit_fields e) []
edit_matches e is = matches_by e.call e.op is.fields

-- ---- the fields tell the edit

numbers_again : (ns : List ℕ) → map number_in (map Number_ ns) ≡ ns
numbers_again [] = refl
numbers_again (n ∷ ns) = ap (λ (ms : List ℕ). n ∷ ms) (numbers_again ns)

paths_again : (ps : List (List ℕ)) → map text_in (map (Text_ path) ps) ≡ ps
paths_again [] = refl
paths_again (p ∷ ps) = ap (λ (qs : List (List ℕ)). p ∷ qs) (paths_again ps)

op_again : (op : Op) → op_from (kind_of op) (fields_of op) ≡ op
unfolding op_from
op_again (Add p r m a b s u g) = refl
op_again (RenameOld s d t) = refl
op_again (Delete p t) = refl
op_again (Mkdir p t s u g) = refl
op_again (SetReplication p r) = refl
op_again (SetPermissions p s) = refl
op_again (SetOwner p u g) = refl
op_again (Close p m a ls) = ap (Close p m a) (numbers_again ls)
op_again (Times p m a) = refl
op_again (SetQuota p n s) = refl
op_again (Rename s d t o) = refl
op_again (ConcatDelete p t ss) = ap (ConcatDelete p t) (paths_again ss)
op_again EndLogSegment = refl
op_again StartLogSegment = refl

pub same_op : (a b : Op) → kind_of a ≡ kind_of b → fields_of a ≡ fields_of b → a ≡ b
same_op a b kinds_same fields_same = sym (op_again a) ∙ (λ i. op_from (kinds_same i) (fields_same i)) ∙ op_again b

pub again_by : (call : Option Call) (op : Op) → edit_from (kind_of op) (is_some call) (call_fields call ++ fields_of op) ≡ record { op = op; call = call }
unfolding edit_from
again_by None op = ap (λ (o : Op). record { op = o; call = None }) (op_again op)
again_by (Some call) op = ap (λ (o : Op). record { op = o; call = Some call }) (op_again op)

edit_again : (e : EditView) → edit_from (kind_of e.op) (called e) (edit_fields e) ≡ e
edit_again e = again_by e.call e.op

pub same_edit : (a b : EditView) → kind_of a.op ≡ kind_of b.op → called a ≡ called b → edit_fields a ≡ edit_fields b → a ≡ b
same_edit a b kinds_same called_same fields_same = sym (edit_again a) ∙ (λ i. edit_from (kinds_same i) (called_same i) (fields_same i)) ∙ edit_again b

-- ---- an opcode tells the kind, and whether there is a call

kind_from : ℕ → OpKind
kind_from k = if k == 0 then kinds.Add else (if k == 1 then kinds.RenameOld
    else (if k == 2 then kinds.Delete else (if k == 3 then kinds.Mkdir
    else (if k == 4 then kinds.SetReplication else (if k == 7 then kinds.SetPermissions
    else (if k == 8 then kinds.SetOwner else (if k == 9 then kinds.Close
    else (if k == 13 then kinds.Times else (if k == 14 then kinds.SetQuota
    else (if k == 15 then kinds.Rename else (if k == 16 then kinds.ConcatDelete
    else (if k == 23 then kinds.EndLogSegment else (kinds.StartLogSegment)))))))))))))

kind_again : (kind : OpKind) → kind_from (code kind) ≡ kind
unfolding kind_from
kind_again kinds.Add = refl
kind_again kinds.RenameOld = refl
kind_again kinds.Delete = refl
kind_again kinds.Mkdir = refl
kind_again kinds.SetReplication = refl
kind_again kinds.SetPermissions = refl
kind_again kinds.SetOwner = refl
kind_again kinds.Close = refl
kind_again kinds.Times = refl
kind_again kinds.SetQuota = refl
kind_again kinds.Rename = refl
kind_again kinds.ConcatDelete = refl
kind_again kinds.EndLogSegment = refl
kind_again kinds.StartLogSegment = refl

code_small : (kind : OpKind) → code kind < 64
code_small kinds.Add = omega arith
code_small kinds.RenameOld = omega arith
code_small kinds.Delete = omega arith
code_small kinds.Mkdir = omega arith
code_small kinds.SetReplication = omega arith
code_small kinds.SetPermissions = omega arith
code_small kinds.SetOwner = omega arith
code_small kinds.Close = omega arith
code_small kinds.Times = omega arith
code_small kinds.SetQuota = omega arith
code_small kinds.Rename = omega arith
code_small kinds.ConcatDelete = omega arith
code_small kinds.EndLogSegment = omega arith
code_small kinds.StartLogSegment = omega arith

same_code : (k l : OpKind) → code k ≡ code l → k ≡ l
same_code k l e = sym (kind_again k) ∙ ap kind_from e ∙ kind_again l

pub same_opcode : (k l : OpKind) (c d : Bool) → opcode k c ≡ opcode l d → (k ≡ l) × (c ≡ d)
same_opcode k l false false e = (same_code k l e, refl)
same_opcode k l true true e = (same_code k l (omega (arith, e)), refl)
same_opcode k l false true e = absurd (omega (arith, e, code_small k))
same_opcode k l true false e = absurd (omega (arith, e, code_small l))

-- ---- the fields of what an edit does are good

good_after : (call : Option Call) (fields : List Field) → AllByRecursion IsGood (call_fields call ++ fields) → AllByRecursion IsGood fields
good_after None fields good = good
good_after (Some call) fields good = good.1.1

pub op_is_good : (e : EditView) → IsEdit e → AllByRecursion IsGood (fields_of e.op)
op_is_good e is = good_after e.call (fields_of e.op) is.fields
