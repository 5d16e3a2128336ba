-- The kinds of edits, and their codes.
use Rattle.std.specs.Prelude.{ℕ, List, [], ◌∷◌, Bool, true, false}
use Rattle.edit_ops.specs.declared.kind.OpKind.{OpKind}
use Rattle.edit_ops.specs.declared.kind.OpKind.TheVariants.{Add, RenameOld, Delete, Mkdir, SetReplication, SetPermissions, SetOwner, Close, Times}
use Rattle.edit_ops.specs.declared.kind.OpKind.TheVariants.{SetQuota, Rename, ConcatDelete, EndLogSegment, StartLogSegment}

abbrev pub code : OpKind → ℕ
code Add = 0
code RenameOld = 1
code Delete = 2
code Mkdir = 3
code SetReplication = 4
code SetPermissions = 7
code SetOwner = 8
code Close = 9
code Times = 13
code SetQuota = 14
code Rename = 15
code ConcatDelete = 16
code EndLogSegment = 23
code StartLogSegment = 24

-- the kind marks the beginning or the end of a segment
abbrev pub is_mark : OpKind → Bool
is_mark EndLogSegment = true
is_mark StartLogSegment = true
is_mark kind = false

-- the kinds by their codes
abbrev pub kinds : List OpKind
kinds = Add ∷ RenameOld ∷ Delete ∷ Mkdir ∷ SetReplication ∷ SetPermissions ∷ SetOwner ∷ Close ∷ Times ∷ SetQuota ∷ Rename ∷ ConcatDelete ∷ EndLogSegment ∷ StartLogSegment ∷ []
