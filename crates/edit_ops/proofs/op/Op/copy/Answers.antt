use Rattle.std.proofs.Common.{refl, sym, ◌∙◌}
use Rattle.edit_ops.proofs.Parts.{add_as, rename_old_as, delete_as, mkdir_as, replication_as, permissions_as, owner_as, close_as, times_as, quota_as, rename_as, concat_as}
use Rattle.edit_ops.proofs.op.Op.copy.Goals as goal

pub returns-in_ok-path-in-Add : goal.returns-in_ok-path-in-Add
returns-in_ok-path-in-Add c = add_as c.in_ok-path-in-Add.ensures.0 refl refl c.in_ok-path-in-Add.ensures.1 c.in_ok-path-in-Add.ensures.2 ∙ sym c.in-Add.is

pub returns-in_ok-src-in-RenameOld : goal.returns-in_ok-src-in-RenameOld
returns-in_ok-src-in-RenameOld c = rename_old_as c.in_ok-src-in-RenameOld.ensures.0 c.in_ok-src-in-RenameOld.ensures.1 ∙ sym c.in-RenameOld.is

pub returns-in_ok-path-in-Delete : goal.returns-in_ok-path-in-Delete
returns-in_ok-path-in-Delete c = delete_as c.in_ok-path-in-Delete.ensures ∙ sym c.in-Delete.is

pub returns-in_ok-path-in-Mkdir : goal.returns-in_ok-path-in-Mkdir
returns-in_ok-path-in-Mkdir c = mkdir_as c.in_ok-path-in-Mkdir.ensures.0 refl c.in_ok-path-in-Mkdir.ensures.1 c.in_ok-path-in-Mkdir.ensures.2 ∙ sym c.in-Mkdir.is

pub returns-in_ok-path-in-SetReplication : goal.returns-in_ok-path-in-SetReplication
returns-in_ok-path-in-SetReplication c = replication_as c.in_ok-path-in-SetReplication.ensures refl ∙ sym c.in-SetReplication.is

pub returns-in_ok-path-in-SetPermissions : goal.returns-in_ok-path-in-SetPermissions
returns-in_ok-path-in-SetPermissions c = permissions_as c.in_ok-path-in-SetPermissions.ensures refl ∙ sym c.in-SetPermissions.is

pub returns-in_ok-path-in-SetOwner : goal.returns-in_ok-path-in-SetOwner
returns-in_ok-path-in-SetOwner c = owner_as c.in_ok-path-in-SetOwner.ensures.0 c.in_ok-path-in-SetOwner.ensures.1 c.in_ok-path-in-SetOwner.ensures.2 ∙ sym c.in-SetOwner.is

pub returns-in_ok-path-in-Close : goal.returns-in_ok-path-in-Close
returns-in_ok-path-in-Close c = close_as c.in_ok-path-in-Close.ensures.0 c.in_ok-path-in-Close.ensures.1 ∙ sym c.in-Close.is

pub returns-in_ok-path-in-Times : goal.returns-in_ok-path-in-Times
returns-in_ok-path-in-Times c = times_as c.in_ok-path-in-Times.ensures ∙ sym c.in-Times.is

pub returns-in_ok-path-in-SetQuota : goal.returns-in_ok-path-in-SetQuota
returns-in_ok-path-in-SetQuota c = quota_as c.in_ok-path-in-SetQuota.ensures ∙ sym c.in-SetQuota.is

pub returns-in_ok-src-in-Rename : goal.returns-in_ok-src-in-Rename
returns-in_ok-src-in-Rename c = rename_as c.in_ok-src-in-Rename.ensures.0 c.in_ok-src-in-Rename.ensures.1 ∙ sym c.in-Rename.is

pub returns-in_ok-target-in-ConcatDelete : goal.returns-in_ok-target-in-ConcatDelete
returns-in_ok-target-in-ConcatDelete c = concat_as c.in_ok-target-in-ConcatDelete.ensures.0 c.in_ok-target-in-ConcatDelete.ensures.1 ∙ sym c.in-ConcatDelete.is
