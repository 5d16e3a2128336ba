use Rattle.std.proofs.Common.{refl, sym, ◌∙◌}
use Rattle.edit_ops.proofs.Parts.{add_as, rename_old_as, delete_as, mkdir_as, replication_as, permissions_as, owner_as, times_as, quota_as, rename_as}
use Rattle.edit_codec.proofs.Writes.{good_as, written_as}
use Rattle.edit_codec.proofs.writing.put_op.Goals as goal

pub put_fields-requires : goal.put_fields-requires
put_fields-requires c = good_as (add_as c.as_slice.ensures refl refl c.as_slice-in-Add.ensures c.as_slice-in-Add-2.ensures ∙ sym c.in-Add.is) c.requires

pub returns-in-Add-clause-ok : goal.returns-in-Add-clause-ok
returns-in-Add-clause-ok c = written_as c.put_fields.result c.args.out.now.items c.put_fields.new.out.items c.args.form
    (add_as c.as_slice.ensures refl refl c.as_slice-in-Add.ensures c.as_slice-in-Add-2.ensures ∙ sym c.in-Add.is) c.put_fields.ensures.ok

pub put_fields-requires-in-RenameOld : goal.put_fields-requires-in-RenameOld
put_fields-requires-in-RenameOld c = good_as (rename_old_as c.as_slice-in-RenameOld.ensures c.as_slice-in-RenameOld-2.ensures ∙ sym c.in-RenameOld.is) c.requires

pub returns-in-RenameOld-clause-ok : goal.returns-in-RenameOld-clause-ok
returns-in-RenameOld-clause-ok c = written_as c.put_fields-in-RenameOld.result c.args.out.now.items c.put_fields-in-RenameOld.new.out.items
    c.args.form (rename_old_as c.as_slice-in-RenameOld.ensures c.as_slice-in-RenameOld-2.ensures ∙ sym c.in-RenameOld.is)
    c.put_fields-in-RenameOld.ensures.ok

pub put_fields-requires-in-Delete : goal.put_fields-requires-in-Delete
put_fields-requires-in-Delete c = good_as (delete_as c.as_slice-in-Delete.ensures ∙ sym c.in-Delete.is) c.requires

pub returns-in-Delete-clause-ok : goal.returns-in-Delete-clause-ok
returns-in-Delete-clause-ok c = written_as c.put_fields-in-Delete.result c.args.out.now.items c.put_fields-in-Delete.new.out.items c.args.form
    (delete_as c.as_slice-in-Delete.ensures ∙ sym c.in-Delete.is) c.put_fields-in-Delete.ensures.ok

pub put_fields-requires-in-Mkdir : goal.put_fields-requires-in-Mkdir
put_fields-requires-in-Mkdir c = good_as (mkdir_as c.as_slice-in-Mkdir.ensures refl c.as_slice-in-Mkdir-2.ensures c.as_slice-in-Mkdir-3.ensures ∙ sym c.in-Mkdir.is) c.requires

pub returns-in-Mkdir-clause-ok : goal.returns-in-Mkdir-clause-ok
returns-in-Mkdir-clause-ok c = written_as c.put_fields-in-Mkdir.result c.args.out.now.items c.put_fields-in-Mkdir.new.out.items c.args.form
    (mkdir_as c.as_slice-in-Mkdir.ensures refl c.as_slice-in-Mkdir-2.ensures c.as_slice-in-Mkdir-3.ensures ∙ sym c.in-Mkdir.is)
    c.put_fields-in-Mkdir.ensures.ok

pub put_fields-requires-in-SetReplication : goal.put_fields-requires-in-SetReplication
put_fields-requires-in-SetReplication c = good_as (replication_as c.as_slice-in-SetReplication.ensures refl ∙ sym c.in-SetReplication.is) c.requires

pub returns-in-SetReplication-clause-ok : goal.returns-in-SetReplication-clause-ok
returns-in-SetReplication-clause-ok c = written_as c.put_fields-in-SetReplication.result c.args.out.now.items
    c.put_fields-in-SetReplication.new.out.items c.args.form (replication_as c.as_slice-in-SetReplication.ensures refl ∙ sym c.in-SetReplication.is)
    c.put_fields-in-SetReplication.ensures.ok

pub put_fields-requires-in-SetPermissions : goal.put_fields-requires-in-SetPermissions
put_fields-requires-in-SetPermissions c = good_as (permissions_as c.as_slice-in-SetPermissions.ensures refl ∙ sym c.in-SetPermissions.is) c.requires

pub returns-in-SetPermissions-clause-ok : goal.returns-in-SetPermissions-clause-ok
returns-in-SetPermissions-clause-ok c = written_as c.put_fields-in-SetPermissions.result c.args.out.now.items
    c.put_fields-in-SetPermissions.new.out.items c.args.form (permissions_as c.as_slice-in-SetPermissions.ensures refl ∙ sym c.in-SetPermissions.is)
    c.put_fields-in-SetPermissions.ensures.ok

pub put_fields-requires-in-SetOwner : goal.put_fields-requires-in-SetOwner
put_fields-requires-in-SetOwner c = good_as (owner_as c.as_slice-in-SetOwner.ensures c.as_slice-in-SetOwner-2.ensures c.as_slice-in-SetOwner-3.ensures ∙ sym c.in-SetOwner.is) c.requires

pub returns-in-SetOwner-clause-ok : goal.returns-in-SetOwner-clause-ok
returns-in-SetOwner-clause-ok c = written_as c.put_fields-in-SetOwner.result c.args.out.now.items c.put_fields-in-SetOwner.new.out.items c.args.form
    (owner_as c.as_slice-in-SetOwner.ensures c.as_slice-in-SetOwner-2.ensures c.as_slice-in-SetOwner-3.ensures ∙ sym c.in-SetOwner.is)
    c.put_fields-in-SetOwner.ensures.ok

pub put_fields-requires-in-Times : goal.put_fields-requires-in-Times
put_fields-requires-in-Times c = good_as (times_as c.as_slice-in-Times.ensures ∙ sym c.in-Times.is) c.requires

pub returns-in-Times-clause-ok : goal.returns-in-Times-clause-ok
returns-in-Times-clause-ok c = written_as c.put_fields-in-Times.result c.args.out.now.items c.put_fields-in-Times.new.out.items c.args.form
    (times_as c.as_slice-in-Times.ensures ∙ sym c.in-Times.is) c.put_fields-in-Times.ensures.ok

pub put_fields-requires-in-SetQuota : goal.put_fields-requires-in-SetQuota
put_fields-requires-in-SetQuota c = good_as (quota_as c.as_slice-in-SetQuota.ensures ∙ sym c.in-SetQuota.is) c.requires

pub returns-in-SetQuota-clause-ok : goal.returns-in-SetQuota-clause-ok
returns-in-SetQuota-clause-ok c = written_as c.put_fields-in-SetQuota.result c.args.out.now.items c.put_fields-in-SetQuota.new.out.items c.args.form
    (quota_as c.as_slice-in-SetQuota.ensures ∙ sym c.in-SetQuota.is) c.put_fields-in-SetQuota.ensures.ok

pub put_fields-requires-in-Rename : goal.put_fields-requires-in-Rename
put_fields-requires-in-Rename c = good_as (rename_as c.as_slice-in-Rename.ensures c.as_slice-in-Rename-2.ensures ∙ sym c.in-Rename.is) c.requires

pub returns-in-Rename-clause-ok : goal.returns-in-Rename-clause-ok
returns-in-Rename-clause-ok c = written_as c.put_fields-in-Rename.result c.args.out.now.items c.put_fields-in-Rename.new.out.items c.args.form
    (rename_as c.as_slice-in-Rename.ensures c.as_slice-in-Rename-2.ensures ∙ sym c.in-Rename.is) c.put_fields-in-Rename.ensures.ok

pub put_close-requires : goal.put_close-requires
put_close-requires c = good_as (sym c.in-Close.is) c.requires

pub returns-in-Close-clause-ok : goal.returns-in-Close-clause-ok
returns-in-Close-clause-ok c = written_as c.put_close.result c.args.out.now.items c.put_close.new.out.items c.args.form (sym c.in-Close.is) c.put_close.ensures.ok

pub put_concat-requires : goal.put_concat-requires
put_concat-requires c = good_as (sym c.in-ConcatDelete.is) c.requires

pub returns-in-ConcatDelete-clause-ok : goal.returns-in-ConcatDelete-clause-ok
returns-in-ConcatDelete-clause-ok c = written_as c.put_concat.result c.args.out.now.items c.put_concat.new.out.items c.args.form (sym c.in-ConcatDelete.is) c.put_concat.ensures.ok
