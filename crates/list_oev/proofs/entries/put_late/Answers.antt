use Rattle.std.proofs.Common.{sym, ◌∙◌}
use Rattle.std.specs.List.{flat_map}
use Rattle.list_text.specs.Values.{member_tokens}
use Rattle.list_text.proofs.Trees.{adds_same}
use Rattle.list_oev.specs.Entries.{late}
use Rattle.edit_ops.proofs.Parts.{add_as, rename_old_as, delete_as, mkdir_as, replication_as, permissions_as, owner_as, close_as, times_as, quota_as, rename_as, concat_as}
use Rattle.list_oev.proofs.EntryLaws.{late_said, late_kept}
use Rattle.list_oev.proofs.entries.put_late.Goals as goal

pub put_members-requires : goal.put_members-requires
put_members-requires c = late_kept c.args.txid (add_as c.as_slice-in-Add.ensures c.from-in-Add.ensures c.from.ensures c.as_slice-in-Add-2.ensures c.as_slice.ensures ∙ sym c.in-Add.is) c.requires

pub returns-in-Add : goal.returns-in-Add
returns-in-Add c =
    adds_same c.put_members.result c.args.writer.now c.put_members.new.writer (flat_map member_tokens (late c.args.txid c.args.op.now)) c.put_members.ensures
    (late_said c.args.txid (add_as c.as_slice-in-Add.ensures c.from-in-Add.ensures c.from.ensures c.as_slice-in-Add-2.ensures c.as_slice.ensures ∙ sym c.in-Add.is))

pub put_members-requires-in-RenameOld : goal.put_members-requires-in-RenameOld
put_members-requires-in-RenameOld c = late_kept c.args.txid (rename_old_as c.as_slice-in-RenameOld-2.ensures c.as_slice-in-RenameOld.ensures ∙ sym c.in-RenameOld.is) c.requires

pub returns-in-RenameOld : goal.returns-in-RenameOld
returns-in-RenameOld c =
    adds_same c.put_members-in-RenameOld.result c.args.writer.now c.put_members-in-RenameOld.new.writer (flat_map member_tokens (late c.args.txid c.args.op.now)) c.put_members-in-RenameOld.ensures
    (late_said c.args.txid (rename_old_as c.as_slice-in-RenameOld-2.ensures c.as_slice-in-RenameOld.ensures ∙ sym c.in-RenameOld.is))

pub put_members-requires-in-Delete : goal.put_members-requires-in-Delete
put_members-requires-in-Delete c = late_kept c.args.txid (delete_as c.as_slice-in-Delete.ensures ∙ sym c.in-Delete.is) c.requires

pub returns-in-Delete : goal.returns-in-Delete
returns-in-Delete c =
    adds_same c.put_members-in-Delete.result c.args.writer.now c.put_members-in-Delete.new.writer (flat_map member_tokens (late c.args.txid c.args.op.now)) c.put_members-in-Delete.ensures
    (late_said c.args.txid (delete_as c.as_slice-in-Delete.ensures ∙ sym c.in-Delete.is))

pub put_members-requires-in-Mkdir : goal.put_members-requires-in-Mkdir
put_members-requires-in-Mkdir c = late_kept c.args.txid (mkdir_as c.as_slice-in-Mkdir-2.ensures c.from-in-Mkdir.ensures c.as_slice-in-Mkdir-3.ensures
    c.as_slice-in-Mkdir.ensures ∙ sym c.in-Mkdir.is) c.requires

pub returns-in-Mkdir : goal.returns-in-Mkdir
returns-in-Mkdir c =
    adds_same c.put_members-in-Mkdir.result c.args.writer.now c.put_members-in-Mkdir.new.writer (flat_map member_tokens (late c.args.txid c.args.op.now)) c.put_members-in-Mkdir.ensures
    (late_said c.args.txid (mkdir_as c.as_slice-in-Mkdir-2.ensures c.from-in-Mkdir.ensures c.as_slice-in-Mkdir-3.ensures c.as_slice-in-Mkdir.ensures ∙ sym c.in-Mkdir.is))

pub put_members-requires-in-SetReplication : goal.put_members-requires-in-SetReplication
put_members-requires-in-SetReplication c = late_kept c.args.txid (replication_as c.as_slice-in-SetReplication.ensures c.from-in-SetReplication.ensures ∙ sym c.in-SetReplication.is) c.requires

pub returns-in-SetReplication : goal.returns-in-SetReplication
returns-in-SetReplication c =
    adds_same c.put_members-in-SetReplication.result c.args.writer.now c.put_members-in-SetReplication.new.writer
    (flat_map member_tokens (late c.args.txid c.args.op.now)) c.put_members-in-SetReplication.ensures
    (late_said c.args.txid (replication_as c.as_slice-in-SetReplication.ensures c.from-in-SetReplication.ensures ∙ sym c.in-SetReplication.is))

pub put_members-requires-in-SetPermissions : goal.put_members-requires-in-SetPermissions
put_members-requires-in-SetPermissions c = late_kept c.args.txid (permissions_as c.as_slice-in-SetPermissions.ensures c.from-in-SetPermissions.ensures ∙ sym c.in-SetPermissions.is) c.requires

pub returns-in-SetPermissions : goal.returns-in-SetPermissions
returns-in-SetPermissions c =
    adds_same c.put_members-in-SetPermissions.result c.args.writer.now c.put_members-in-SetPermissions.new.writer
    (flat_map member_tokens (late c.args.txid c.args.op.now)) c.put_members-in-SetPermissions.ensures
    (late_said c.args.txid (permissions_as c.as_slice-in-SetPermissions.ensures c.from-in-SetPermissions.ensures ∙ sym c.in-SetPermissions.is))

pub put_members-requires-in-SetOwner : goal.put_members-requires-in-SetOwner
put_members-requires-in-SetOwner c = late_kept c.args.txid (owner_as c.as_slice-in-SetOwner-2.ensures c.as_slice-in-SetOwner-3.ensures c.as_slice-in-SetOwner.ensures ∙ sym c.in-SetOwner.is) c.requires

pub returns-in-SetOwner : goal.returns-in-SetOwner
returns-in-SetOwner c =
    adds_same c.put_members-in-SetOwner.result c.args.writer.now c.put_members-in-SetOwner.new.writer (flat_map member_tokens (late c.args.txid c.args.op.now)) c.put_members-in-SetOwner.ensures
    (late_said c.args.txid (owner_as c.as_slice-in-SetOwner-2.ensures c.as_slice-in-SetOwner-3.ensures c.as_slice-in-SetOwner.ensures ∙ sym c.in-SetOwner.is))

pub put_members-requires-in-Close : goal.put_members-requires-in-Close
put_members-requires-in-Close c = late_kept c.args.txid (close_as c.as_slice-in-Close-2.ensures c.as_slice-in-Close.ensures ∙ sym c.in-Close.is) c.requires

pub returns-in-Close : goal.returns-in-Close
returns-in-Close c =
    adds_same c.put_members-in-Close.result c.args.writer.now c.put_members-in-Close.new.writer (flat_map member_tokens (late c.args.txid c.args.op.now)) c.put_members-in-Close.ensures
    (late_said c.args.txid (close_as c.as_slice-in-Close-2.ensures c.as_slice-in-Close.ensures ∙ sym c.in-Close.is))

pub put_members-requires-in-Times : goal.put_members-requires-in-Times
put_members-requires-in-Times c = late_kept c.args.txid (times_as c.as_slice-in-Times.ensures ∙ sym c.in-Times.is) c.requires

pub returns-in-Times : goal.returns-in-Times
returns-in-Times c =
    adds_same c.put_members-in-Times.result c.args.writer.now c.put_members-in-Times.new.writer (flat_map member_tokens (late c.args.txid c.args.op.now)) c.put_members-in-Times.ensures
    (late_said c.args.txid (times_as c.as_slice-in-Times.ensures ∙ sym c.in-Times.is))

pub put_members-requires-in-SetQuota : goal.put_members-requires-in-SetQuota
put_members-requires-in-SetQuota c = late_kept c.args.txid (quota_as c.as_slice-in-SetQuota.ensures ∙ sym c.in-SetQuota.is) c.requires

pub returns-in-SetQuota : goal.returns-in-SetQuota
returns-in-SetQuota c =
    adds_same c.put_members-in-SetQuota.result c.args.writer.now c.put_members-in-SetQuota.new.writer (flat_map member_tokens (late c.args.txid c.args.op.now)) c.put_members-in-SetQuota.ensures
    (late_said c.args.txid (quota_as c.as_slice-in-SetQuota.ensures ∙ sym c.in-SetQuota.is))

pub put_members-requires-in-Rename : goal.put_members-requires-in-Rename
put_members-requires-in-Rename c = late_kept c.args.txid (rename_as c.as_slice-in-Rename-2.ensures c.as_slice-in-Rename.ensures ∙ sym c.in-Rename.is) c.requires

pub returns-in-Rename : goal.returns-in-Rename
returns-in-Rename c =
    adds_same c.put_members-in-Rename.result c.args.writer.now c.put_members-in-Rename.new.writer (flat_map member_tokens (late c.args.txid c.args.op.now)) c.put_members-in-Rename.ensures
    (late_said c.args.txid (rename_as c.as_slice-in-Rename-2.ensures c.as_slice-in-Rename.ensures ∙ sym c.in-Rename.is))

pub put_members-requires-in-ConcatDelete : goal.put_members-requires-in-ConcatDelete
put_members-requires-in-ConcatDelete c = late_kept c.args.txid (concat_as c.as_slice-in-ConcatDelete-2.ensures c.as_slice-in-ConcatDelete.ensures ∙ sym c.in-ConcatDelete.is) c.requires

pub returns-in-ConcatDelete : goal.returns-in-ConcatDelete
returns-in-ConcatDelete c =
    adds_same c.put_members-in-ConcatDelete.result c.args.writer.now c.put_members-in-ConcatDelete.new.writer
    (flat_map member_tokens (late c.args.txid c.args.op.now)) c.put_members-in-ConcatDelete.ensures
    (late_said c.args.txid (concat_as c.as_slice-in-ConcatDelete-2.ensures c.as_slice-in-ConcatDelete.ensures ∙ sym c.in-ConcatDelete.is))

pub put_members-requires-in-EndLogSegment : goal.put_members-requires-in-EndLogSegment
put_members-requires-in-EndLogSegment c = late_kept c.args.txid (sym c.in-EndLogSegment.is) c.requires

pub returns-in-EndLogSegment : goal.returns-in-EndLogSegment
returns-in-EndLogSegment c =
    adds_same c.put_members-in-EndLogSegment.result c.args.writer.now c.put_members-in-EndLogSegment.new.writer
    (flat_map member_tokens (late c.args.txid c.args.op.now)) c.put_members-in-EndLogSegment.ensures
    (late_said c.args.txid (sym c.in-EndLogSegment.is))

pub put_members-requires-in-StartLogSegment : goal.put_members-requires-in-StartLogSegment
put_members-requires-in-StartLogSegment c = late_kept c.args.txid (sym c.in-StartLogSegment.is) c.requires

pub returns-in-StartLogSegment : goal.returns-in-StartLogSegment
returns-in-StartLogSegment c =
    adds_same c.put_members-in-StartLogSegment.result c.args.writer.now c.put_members-in-StartLogSegment.new.writer
    (flat_map member_tokens (late c.args.txid c.args.op.now)) c.put_members-in-StartLogSegment.ensures
    (late_said c.args.txid (sym c.in-StartLogSegment.is))
