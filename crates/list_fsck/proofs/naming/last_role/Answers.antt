use Rattle.list_fsck.specs.Roles.{temporary, checkpoint}
use Rattle.list_fsck.proofs.naming.last_role.Goals as goal

pub returns-then-is_temporary : goal.returns-then-is_temporary
returns-then-is_temporary c = let is = rw c.if-is_temporary.true at c.is_temporary.ensures in temporary is.0 is.1

pub returns-then-is_checkpoint : goal.returns-then-is_checkpoint
returns-then-is_checkpoint c = let is = rw c.if-is_checkpoint.true at c.is_checkpoint.ensures in checkpoint is.0 is.1 is.2
