use Rattle.ns_edits.specs.Apply.{apply_op}
use Rattle.ns_edits.proofs.applying.apply_op.Goals as goal

pub returns-in-Rename-clause-ok : goal.returns-in-Rename-clause-ok
unfolding apply_op
returns-in-Rename-clause-ok c = rw (c.in-Rename.is, ← c.as_slice-in-Rename.ensures, ← c.as_slice-in-Rename-2.ensures) c.rename.ensures.ok

pub returns-in-ConcatDelete-clause-ok : goal.returns-in-ConcatDelete-clause-ok
unfolding apply_op
returns-in-ConcatDelete-clause-ok c = rw (c.in-ConcatDelete.is, ← c.as_slice-in-ConcatDelete.ensures) c.join.ensures.ok
