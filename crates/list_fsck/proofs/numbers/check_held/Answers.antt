use Rattle.std.proofs.Common.{sym, subst, ℕ, List}
use Rattle.std.specs.Prelude.{IfOk}
use Rattle.disk_files.specs.declared.node_number.NodeNumber.{NodeNumber}
use Rattle.list_fsck.specs.declared.file_role.FileRole.TheVariants as role
use Rattle.list_fsck.specs.Rules.{IsVerdict}
use Rattle.list_fsck.proofs.numbers.check_held.Goals as goal

pub returns-in-Writer-clause-found : goal.returns-in-Writer-clause-found
returns-in-Writer-clause-found g c = λ t.
    let seen = (g.D.DiskModel.view c.args.disk.now).seen in
    subst (λ (n : NodeNumber). IfOk c.check_writer.result (λ found. (before : ℕ) (name : List ℕ) → IsVerdict seen before name (role.Number n) found))
    (sym c.in-Writer.is) (c.check_writer.ensures.found t)
