use Rattle.std.proofs.Common.{subst, ℕ, List}
use Rattle.std.specs.Prelude.{IfOk}
use Rattle.base_disk.specs.Files.{Files}
use Rattle.list_fsck.specs.declared.file_role.FileRole.TheVariants as role
use Rattle.list_fsck.specs.Rules.{IsVerdict}
use Rattle.list_fsck.proofs.numbers.check_number.Goals as goal

pub returns-in-Some-clause-found : goal.returns-in-Some-clause-found
returns-in-Some-clause-found g c = λ t.
    subst (λ (files : Files). IfOk c.check_held.result (λ found. (before : ℕ) (name : List ℕ) → IsVerdict files before name (role.Number c.args.number) found)) (c.read_held.ensures.disk t).keeps.seen
    (c.check_held.ensures.found (c.read_held.ensures.call.tells.0 t))
