use Rattle.list_fsck.proofs.NameCases.{left_role}
use Rattle.list_fsck.proofs.naming.role_of.Goals as goal

pub returns-in-None : goal.returns-in-None
returns-in-None c =
    left_role c.args.name.now c.in_default.ensures (λ start kind told named. c.in_default-file_named.ensures start kind told named)
    (λ rest txid of named. c.in-None.ensures rest txid of named) c.last_role.result c.last_role.ensures
