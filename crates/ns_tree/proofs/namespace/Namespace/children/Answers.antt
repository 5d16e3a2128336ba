use Rattle.std.proofs.Common.{◌≡◌}
use Rattle.std.proofs.lemmas.Result.{IfOk-weaker}
use Rattle.ns_tree.specs.Space.{children_of, AreInByteOrder}
use Rattle.ns_tree.proofs.Names.{children_ordered}
use Rattle.ns_tree.proofs.namespace.Namespace.children.Goals as goal

pub returns-clause-order : goal.returns-clause-order
returns-clause-order c =
    IfOk-weaker c.children.result (λ names. names.items ≡ children_of c.args.path.now c.self.inside.rows) (λ names. AreInByteOrder names.items)
    (λ names is. children_ordered c.args.path.now c.self.inside.rows names.items is c.self.invariant.sound.ordered) c.children.ensures
