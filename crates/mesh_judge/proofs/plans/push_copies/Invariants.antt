use Rattle.std.proofs.Common.{◌≡◌, ◌++◌, replicate}
use Rattle.journal_history.specs.declared.mark.MarkKind.TheVariants as kind
use Rattle.mesh.specs.Marks.{mark}
use Rattle.mesh_judge.proofs.plans.push_copies.Given as goal

abbrev pub invariant-loop : goal.invariant-loop
invariant-loop l = l.plan ≡ l.fn.plan ++ replicate l.counter (mark l.node l.number kind.Late)
