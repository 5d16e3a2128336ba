use Rattle.std.proofs.Common.{[], Option, subst}
use Rattle.std.specs.Prelude.{MatchOption}
use Rattle.mesh.specs.Marks.{IsMarked, AreCopied}
use Rattle.mesh_judge.specs.declared.marking.CallTable.{CallTable}
use Rattle.mesh_judge.specs.Marking.{KnowsCalls}
use Rattle.mesh_judge.proofs.Deciding.{no}
use Rattle.mesh_judge.proofs.marking.goes_by_plan.Goals as goal

pub returns-in_ok-are_copied-in-Some : goal.returns-in_ok-are_copied-in-Some
returns-in_ok-are_copied-in-Some c =
    let led = subst (λ (o : Option CallTable). MatchOption o (IsMarked c.args.plan.now [] c.args.lines.now → ⊥)
    (λ calls. IsMarked c.args.plan.now [] c.args.lines.now × KnowsCalls c.args.nodes c.args.plan.now c.args.lines.now calls)) c.in-Some.is c.in_ok-led.ensures in
    let copied = c.in_ok-are_copied-in-Some.ensures c.args.nodes c.args.plan.now led.1 in
    (λ e. (led.0, copied.0 e), λ h. copied.1 h.1)

pub returns-in-None : goal.returns-in-None
returns-in-None c =
    let led = subst (λ (o : Option CallTable). MatchOption o (IsMarked c.args.plan.now [] c.args.lines.now → ⊥)
    (λ calls. IsMarked c.args.plan.now [] c.args.lines.now × KnowsCalls c.args.nodes c.args.plan.now c.args.lines.now calls)) c.in-None.is c.in_ok-led.ensures in
    no (IsMarked c.args.plan.now [] c.args.lines.now × AreCopied c.args.plan.now c.args.lines.now) (λ h. led h.0)
