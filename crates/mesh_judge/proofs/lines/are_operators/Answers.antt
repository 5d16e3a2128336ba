use Rattle.std.proofs.Common.{◌∷◌, []}
use Rattle.journal_history.specs.declared.record.Record.{Record}
use Rattle.mesh.specs.Makers.{IsOperators}
use Rattle.mesh_judge.proofs.Deciding.{from_begin, from_more, from_fails, from_ends, yes, no, holds, fails}
use Rattle.mesh_judge.proofs.LineLaws.{operators_by_line}
use Rattle.mesh_judge.proofs.lines.are_operators.Goals as goal

pub loop-line-init : goal.loop-line-init
loop-line-init c = from_begin IsOperators c.args.lines.now

pub returns-then-not-is_operators : goal.returns-then-not-is_operators
returns-then-not-is_operators c =
    no (IsOperators c.args.lines.now)
    (from_fails IsOperators (λ (r : Record). IsOperators (r ∷ [])) operators_by_line c.loop-line.line-index c.args.lines.now c.line-item.result c.loop-line-test.true c.line-item.is
    (fails (IsOperators (c.line-item.result ∷ [])) c.is_operators.result c.if-not-is_operators.true c.is_operators.ensures) c.loop-line.invariant)

pub loop-line-preserved : goal.loop-line-preserved
loop-line-preserved c =
    from_more IsOperators (λ (r : Record). IsOperators (r ∷ [])) operators_by_line c.loop-line.line-index c.args.lines.now c.line-item.result c.loop-line-test.true c.line-item.is
    (holds (IsOperators (c.line-item.result ∷ [])) c.is_operators.result c.if-not-is_operators.false c.is_operators.ensures) c.loop-line.invariant

pub returns : goal.returns
returns c = yes (IsOperators c.args.lines.now) (from_ends IsOperators (λ (r : Record). IsOperators (r ∷ [])) operators_by_line c.loop-line.line-index
    c.args.lines.now c.loop-line-test.false c.loop-line.invariant)
