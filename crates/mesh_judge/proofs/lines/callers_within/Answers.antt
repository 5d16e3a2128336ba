use Rattle.std.proofs.Common.{◌≤◌, arith}
use Rattle.journal_history.specs.declared.history_line.HistoryLine.{HistoryLine}
use Rattle.mesh.specs.Matches.{CallersWithin}
use Rattle.mesh_judge.proofs.Deciding.{from_more, from_fails, from_ends, yes, no}
use Rattle.mesh_judge.proofs.LineLaws.{callers_by_line}
use Rattle.mesh_judge.proofs.lines.callers_within.Goals as goal

pub returns-then-caller-callers : goal.returns-then-caller-callers
returns-then-caller-callers c =
    let above = c.if-caller-callers.true in
    no (CallersWithin c.args.callers c.args.lines.now)
    (from_fails (CallersWithin c.args.callers) (λ (h : HistoryLine). h.caller ≤ c.args.callers) (callers_by_line c.args.callers)
    c.loop-line.line-index c.args.lines.now c.line-item.result c.loop-line-test.true c.line-item.is
    (λ (q : c.line-item.result.caller ≤ c.args.callers). omega (arith, q, above, c.caller.ensures)) c.loop-line.invariant)

pub loop-line-preserved : goal.loop-line-preserved
loop-line-preserved c =
    let below : c.line-item.result.caller ≤ c.args.callers = omega (arith, c.if-caller-callers.false, c.caller.ensures) in
    from_more (CallersWithin c.args.callers) (λ (h : HistoryLine). h.caller ≤ c.args.callers) (callers_by_line c.args.callers) c.loop-line.line-index
    c.args.lines.now c.line-item.result c.loop-line-test.true c.line-item.is
    below c.loop-line.invariant

pub returns : goal.returns
returns c =
    yes (CallersWithin c.args.callers c.args.lines.now)
    (from_ends (CallersWithin c.args.callers) (λ (h : HistoryLine). h.caller ≤ c.args.callers) (callers_by_line c.args.callers) c.loop-line.line-index
    c.args.lines.now c.loop-line-test.false c.loop-line.invariant)
