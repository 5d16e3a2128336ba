use Rattle.mesh.specs.Matches.{IsWithin, AreWithin}
use Rattle.mesh_judge.proofs.Deciding.{from_begin, from_more, from_fails, from_ends, yes, no, holds, fails}
use Rattle.mesh_judge.proofs.LineLaws.{within_by_line}
use Rattle.mesh_judge.proofs.lines.are_within.Goals as goal

pub loop-line-init : goal.loop-line-init
loop-line-init c = from_begin (AreWithin c.args.nodes) c.args.lines.now

pub returns-then-not-is_within : goal.returns-then-not-is_within
returns-then-not-is_within c =
    no (AreWithin c.args.nodes c.args.lines.now)
    (from_fails (AreWithin c.args.nodes) (IsWithin c.args.nodes) (within_by_line c.args.nodes) c.loop-line.line-index c.args.lines.now c.line-item.result c.loop-line-test.true c.line-item.is
    (fails (IsWithin c.args.nodes c.line-item.result) c.is_within.result c.if-not-is_within.true c.is_within.ensures) c.loop-line.invariant)

pub loop-line-preserved : goal.loop-line-preserved
loop-line-preserved c =
    from_more (AreWithin c.args.nodes) (IsWithin c.args.nodes) (within_by_line c.args.nodes) c.loop-line.line-index c.args.lines.now c.line-item.result c.loop-line-test.true c.line-item.is
    (holds (IsWithin c.args.nodes c.line-item.result) c.is_within.result c.if-not-is_within.false c.is_within.ensures) c.loop-line.invariant

pub returns : goal.returns
returns c =
    yes (AreWithin c.args.nodes c.args.lines.now)
    (from_ends (AreWithin c.args.nodes) (IsWithin c.args.nodes) (within_by_line c.args.nodes) c.loop-line.line-index c.args.lines.now c.loop-line-test.false c.loop-line.invariant)
