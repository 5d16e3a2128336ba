use Rattle.std.proofs.Common.{◌+◌, ◌≤◌, length, take, get_or, sym, subst, subst₂, arith}
use Rattle.std.proofs.lemmas.List.{take_all}
use Rattle.mesh.specs.Matches.{IsWithin}
use Rattle.mesh_judge.proofs.ReachLaws.{taken_length}
use Rattle.mesh_judge.specs.Marking.{KnowsPlan, KnowsCalls, LineIsMarked}
use Rattle.mesh_judge.proofs.Deciding.{fails, holds}
use Rattle.mesh_judge.proofs.Following.{line_within}
use Rattle.mesh_judge.proofs.MarkLaws.{marked_begin, marked_more, marked_fails, marked_ends, one_line, number_fits, is_due, due_fits, late_fits}
use Rattle.mesh_judge.proofs.marking.calls_in.Goals as goal

pub loop-line-init : goal.loop-line-init
loop-line-init c = record { marked = marked_begin c.args.plan.now c.args.lines.now; calls = c.in_ok-calls.ensures c.args.plan.now }

pub is_line_marked-requires-clause-within : goal.is_line_marked-requires-clause-within
is_line_marked-requires-clause-within c =
    subst (λ k. IsWithin k c.line-item.result) (sym c.loop-line.invariant.calls.count)
    (line_within c.args.nodes c.loop-line.line-index c.args.lines.now c.line-item.result c.requires c.loop-line-test.true c.line-item.is)

pub returns-then-not-is_marked : goal.returns-then-not-is_marked
returns-then-not-is_marked c =
    let n = c.loop-line.invariant.calls.count in
    let seen = take c.loop-line.line-index c.args.lines.now in
    let known : KnowsCalls (length c.loop-line.calls.next.items) c.args.plan.now seen c.loop-line.calls =
    subst (λ k. KnowsCalls k c.args.plan.now seen c.loop-line.calls) (sym n) c.loop-line.invariant.calls in
    let marks : KnowsPlan (length c.loop-line.calls.next.items) c.args.plan.now c.in_ok-marks.marks = subst (λ k. KnowsPlan k c.args.plan.now c.in_ok-marks.marks) (sym n) c.in_ok-marks.ensures in
    λ h. marked_fails c.args.plan.now c.loop-line.line-index c.args.lines.now c.line-item.result c.loop-line-test.true c.line-item.is
    (fails (LineIsMarked c.args.plan.now seen c.line-item.result) c.in_ok-is_marked.is_marked c.if-not-is_marked.true
    (c.in_ok-is_marked.ensures c.args.plan.now seen marks known)) c.loop-line.invariant.marked h

pub push_line-requires-clause-within : goal.push_line-requires-clause-within
push_line-requires-clause-within c =
    subst (λ k. IsWithin k c.line-item.result) (sym c.loop-line.invariant.calls.count)
    (line_within c.args.nodes c.loop-line.line-index c.args.lines.now c.line-item.result c.requires c.loop-line-test.true c.line-item.is)

pub push_line-requires-clause-due : goal.push_line-requires-clause-due
push_line-requires-clause-due c =
    let n = c.loop-line.invariant.calls.count in
    let seen = take c.loop-line.line-index c.args.lines.now in
    let known : KnowsCalls (length c.loop-line.calls.next.items) c.args.plan.now seen c.loop-line.calls =
    subst (λ k. KnowsCalls k c.args.plan.now seen c.loop-line.calls) (sym n) c.loop-line.invariant.calls in
    let marks : KnowsPlan (length c.loop-line.calls.next.items) c.args.plan.now c.in_ok-marks.marks = subst (λ k. KnowsPlan k c.args.plan.now c.in_ok-marks.marks) (sym n) c.in_ok-marks.ensures in
    is_due (length c.loop-line.calls.next.items) c.args.plan.now seen c.loop-line.calls c.line-item.result
    (holds (LineIsMarked c.args.plan.now seen c.line-item.result) c.in_ok-is_marked.is_marked c.if-not-is_marked.false (c.in_ok-is_marked.ensures c.args.plan.now seen marks known)) known

pub push_line-requires-clause-few : goal.push_line-requires-clause-few
push_line-requires-clause-few c node number r =
    let a = due_fits c.args.nodes c.args.plan.now (take c.loop-line.line-index c.args.lines.now) c.loop-line.calls node r c.loop-line.invariant.calls in
    let b = late_fits c.args.plan.now c.in_ok-marks.marks.late node number c.in_ok-marks.ensures.late in
    omega (arith, a, b)

pub push_line-requires-clause-room : goal.push_line-requires-clause-room
push_line-requires-clause-room c i low =
    let inside : c.loop-line.line-index ≤ length c.args.lines.now = omega (arith, c.loop-line-test.true) in
    let size = taken_length c.loop-line.line-index c.args.lines.now inside in
    let fits : get_or c.loop-line.calls.next.items i 0 + 1 ≤ c.loop-line.line-index + 2 =
    number_fits c.args.nodes i (c.loop-line.line-index + 2) c.args.plan.now (take c.loop-line.line-index c.args.lines.now) c.loop-line.calls low (omega (arith, size)) c.loop-line.invariant.calls in
    omega arith

pub loop-line-preserved : goal.loop-line-preserved
loop-line-preserved c =
    let n = c.loop-line.invariant.calls.count in
    let seen = take c.loop-line.line-index c.args.lines.now in
    let known : KnowsCalls (length c.loop-line.calls.next.items) c.args.plan.now seen c.loop-line.calls =
    subst (λ k. KnowsCalls k c.args.plan.now seen c.loop-line.calls) (sym n) c.loop-line.invariant.calls in
    let marks : KnowsPlan (length c.loop-line.calls.next.items) c.args.plan.now c.in_ok-marks.marks = subst (λ k. KnowsPlan k c.args.plan.now c.in_ok-marks.marks) (sym n) c.in_ok-marks.ensures in
    let marked = holds (LineIsMarked c.args.plan.now seen c.line-item.result) c.in_ok-is_marked.is_marked c.if-not-is_marked.false (c.in_ok-is_marked.ensures c.args.plan.now seen marks known) in
    record {
      marked = marked_more c.args.plan.now c.loop-line.line-index c.args.lines.now c.line-item.result c.loop-line-test.true c.line-item.is marked c.loop-line.invariant.marked;
      calls =
          subst₂ (λ k rs. KnowsCalls k c.args.plan.now rs c.push_line.new.calls) n (sym (one_line c.loop-line.line-index c.args.lines.now c.line-item.result c.loop-line-test.true c.line-item.is))
          (c.in_ok-push_line.ensures c.args.plan.now seen marks known);
    }

pub returns : goal.returns
returns c = (
  marked_ends c.args.plan.now c.loop-line.line-index c.args.lines.now c.loop-line-test.false c.loop-line.invariant.marked,
  subst (λ rs. KnowsCalls c.args.nodes c.args.plan.now rs c.loop-line.calls) (take_all c.loop-line.line-index c.args.lines.now c.loop-line-test.false) c.loop-line.invariant.calls,
)
