use Rattle.std.proofs.Common.{◌≡◌, ◌+◌, ◌≤◌, ◌∷◌, ◌++◌, [], length, take, drop, get_or, sym, ap, ◌∙◌, subst, subst₂, arith}
use Rattle.std.proofs.lemmas.List.{take_all, take-append-drop}
use Rattle.mesh.specs.Matches.{IsWithin}
use Rattle.mesh_judge.specs.declared.plans.ToldCalls.{ToldCalls}
use Rattle.mesh_judge.specs.Plans.{TellsMarks}
use Rattle.mesh_judge.proofs.ReachLaws.{taken_length}
use Rattle.mesh_judge.proofs.Deciding.{front}
use Rattle.mesh_judge.proofs.Following.{line_within}
use Rattle.mesh_judge.proofs.MarkLaws.{one_line}
use Rattle.mesh_judge.proofs.PlanLaws.{told_begins, told_ends, next_room}
use Rattle.mesh_judge.proofs.plans.tell_marks.Goals as goal

pub loop-line-init : goal.loop-line-init
loop-line-init c =
    let calls : ToldCalls = record { next = c.in_ok-next.next; unmarked = c.in_ok-unmarked.unmarked } in
    subst (λ p. TellsMarks c.args.nodes c.args.lines.now [] p calls) (sym c.new-plan.ensures) (told_begins c.args.nodes c.args.lines.now calls c.in_ok-next.ensures c.in_ok-unmarked.ensures)

pub tell_line-requires-clause-within : goal.tell_line-requires-clause-within
tell_line-requires-clause-within c =
    subst (λ k. IsWithin k c.line-item.result) (sym c.loop-line.invariant.next.count)
    (line_within c.args.nodes c.loop-line.line-index c.args.lines.now c.line-item.result c.requires c.loop-line-test.true c.line-item.is)

pub tell_line-requires-clause-room : goal.tell_line-requires-clause-room
tell_line-requires-clause-room c i low =
    let inside : c.loop-line.line-index ≤ length c.args.lines.now = omega (arith, c.loop-line-test.true) in
    let size = taken_length c.loop-line.line-index c.args.lines.now inside in
    let fits : get_or c.loop-line.calls.next.items i 0 + 1 ≤ c.loop-line.line-index + 2 =
    next_room c.args.nodes i (c.loop-line.line-index + 2) c.args.lines.now (take c.loop-line.line-index c.args.lines.now) c.loop-line.plan c.loop-line.calls low
    (omega (arith, size)) c.loop-line.invariant in
    omega arith

pub loop-line-preserved : goal.loop-line-preserved
loop-line-preserved c =
    let seen = take c.loop-line.line-index c.args.lines.now in
    let rest = drop (c.loop-line.line-index + 1) c.args.lines.now in
    let whole : c.args.lines.now ≡ seen ++ c.line-item.result ∷ rest =
    sym (take-append-drop c.loop-line.line-index c.args.lines.now)
    ∙ ap (λ l. seen ++ l) (front c.loop-line.line-index c.args.lines.now c.line-item.result c.loop-line-test.true c.line-item.is) in
    let known : TellsMarks (length c.loop-line.calls.next.items) c.args.lines.now seen c.loop-line.plan c.loop-line.calls =
    subst (λ k. TellsMarks k c.args.lines.now seen c.loop-line.plan c.loop-line.calls) (sym c.loop-line.invariant.next.count) c.loop-line.invariant in
    subst₂ (λ k rs. TellsMarks k c.args.lines.now rs c.tell_line.new.plan c.tell_line.new.calls) c.loop-line.invariant.next.count
    (sym (one_line c.loop-line.line-index c.args.lines.now c.line-item.result c.loop-line-test.true c.line-item.is))
    (c.in_ok-tell_line.ensures c.args.lines.now seen rest whole known)

pub returns : goal.returns
returns c called =
    told_ends c.args.nodes c.args.lines.now c.loop-line.plan c.loop-line.calls
    (subst (λ rs. TellsMarks c.args.nodes c.args.lines.now rs c.loop-line.plan c.loop-line.calls) (take_all c.loop-line.line-index c.args.lines.now c.loop-line-test.false)
    c.loop-line.invariant) called
