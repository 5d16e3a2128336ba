use Rattle.std.proofs.Common.{[], take, sym, subst}
use Rattle.std.proofs.lemmas.List.{take_all}
use Rattle.mesh_judge.specs.Plans.{IsCalled, AreCalled, KnowsAsked}
use Rattle.mesh_judge.proofs.Deciding.{holds, fails}
use Rattle.mesh_judge.proofs.MarkLaws.{one_line}
use Rattle.mesh_judge.proofs.UncalledLaws.{none_asked, none_called_yet, front_more, front_ends}
use Rattle.mesh_judge.proofs.uncalled.uncalled_line.Goals as goal

pub loop-index-init : goal.loop-index-init
loop-index-init c = record { asked = none_asked c.new-asked.result c.new-asked.ensures; called = none_called_yet c.args.lines.now }

pub returns-then-not-is_called : goal.returns-then-not-is_called
returns-then-not-is_called c =
    front_ends c.loop-index.index c.args.lines.now c.index-lines-index.result c.loop-index-test.true c.index-lines-index.is
    (fails (IsCalled (take c.loop-index.index c.args.lines.now) c.index-lines-index.result) c.in_ok-is_called.is_called c.if-not-is_called.true
    (c.in_ok-is_called.ensures (take c.loop-index.index c.args.lines.now) c.loop-index.invariant.asked)) c.loop-index.invariant.called

pub loop-index-preserved : goal.loop-index-preserved
loop-index-preserved c = record {
  asked =
      subst (λ rs. KnowsAsked rs c.note_call.new.asked) (sym (one_line c.loop-index.index c.args.lines.now c.index-lines-index.result c.loop-index-test.true c.index-lines-index.is))
      (c.in_ok-note_call.ensures (take c.loop-index.index c.args.lines.now) c.loop-index.invariant.asked);
  called =
      front_more c.loop-index.index c.args.lines.now c.index-lines-index.result c.loop-index-test.true c.index-lines-index.is
      (holds (IsCalled (take c.loop-index.index c.args.lines.now) c.index-lines-index.result) c.in_ok-is_called.is_called c.if-not-is_called.false
      (c.in_ok-is_called.ensures (take c.loop-index.index c.args.lines.now) c.loop-index.invariant.asked)) c.loop-index.invariant.called;
}

pub returns : goal.returns
returns c = subst (AreCalled []) (take_all c.loop-index.index c.args.lines.now c.loop-index-test.false) c.loop-index.invariant.called
