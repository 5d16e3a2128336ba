use Rattle.std.proofs.Common.{subst}
use Rattle.journal_core.specs.declared.node_state.NodeState.{NodeState}
use Rattle.journal_core.specs.Stops.{IsStop}
use Rattle.journal_core.specs.Cuts.{IsCut}
use Rattle.journal_core.proofs.CutLaws.{cut_stopped}
use Rattle.journal_step.proofs.plain_node.PlainNodeCutNode.act_cut.Goals as goal

pub returns-clause-cut : goal.returns-clause-cut
returns-clause-cut c =
    let s = c.self.inside.state in
    let r = c.args.request.now in
    let stand = c.effects_standing-standing.result in
    let stop : IsStop s r stand c.in_ok-done.done c.stop.new.state = rw c.effects_standing-standing.ensures.same at c.in_ok-done.ensures.ok in
    let P : NodeState → Type 0 = λ t. IsCut t r c.args.calls c.args.cut c.in_ok-done.done c.stop.new.state in
    subst P c.self.view_is (cut_stopped c.args.cut s c.stop.new.state r c.args.calls stand c.in_ok-done.done c.effects_standing-standing.ensures.count stop)
