use Rattle.std.proofs.Common.{◌∙◌, sym, subst}
use Rattle.std.proofs.lemmas.Result.{IfOk-weaker}
use Rattle.play_pipes.specs.Desks.{DeskView}
use Rattle.play_pipes.specs.PipeSeats.{HearsOne}
use Rattle.play_pipes.proofs.PipeSeatLaws.{hears_asked, hears_taken}
use Rattle.play_pipes.proofs.desk_wire.hear_call.Goals.{then-is_empty+else-nodes-node+in_ok-nodes+in_ok-ahead, else-is_empty}
use Rattle.play_pipes.proofs.desk_wire.hear_call.Goals as goal

pub returns-clause-hears : goal.returns-clause-hears
returns-clause-hears g c =
    let k = c.args.node in
    let r = c.args.request.now in
    let ahead = c.args.ahead.now in
    let old = c.args.desk.now.lists in
    let new = c.take.new.self in
    elim c.if-is_empty.branch [
      | then-is_empty+else-nodes-node+in_ok-nodes+in_ok-ahead w ↦
          IfOk-weaker c.take.result _ _
          (λ heard first. subst (λ (v : DeskView). HearsOne k r heard ahead old new v.lists) (sym w.desk-is)
          (hears_asked k r heard ahead _ new old w.ask_ahead.new.desk.lists c.requires.low (c.is_empty.ensures w.if-is_empty.true) w.in_ok-ahead.ensures.hears (sym w.ahead-is ∙ first)))
          c.take.ensures.first
      | else-is_empty w ↦
          IfOk-weaker c.take.result _ _
          (λ heard first. subst (λ (v : DeskView). HearsOne k r heard ahead old new v.lists) (sym w.desk-is)
          (hears_taken k r heard ahead new old c.requires.low (sym w.ahead-is ∙ first)))
          c.take.ensures.first
    ]
