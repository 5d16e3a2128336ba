use Rattle.std.proofs.lemmas.Result.{on_ok_weaker}
use Rattle.play_actor.proofs.Stretches.{takes_mark}
use Rattle.play_actor.proofs.actions.take_mark.Goals as goal

pub returns-clause-takes : goal.returns-clause-takes
returns-clause-takes g c =
    let old = c.args.caller.now.log in
    on_ok_weaker c.lose_next.result (λ e w o idle free. takes_mark old.nodes w o old c.lose_next.new.self.log c.args.node c.args.call c.args.mute idle free e) c.lose_next.ensures.marked
