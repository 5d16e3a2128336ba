use Rattle.play_actor.proofs.Stretches.{said_led, on_ok_both}
use Rattle.play_actor.proofs.actions.say_all.Goals as goal

pub returns-clause-leads : goal.returns-clause-leads
returns-clause-leads g c =
    on_ok_both c.list_all.result (λ past marks. said_led c.args.caller.now.log c.list_all.new.caller.log c.args.texts.items past
    marks) c.list_all.ensures.past c.list_all.ensures.marks
