use Rattle.std.proofs.lemmas.Result.{on_ok_weaker}
use Rattle.play_actor.proofs.LineLaws.{busy_takes}
use Rattle.play_actor.proofs.unmoved.take_busy.Goals as goal

pub returns-in_ok-one_word-in-Tail-clause-takes : goal.returns-in_ok-one_word-in-Tail-clause-takes
returns-in_ok-one_word-in-Tail-clause-takes g c =
    let old = c.args.caller.now.log in
    let new = c.say_all.new.caller.log in
    on_ok_weaker c.say_all.result
    (λ said w h idle free writing.
    busy_takes old.nodes c.args.line.now w h old new c.in_ok-one_word-in-Tail.field-0.items idle free writing c.in-Tail.is c.in_ok-one_word-in-Tail.ensures said)
    c.say_all.ensures.leads

pub returns-in_default-clause-takes : goal.returns-in_default-clause-takes
returns-in_default-clause-takes g c = on_ok_weaker c.take_other.result (λ takes w h idle free writing. takes w h idle free) c.take_other.ensures.takes
