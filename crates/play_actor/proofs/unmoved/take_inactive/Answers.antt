use Rattle.std.proofs.Common.{Some, length, ap}
use Rattle.std.proofs.lemmas.Result.{on_ok_weaker}
use Rattle.play_model.specs.Actions.{kept_of}
use Rattle.play_actor.proofs.LineLaws.{takes_line}
use Rattle.play_actor.proofs.RefusedLaws.{roll_inactive, close_inactive, submits_inactive, trim_inactive}
use Rattle.play_actor.proofs.unmoved.take_inactive.Goals as goal

pub returns-in_ok-inactive_texts-in-Roll-clause-takes : goal.returns-in_ok-inactive_texts-in-Roll-clause-takes
returns-in_ok-inactive_texts-in-Roll-clause-takes g c =
    let old = c.args.caller.now.log in
    let new = c.say_all.new.caller.log in
    on_ok_weaker c.say_all.result
    (λ said w h idle free shut.
    takes_line old.nodes c.args.line.now _ (kept_of w (Some h) old) (kept_of w (Some h) new) c.in-Roll.is
    (roll_inactive old.nodes w h old new c.in_ok-inactive_texts-in-Roll.field-0.items idle free shut c.in_ok-inactive_texts-in-Roll.ensures said))
    c.say_all.ensures.leads

pub returns-in_ok-inactive_texts-in-Close-clause-takes : goal.returns-in_ok-inactive_texts-in-Close-clause-takes
returns-in_ok-inactive_texts-in-Close-clause-takes g c =
    let old = c.args.caller.now.log in
    let new = c.say_all-in-Close.new.caller.log in
    on_ok_weaker c.say_all-in-Close.result
    (λ said w h idle free shut.
    takes_line old.nodes c.args.line.now _ (kept_of w (Some h) old) (kept_of w (Some h) new) c.in-Close.is
    (close_inactive old.nodes w h old new c.in_ok-inactive_texts-in-Close.field-0.items idle free shut c.in_ok-inactive_texts-in-Close.ensures said))
    c.say_all-in-Close.ensures.leads

pub returns-in_ok-repeat_text-in-Edits-clause-takes : goal.returns-in_ok-repeat_text-in-Edits-clause-takes
returns-in_ok-repeat_text-in-Edits-clause-takes g c =
    let old = c.args.caller.now.log in
    let new = c.say_all-in-Edits.new.caller.log in
    on_ok_weaker c.say_all-in-Edits.result
    (λ said w h idle free shut.
    takes_line old.nodes c.args.line.now _ (kept_of w (Some h) old) (kept_of w (Some h) new) c.in-Edits.is
    (submits_inactive old.nodes w h old new c.in_ok-repeat_text-in-Edits.field-0.items idle free shut _ (length c.as_slice.result.now) c.in_ok-text-in-Edits.text
    (ap length c.as_slice.ensures) c.in_ok-text-in-Edits.ensures c.in_ok-repeat_text-in-Edits.ensures said))
    c.say_all-in-Edits.ensures.leads

pub returns-in_ok-one_word-in-Trim-clause-takes : goal.returns-in_ok-one_word-in-Trim-clause-takes
returns-in_ok-one_word-in-Trim-clause-takes g c =
    let old = c.args.caller.now.log in
    let new = c.say_all-in-Trim.new.caller.log in
    on_ok_weaker c.say_all-in-Trim.result
    (λ said w h idle free shut.
    takes_line old.nodes c.args.line.now _ (kept_of w (Some h) old) (kept_of w (Some h) new) c.in-Trim.is
    (trim_inactive old.nodes w h old new c.in_ok-one_word-in-Trim.field-0.items idle free shut _ c.in_ok-one_word-in-Trim.ensures said))
    c.say_all-in-Trim.ensures.leads

pub returns-in_default-clause-takes : goal.returns-in_default-clause-takes
returns-in_default-clause-takes g c = on_ok_weaker c.take_other.result (λ takes w h idle free shut. takes w h idle free) c.take_other.ensures.takes
