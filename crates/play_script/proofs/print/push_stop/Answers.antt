use Rattle.std.proofs.Common.{◌∷◌, [], ◌∙◌, codes, decimal}
use Rattle.play_script.proofs.PushLaws.{word_more}
use Rattle.play_script.proofs.print.push_stop.Goals as goal

pub returns : goal.returns
returns c =
    let old = c.args.out.now.items in
    let two = c.in_ok-push_number.ensures ∙ word_more old c.push_visit.new.out.items (codes "stop") (decimal c.args.node ∷ []) (decimal c.args.calls) c.in_ok-push_visit.ensures in
    rw (word_more old c.push_number.new.out.items (codes "stop") (decimal c.args.node ∷ decimal c.args.calls ∷ []) (decimal c.args.keep) two) at c.push_number-2.ensures
