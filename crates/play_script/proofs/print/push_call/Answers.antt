use Rattle.std.proofs.Common.{◌∷◌, [], ◌∙◌, decimal}
use Rattle.play_script.proofs.PushLaws.{word_more}
use Rattle.play_script.proofs.print.push_call.Goals as goal

pub returns : goal.returns
returns c =
    let old = c.args.out.now.items in
    let keyword = c.args.keyword.now in
    let name = c.args.name.now in
    let two = c.in_ok-push_number.ensures ∙ word_more old c.push_named.new.out.items keyword (name ∷ []) (decimal c.args.node) c.in_ok-push_named.ensures in
    rw (word_more old c.push_number.new.out.items keyword (name ∷ decimal c.args.node ∷ []) (decimal c.args.call) two) at c.push_number-2.ensures
