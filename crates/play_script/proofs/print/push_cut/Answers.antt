use Rattle.std.proofs.Common.{◌++◌, ◌∷◌, [], ◌∙◌, ap, codes, decimal}
use Rattle.play_script.specs.Words.{choice_word}
use Rattle.play_script.proofs.PushLaws.{word_more}
use Rattle.play_script.proofs.print.push_cut.Goals as goal

pub returns : goal.returns
returns c =
    let old = c.args.out.now.items in
    let two = c.in_ok-push_number.ensures ∙ word_more old c.push_visit.new.out.items (codes "cut") (decimal c.args.node ∷ []) (decimal c.args.calls) c.in_ok-push_visit.ensures in
    let three = c.in_ok-push_number-2.ensures ∙ word_more old c.push_number.new.out.items (codes "cut") (decimal c.args.node ∷ decimal c.args.calls ∷ []) (decimal c.args.made) two in
    rw (ap (λ word. c.push_number-2.new.out.items ++ 32 ∷ word) c.choice_word.ensures
    ∙ word_more old c.push_number-2.new.out.items (codes "cut") (decimal c.args.node ∷ decimal c.args.calls ∷ decimal c.args.made ∷ []) (choice_word c.args.cut) three) at c.push_word.ensures
