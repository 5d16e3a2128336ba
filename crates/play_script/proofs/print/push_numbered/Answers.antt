use Rattle.std.proofs.Common.{◌∷◌, [], decimal}
use Rattle.play_script.proofs.PushLaws.{word_more}
use Rattle.play_script.proofs.print.push_numbered.Goals as goal

pub returns : goal.returns
returns c =
    rw (word_more c.args.out.now.items c.push_named.new.out.items c.args.keyword.now (c.args.name.now ∷ []) (decimal c.args.number) c.in_ok-push_named.ensures) at c.push_number.ensures
