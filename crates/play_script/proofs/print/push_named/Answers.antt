use Rattle.std.proofs.Common.{[]}
use Rattle.play_script.proofs.PushLaws.{word_more}
use Rattle.play_script.proofs.print.push_named.Goals as goal

pub returns : goal.returns
returns c =
    rw (word_more c.args.out.now.items c.extend_from_slice.new.self.items c.args.keyword.now [] c.args.name.now c.in_ok-extend_from_slice.ensures.items) at c.push_word.ensures
