use Rattle.std.proofs.Common.{[], decimal}
use Rattle.play_script.proofs.PushLaws.{word_more}
use Rattle.play_script.proofs.print.push_visit.Goals as goal

pub returns : goal.returns
returns c =
    rw (word_more c.args.out.now.items c.extend_from_slice.new.self.items c.args.keyword.now [] (decimal c.args.node) c.in_ok-extend_from_slice.ensures.items) at c.push_number.ensures
