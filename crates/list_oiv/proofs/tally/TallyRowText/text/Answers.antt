use Rattle.list_oiv.proofs.Counting.{sized}
use Rattle.list_oiv.proofs.tally.TallyRowText.text.Goals as goal

pub returns : goal.returns
returns c rows taken = sized c.args.self rows c.new-out.result.items c.put_tally.new.out.items taken.sizes c.new-out.ensures.items c.in_ok-put_tally.ensures
