use Rattle.std.proofs.lemmas.Result.{on_ok_weaker}
use Rattle.list_oiv.proofs.Taking.{entry_more}
use Rattle.list_oiv.proofs.entries.EntriesRowSink.take_row.Goals as goal

pub returns : goal.returns
returns c rows taken = on_ok_weaker c.put_row.result (λ added. entry_more rows c.args.row c.args.self.now.writer c.put_row.new.writer taken added) c.put_row.ensures
