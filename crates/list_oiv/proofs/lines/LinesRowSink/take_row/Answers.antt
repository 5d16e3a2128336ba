use Rattle.std.proofs.lemmas.Result.{on_ok_weaker}
use Rattle.list_oiv.proofs.Taking.{line_more}
use Rattle.list_oiv.proofs.lines.LinesRowSink.take_row.Goals as goal

pub returns : goal.returns
returns c rows taken = on_ok_weaker c.put_line.result (λ added. line_more rows c.args.row c.args.self.now.text.items c.put_line.new.out.items taken added) c.put_line.ensures
