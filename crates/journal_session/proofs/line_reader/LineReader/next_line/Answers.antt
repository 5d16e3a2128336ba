use Rattle.journal_session.proofs.ReaderLaws.{next_of_cut}
use Rattle.journal_session.proofs.line_reader.LineReader.next_line.Goals as goal

pub returns-in-Some-clause-next : goal.returns-in-Some-clause-next
returns-in-Some-clause-next g c =
    next_of_cut c.take_line.result c.take_line.new.self.line c.args.self.now c.take_line.new.self (g.S.Source.left c.args.source.now) c.take_line.ensures.cut
