use Rattle.journal_session.proofs.ReaderLaws.{line_after}
use Rattle.journal_session.proofs.line_reader.LineReader.read_line.Goals as goal

pub returns-in-Some-clause-next : goal.returns-in-Some-clause-next
returns-in-Some-clause-next g c =
    line_after c.take_line.result c.take_line.new.self.line c.args.self.now c.loop-searched.self c.read_more.new.self c.take_line.new.self
    (g.S.Source.left c.args.source.now) (g.S.Source.left c.loop-searched.source) (g.S.Source.left c.read_more.new.source)
    c.loop-searched.invariant.reading c.in-Bytes.ensures.read c.take_line.ensures.cut
