use Rattle.std.proofs.Common.{◌≡◌, ◌+◌, ◌-◌, length}
use Rattle.journal_session.specs.Lines.{longest_input}
use Rattle.journal_session.proofs.ReaderLaws.{IsReading}
use Rattle.journal_session.proofs.line_reader.LineReader.read_line.Given as goal

-- what was read is held, and no LF is in it
abbrev pub invariant-loop-searched : goal.invariant-loop-searched
invariant-loop-searched g l = record {
  reading : IsReading l.fn.self l.self (g.S.Source.left l.fn.source) (g.S.Source.left l.source);
  faults : g.S.Source.faults l.source ≡ g.S.Source.faults l.fn.source;
}

-- how many bytes the input may still have
abbrev pub decreases-loop-searched : goal.decreases-loop-searched
decreases-loop-searched g l = longest_input - (l.self.taken + length l.self.held)
