-- Lines are read as what was written.
use Rattle.list_back.proofs.Lines.{line_text, line_reads}
use Rattle.list_back.proofs.object_laws.lines_are_read.Goals as goal

pub returns-clause-text : goal.returns-clause-text
returns-clause-text c = line_text

pub returns-clause-value : goal.returns-clause-value
returns-clause-value c = line_reads
