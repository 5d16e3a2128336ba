use Rattle.std.proofs.Common.{append_assoc, rules}
use Rattle.journal_text.specs.Texts.{numbers_text}
use Rattle.journal_text.proofs.printing.put_asked.Goals as goal

pub returns-clause-ok : goal.returns-clause-ok
unfolding numbers_text
returns-clause-ok c = search (rules, append_assoc)
