use Rattle.journal_text.proofs.WordLaws.{number_is}
use Rattle.journal_text.proofs.words.number_word.Goals as goal

pub returns-clause-number : goal.returns-clause-number
returns-clause-number c = number_is c.number_of.result c.args.word.now c.args.least c.number_of.ensures
