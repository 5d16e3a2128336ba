use Rattle.base_files.proofs.RecordLaws.{if_none, number_front}
use Rattle.base_files.proofs.grammar.read_number.Goals as goal

pub returns-clause-none : goal.returns-clause-none
returns-clause-none c = if_none c.read19.result _ _ (λ none n le is. none n le (number_front c.args.bytes.now n is)) c.read19.ensures.none
