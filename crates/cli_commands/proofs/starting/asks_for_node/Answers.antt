use Rattle.cli_commands.specs.Commands.{node}
use Rattle.cli_commands.specs.Usage.{bytes_of}
use Rattle.cli_commands.proofs.WordLaws.{right_words}
use Rattle.cli_commands.proofs.starting.asks_for_node.Goals as goal

pub returns-in-Err : goal.returns-in-Err
returns-in-Err c = λ is. right_words (bytes_of c.args.words.now) node c.in-Err.field-0 (record { words_are = is; allowed = tt }) c.in-Err.ensures
