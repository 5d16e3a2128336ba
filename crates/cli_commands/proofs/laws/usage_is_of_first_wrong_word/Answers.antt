use Rattle.cli_commands.proofs.WordLaws.{first_wrong_word}
use Rattle.cli_commands.proofs.laws.usage_is_of_first_wrong_word.Goals as goal

pub returns : goal.returns
returns c = first_wrong_word
