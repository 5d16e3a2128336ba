use Rattle.edit_codec.proofs.TextWords.{worded}
use Rattle.edit_codec.proofs.text_laws.texts_are_words.Goals as goal

pub returns : goal.returns
returns c = worded
