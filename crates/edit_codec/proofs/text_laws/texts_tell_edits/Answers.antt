use Rattle.edit_codec.proofs.SayEdits.{one_edit}
use Rattle.edit_codec.proofs.text_laws.texts_tell_edits.Goals as goal

pub returns : goal.returns
returns c = one_edit
