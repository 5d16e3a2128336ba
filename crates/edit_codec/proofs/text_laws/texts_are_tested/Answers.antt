use Rattle.edit_codec.proofs.TestLaws.{passes, edit_from}
use Rattle.edit_codec.proofs.text_laws.texts_are_tested.Goals as goal

pub returns-clause-edits : goal.returns-clause-edits
returns-clause-edits c = passes

pub returns-clause-others : goal.returns-clause-others
returns-clause-others c = edit_from
