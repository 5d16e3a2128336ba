use Rattle.edit_codec.specs.declared.said_text.ReadText.TheVariants as answers
use Rattle.edit_codec.proofs.SayEdits.{read_only}
use Rattle.edit_codec.proofs.reading_text.read_text.Goals as goal

pub returns-in-Ok-clause-only : goal.returns-in-Ok-clause-only
returns-in-Ok-clause-only c = λ e is. read_only c.args.text.now (answers.Edit c.in-Ok.edit) e c.in-Ok.ensures is
