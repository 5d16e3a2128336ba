use Rattle.play_script.proofs.EditLaws.{has_text, no_text}
use Rattle.play_script.proofs.edits.read_edit.Goals as goal

pub returns-in-Edit : goal.returns-in-Edit
returns-in-Edit c = has_text c.args.text.now c.in-Edit.edit c.in-Edit.ensures.right

pub returns-in-BadText : goal.returns-in-BadText
returns-in-BadText c = no_text c.args.text.now c.in-BadText.ensures.right
