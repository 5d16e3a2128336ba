use Rattle.std.proofs.Common.{refl}
use Rattle.edit_ops.specs.Reading.{field_at}
use Rattle.ns_edits.specs.Decoded.{op_from, edit_from, opcode_of, decoded}
use Rattle.ns_edits.specs.Admit.{admit_op, admit_of}
use Rattle.ns_edits.specs.Apply.{apply_op, apply_of}
use Rattle.ns_edits.specs.Replay.{entered, replay_from, replay}
use Rattle.ns_edits.specs.Examples.{called_edits, called_space}
use Rattle.ns_edits.proofs.examples.calls_are_noted.Goals as goal

pub returns : goal.returns
unfolding field_at op_from edit_from opcode_of decoded admit_op admit_of apply_op apply_of entered replay_from replay called_edits called_space
returns c = record { noted = refl; repeated = refl; other = refl; again = refl }
