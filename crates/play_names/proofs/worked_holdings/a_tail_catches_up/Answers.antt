use Rattle.std.proofs.Common.{refl}
use Rattle.edit_ops.specs.Reading.{field_at}
use Rattle.ns_edits.specs.Decoded.{op_from, edit_from, opcode_of, decoded}
use Rattle.ns_edits.specs.Admit.{admit_op, admit_of}
use Rattle.ns_edits.specs.Apply.{apply_op, apply_of}
use Rattle.ns_edits.specs.Replay.{entered, applied}
use Rattle.play_names.specs.Tails.{pass_begun, least_purged, pass_end, tail_hears}
use Rattle.play_names.specs.Examples.{with_u}
use Rattle.play_names.proofs.worked_holdings.a_tail_catches_up.Goals as goal

pub returns : goal.returns
unfolding field_at op_from edit_from opcode_of decoded admit_op admit_of apply_op apply_of entered applied pass_begun least_purged pass_end tail_hears with_u
returns c = record { applies = refl; ends = refl }
