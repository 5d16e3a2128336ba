use Rattle.std.proofs.Common.{arith, refl}
use Rattle.play_report.proofs.PartLaws.{hex_nil, hex_written}
use Rattle.play_report.proofs.pieces.hex_digits.Goals as goal

pub loop-place-init : goal.loop-place-init
loop-place-init c = (refl, hex_nil)

pub loop-place-preserved : goal.loop-place-preserved
loop-place-preserved c =
    hex_written c.loop-place.digits c.args.bytes.now c.loop-place.place c.hex_digit.result c.hex_digit-in-loop-place.result c.loop-place.invariant.0 (omega arith) c.requires c.loop-place.invariant.1
    c.hex_digit.ensures c.hex_digit-in-loop-place.ensures
