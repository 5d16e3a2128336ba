use Rattle.pipe_seats.proofs.LineParts.{no_call, no_end}
use Rattle.pipe_seats.proofs.tagged_line.read_tagged.Goals as goal

pub returns-in_default-split_number-2 : goal.returns-in_default-split_number-2
returns-in_default-split_number-2 c =
    no_call c.args.line.now c.in-Some.after_sign.now c.in-Some-split_number.after_life.now c.in-Some-split_number.life
    c.in-Some-split_number.ensures.wide c.in-Some.ensures c.in-Some-split_number.ensures.number c.in_default-split_number-2.ensures.number

pub returns-in_default-strip_end : goal.returns-in_default-strip_end
returns-in_default-strip_end c =
    no_end c.args.line.now c.in-Some.after_sign.now c.in-Some-split_number.after_life.now c.in-Some-split_number-2.after_call.now
    c.in-Some-split_number.life c.in-Some-split_number-2.call c.in-Some-split_number.ensures.wide c.in-Some-split_number-2.ensures.wide
    c.in-Some.ensures c.in-Some-split_number.ensures.number c.in-Some-split_number-2.ensures.number c.in_default-strip_end.ensures
