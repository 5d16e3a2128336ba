use Rattle.std.proofs.Common.{refl}
use Rattle.writer_calls.specs.Mirrors.{hold_line}
use Rattle.writer_calls.proofs.examples.lines_are_held_once.Goals as goal

pub returns : goal.returns
unfolding hold_line
returns c = refl
