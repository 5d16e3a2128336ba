use Rattle.std.proofs.Common.{arith}
use Rattle.play_threads.proofs.Steps.{notes}
use Rattle.play_threads.proofs.gate.note.Goals as goal

pub fetch_add-requires : goal.fetch_add-requires
fetch_add-requires g c =
    let own = c.requires.own in
    let w = own.1 in
    (own.0, omega arith, notes _ _ _ _ _ g.J.Noted.is (c.args.ask.now, c.args.answer.now) c.requires.inside c.requires.is)
