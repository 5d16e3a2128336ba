use Rattle.std.proofs.Common.{[], refl, ◌∙◌}
use Rattle.qj_cli.specs.Written.{at, gives_more}
use Rattle.qj_cli.proofs.WriteLaws.{swallows, waits}
use Rattle.qj_cli.proofs.written.WrittenBufferTaker.put.Goals as goal

pub returns-then-self : goal.returns-then-self
returns-then-self g c = (swallows (at g.K.Sink.taken g.K.Sink.faults c.args.self.now.sink.now c.args.self.now.buffer c.args.self.now.failed) c.args.piece.now c.if-self.true, refl)

pub returns-then-fits : goal.returns-then-fits
returns-then-fits g c = (waits (at g.K.Sink.taken g.K.Sink.faults c.args.self.now.sink.now c.args.self.now.buffer c.args.self.now.failed) c.add.new.self c.args.piece.now c.add.ensures, refl)

pub returns : goal.returns
returns g c = (gives_more _ _ _ [] c.args.piece.now c.send.ensures.gives c.take.ensures.gives, c.take.ensures.same ∙ c.send.ensures.same)
