use Rattle.writer_calls.proofs.quorum.QuorumWriter.close.Goals as goal

pub returns-clause-called : goal.returns-clause-called
returns-clause-called g c = λ some. c.run.ensures.called (λ e. some (c.of.ensures.memory e))
