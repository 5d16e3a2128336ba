use Rattle.play_standby.proofs.active.Active.enter.Goals as goal

pub returns-clause-entered : goal.returns-clause-entered
returns-clause-entered g c =
    λ images. record {
      writer = c.take_over-taken.new.writer;
      to = c.take_over-taken.new.standby;
      taken = c.take_over-taken.result;
      is = c.take_over-taken.ensures.taken images;
      answered = c.answer.ensures.answer;
    }

pub returns-clause-called : goal.returns-clause-called
returns-clause-called g c = λ some. c.take_over-taken.ensures.called (c.answer.ensures.memory some)
