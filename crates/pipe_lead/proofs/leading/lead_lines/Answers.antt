use Rattle.std.proofs.Common.{◌≡◌, ◌∙◌, None, Some, arith}
use Rattle.pipe_lead.specs.Leads.{end_of}
use Rattle.pipe_lead.proofs.EndLaws.{line_read}
use Rattle.pipe_seats.proofs.PipesGo.{pipes_go}
use Rattle.pipe_lead.proofs.LeadLaws.{lines_next, lines_end, lines_cut, lines_cut_later, lines_cut_rest, lines_out, later_at, at_rest}
use Rattle.pipe_lead.proofs.leading.lead_lines.Goals as goal

-- there is no next line
pub returns-in-Some-clause-led : goal.returns-in-Some-clause-led
returns-in-Some-clause-led g c =
    let is : end_of c.next_line.result ≡ Some c.in-Some.end = cc (c.in-Some.ensures, c.in-Some.is, c.end_at.ensures) in
    lines_end c.next_line.result c.in-Some.end c.next_line.new.self.line (g.A.Actor.seen c.args.by.now) (g.A.Actor.seen c.loop.by) c.args.seats.now c.loop.seats c.loop.reader c.next_line.new.self
    (g.I.Source.left c.args.source.now) (g.I.Source.left c.loop.source) (g.I.Source.left c.next_line.new.source) (g.P.Sink.taken c.args.sink.now) (g.P.Sink.taken c.loop.sink)
    c.loop.counter c.loop.room.used c.loop.invariant.so_far c.loop.invariant.few c.loop.invariant.anew c.next_line.ensures.next is

pub returns-in-Some-clause-later : goal.returns-in-Some-clause-later
returns-in-Some-clause-later g c = later_at c.in-Some.end c.args.seats.now c.loop.seats c.loop.invariant.so_far.later

pub returns-in-Some-clause-resting : goal.returns-in-Some-clause-resting
returns-in-Some-clause-resting g c = at_rest c.in-Some.end _ c.loop.invariant.so_far.resting

-- a line ends it
pub returns-in-Some-answer_in_time-clause-led : goal.returns-in-Some-answer_in_time-clause-led
returns-in-Some-answer_in_time-clause-led g c =
    let came : end_of c.next_line.result ≡ None = cc (c.in_default-end_at.ensures, c.in_default-end_at.is, c.end_at.ensures) in
    let line : c.line.result.now ≡ c.next_line.new.self.line = cc (c.line.ensures.bytes, c.count_anew.ensures.line) in
    lines_cut c.next_line.result c.in-Some-answer_in_time.end c.line.result.now (g.A.Actor.seen c.args.by.now) (g.A.Actor.seen c.loop.by) (g.A.Actor.seen c.answer_in_time.new.by)
    c.args.seats.now c.loop.seats c.answer_in_time.new.seats c.loop.reader c.next_line.new.self
    (g.I.Source.left c.args.source.now) (g.I.Source.left c.loop.source) (g.I.Source.left c.next_line.new.source)
    (g.P.Sink.taken c.args.sink.now) (g.P.Sink.taken c.loop.sink) (g.P.Sink.taken c.answer_in_time.new.sink) c.loop.counter c.loop.room.used _ c.loop.invariant.so_far c.loop.invariant.few c.next_line.ensures.next came line
    c.in-Some-answer_in_time.ensures.answered

pub returns-in-Some-answer_in_time-clause-later : goal.returns-in-Some-answer_in_time-clause-later
returns-in-Some-answer_in_time-clause-later g c =
    lines_cut_later c.in-Some-answer_in_time.end c.line.result.now (g.A.Actor.seen c.args.by.now) (g.A.Actor.seen c.loop.by) (g.A.Actor.seen c.answer_in_time.new.by) c.args.seats.now c.loop.seats
    c.answer_in_time.new.seats _ _ _ (g.P.Sink.taken c.loop.sink) (g.P.Sink.taken c.answer_in_time.new.sink) c.loop.counter c.loop.room.used _ c.loop.invariant.so_far
    c.in-Some-answer_in_time.ensures.answered

pub returns-in-Some-answer_in_time-clause-resting : goal.returns-in-Some-answer_in_time-clause-resting
returns-in-Some-answer_in_time-clause-resting g c =
    lines_cut_rest c.in-Some-answer_in_time.end c.line.result.now (g.A.Actor.seen c.loop.by) (g.A.Actor.seen c.answer_in_time.new.by) c.args.seats.now c.loop.seats
    c.answer_in_time.new.seats (g.P.Sink.taken c.loop.sink) (g.P.Sink.taken c.answer_in_time.new.sink) c.loop.room.used _ c.in-Some-answer_in_time.ensures.answered

pub returns-in-Some-answer_in_time-clause-no_write_fault : goal.returns-in-Some-answer_in_time-clause-no_write_fault
returns-in-Some-answer_in_time-clause-no_write_fault g c = λ n. c.in-Some-answer_in_time.ensures.no_write_fault (λ e. n (cc e)) ∙ c.loop.invariant.wrote

pub returns-in-Some-answer_in_time-clause-handed : goal.returns-in-Some-answer_in_time-clause-handed
returns-in-Some-answer_in_time-clause-handed g c = λ n z. c.in-Some-answer_in_time.ensures.handed (λ e. n (cc e)) (c.loop.invariant.handed z)

-- one line more
pub loop-preserved : goal.loop-preserved
loop-preserved g c =
    let came : end_of c.next_line.result ≡ None = cc (c.in_default-end_at.ensures, c.in_default-end_at.is, c.end_at.ensures) in
    let line : c.line.result.now ≡ c.next_line.new.self.line = cc (c.line.ensures.bytes, c.count_anew.ensures.line) in
    record {
      so_far = lines_next c.next_line.result c.line.result.now (g.A.Actor.seen c.args.by.now) (g.A.Actor.seen c.loop.by) (g.A.Actor.seen c.answer_in_time.new.by) c.args.seats.now c.loop.seats
          c.answer_in_time.new.seats c.loop.reader c.next_line.new.self c.count_anew.new.self (g.I.Source.left c.args.source.now) (g.I.Source.left c.loop.source)
          (g.I.Source.left c.next_line.new.source) (g.P.Sink.taken c.args.sink.now) (g.P.Sink.taken c.loop.sink) (g.P.Sink.taken c.answer_in_time.new.sink) c.loop.counter
          c.loop.room.used c.answer_in_time.new.room.used c.loop.invariant.so_far c.loop.invariant.few c.next_line.ensures.next came c.count_anew.ensures.held line
          c.in_default-answer_in_time.ensures.answered;
      few = c.in_default-answer_in_time.ensures.few;
      anew = c.count_anew.ensures.taken;
      read = c.next_line.ensures.no_fault (line_read c.next_line.result came) ∙ c.loop.invariant.read;
      wrote = c.in_default-answer_in_time.ensures.no_write_fault (λ e. cc e) ∙ c.loop.invariant.wrote;
      handed = λ z. c.in_default-answer_in_time.ensures.handed (λ e. cc e) (c.loop.invariant.handed z);
    }

-- no more lines can be counted
pub returns-clause-led : goal.returns-clause-led
returns-clause-led g c =
    lines_out (g.A.Actor.seen c.args.by.now) (g.A.Actor.seen c.loop.by) c.args.seats.now c.loop.seats c.loop.reader (g.I.Source.left c.args.source.now) (g.I.Source.left c.loop.source)
    (g.P.Sink.taken c.args.sink.now) (g.P.Sink.taken c.loop.sink) c.loop.counter c.loop.room.used c.loop.invariant.so_far c.loop.invariant.few (omega (arith, c.loop-test.false))

pub returns-clause-later : goal.returns-clause-later
returns-clause-later g c = pipes_go c.args.seats.now c.loop.seats c.loop.invariant.so_far.later

pub returns-clause-resting : goal.returns-clause-resting
returns-clause-resting g c = c.loop.invariant.so_far.resting
