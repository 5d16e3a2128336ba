use Rattle.std.proofs.Common.{◌∙◌, subst, None, Some, arith}
use Rattle.std.proofs.KnownBytes.{Appends-nil}
use Rattle.pipe_serve.specs.Sessions.{IsServed, read_from, written_to}
use Rattle.pipe_serve.proofs.SessionLaws.{begun, one_more, session_ends, session_stops, session_none, session_counted}
use Rattle.pipe_serve.proofs.session.serve_session.Goals as goal

pub returns-in_default : goal.returns-in_default
returns-in_default g c =
    session_none g.N.SessionNode.asked c.args.node.now (read_from g.S.Source.left g.S.Source.faults c.args.source.now c.args.source.now)
    (written_to g.K.Sink.taken g.K.Sink.faults c.args.sink.now c.args.sink.now) (Appends-nil (g.K.Sink.taken c.args.sink.now))

pub loop-answered-init : goal.loop-answered-init
loop-answered-init g c =
    begun g.N.SessionNode.asked c.in-Ok.reader c.args.node.now (g.S.Source.left c.args.source.now) (g.K.Sink.taken c.args.sink.now)
    (g.S.Source.faults c.args.source.now) (g.K.Sink.faults c.args.sink.now) c.in-Ok.ensures.held c.in-Ok.ensures.taken

pub loop-answered-preserved : goal.loop-answered-preserved
loop-answered-preserved g c =
    let at = c.loop-answered in
    let read = c.next_line-next in
    let served = subst (λ s. IsServed g.N.SessionNode.asked None c.line.result.now at.node c.serve_line.new.node (written_to g.K.Sink.taken g.K.Sink.faults s c.serve_line.new.sink))
    c.in_default-end_at.ensures.still c.in_default-serve_line.ensures.served in
    one_more g.N.SessionNode.asked at._answered at.reader read.new.self c.args.node.now at.node
    (g.S.Source.left c.args.source.now) (g.S.Source.left at.source) (g.S.Source.left read.new.source)
    (g.K.Sink.taken c.args.sink.now) (g.K.Sink.taken at.sink) (g.K.Sink.taken c.serve_line.new.sink)
    (g.S.Source.faults c.args.source.now) (g.S.Source.faults at.source) (g.S.Source.faults read.new.source)
    (g.K.Sink.faults c.args.sink.now) (g.K.Sink.faults at.sink) (g.K.Sink.faults c.serve_line.new.sink)
    at.invariant c.count_anew.new.self c.serve_line.new.node read.result c.line.result.now c.in_default-end_at.ensures.line read.ensures.next read.ensures.no_fault
    c.count_anew.ensures.held c.count_anew.ensures.line c.count_anew.ensures.taken c.line.ensures.bytes served

pub returns-in-Some : goal.returns-in-Some
returns-in-Some g c =
    let at = c.loop-answered in
    let read = c.next_line-next in
    session_ends g.N.SessionNode.asked at._answered at.reader read.new.self c.args.node.now at.node
    (g.S.Source.left c.args.source.now) (g.S.Source.left at.source) (g.S.Source.left read.new.source)
    (g.K.Sink.taken c.args.sink.now) (g.K.Sink.taken at.sink) (g.K.Sink.taken c.end_at.new.sink)
    (g.S.Source.faults c.args.source.now) (g.S.Source.faults at.source) (g.S.Source.faults read.new.source)
    (g.K.Sink.faults c.args.sink.now) (g.K.Sink.faults at.sink) (g.K.Sink.faults c.end_at.new.sink)
    at.invariant read.result c.in-Some.end c.in-Some.ensures.end read.ensures.next read.ensures.fault c.in-Some.ensures.front

pub returns-in-Some-serve_line : goal.returns-in-Some-serve_line
returns-in-Some-serve_line g c =
    let at = c.loop-answered in
    let read = c.next_line-next in
    let cut = subst (λ s. IsServed g.N.SessionNode.asked (Some c.in-Some-serve_line.end) c.line.result.now at.node c.serve_line.new.node
    (written_to g.K.Sink.taken g.K.Sink.faults s c.serve_line.new.sink))
    c.in_default-end_at.ensures.still c.in-Some-serve_line.ensures.served in
    session_stops g.N.SessionNode.asked at._answered at.reader read.new.self c.args.node.now at.node
    (g.S.Source.left c.args.source.now) (g.S.Source.left at.source) (g.S.Source.left read.new.source)
    (g.K.Sink.taken c.args.sink.now) (g.K.Sink.taken at.sink) (g.K.Sink.taken c.serve_line.new.sink)
    (g.S.Source.faults c.args.source.now) (g.S.Source.faults at.source) (g.S.Source.faults read.new.source)
    (g.K.Sink.faults c.args.sink.now) (g.K.Sink.faults at.sink) (g.K.Sink.faults c.serve_line.new.sink)
    at.invariant c.in-Some-serve_line.end c.line.result.now c.serve_line.new.node read.result c.in_default-end_at.ensures.line read.ensures.next
    (c.line.ensures.bytes ∙ c.count_anew.ensures.line) cut

pub returns : goal.returns
returns g c =
    session_counted g.N.SessionNode.asked c.loop-answered._answered c.loop-answered.reader c.args.node.now c.loop-answered.node
    (read_from g.S.Source.left g.S.Source.faults c.args.source.now c.loop-answered.source) (written_to g.K.Sink.taken g.K.Sink.faults c.args.sink.now c.loop-answered.sink)
    c.loop-answered.invariant (omega (arith, c.loop-answered-test.false, c.loop-answered.auto._answered-end))
