use Rattle.std.proofs.Common.{◌∙◌}
use Rattle.std.proofs.KnownBytes.{Appends-nil}
use Rattle.pipe_serve.specs.Sessions.{written_to}
use Rattle.pipe_serve.proofs.LineLaws.{asked_fault, asked_well, asked_unwritten}
use Rattle.pipe_serve.proofs.session.serve_request.Goals as goal

pub returns-in-Some : goal.returns-in-Some
returns-in-Some g c = record {
  served = asked_fault g.N.SessionNode.asked c.args.call.now.life c.args.call.now.call c.args.call.now.text.now c.args.request.now c.ask-reply.result c.args.node.now c.ask-reply.new.self
      (written_to g.K.Sink.taken g.K.Sink.faults c.args.sink.now c.args.sink.now) c.requires.reads c.ask-reply.ensures.asked c.in-Some.end c.in-Some.ensures
      (Appends-nil (g.K.Sink.taken c.args.sink.now));
}

pub returns-in-Ok-write_all : goal.returns-in-Ok-write_all
returns-in-Ok-write_all g c = record {
  served = asked_well g.N.SessionNode.asked c.args.call.now.life c.args.call.now.call c.args.call.now.text.now c.args.request.now c.ask-reply.result c.args.node.now c.ask-reply.new.self
      (written_to g.K.Sink.taken g.K.Sink.faults c.args.sink.now c.write_all.new.sink) c.requires.reads c.ask-reply.ensures.asked c.deref.result.now c.in_default.ensures
      (c.deref.ensures.value ∙ c.in-Ok.ensures) c.in-Ok-write_all.ensures.all c.in-Ok-write_all.ensures.cause.ok;
}

pub returns : goal.returns
returns g c = record {
  served = asked_unwritten g.N.SessionNode.asked c.args.call.now.life c.args.call.now.call c.args.call.now.text.now c.args.request.now c.ask-reply.result c.args.node.now c.ask-reply.new.self
      (written_to g.K.Sink.taken g.K.Sink.faults c.args.sink.now c.write_all.new.sink) c.requires.reads c.ask-reply.ensures.asked c.deref.result.now c.in_default.ensures
      (c.deref.ensures.value ∙ c.in-Ok.ensures) c.in-Err.ensures.front c.in-Err.ensures.cause.failed;
}
