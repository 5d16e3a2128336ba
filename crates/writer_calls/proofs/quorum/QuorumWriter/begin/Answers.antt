use Rattle.std.proofs.Common.{ap, ◌∙◌}
use Rattle.writer_calls.specs.Led.{nodes_of}
use Rattle.writer_calls.proofs.Comes.{begins_ready, begins_nodes}
use Rattle.writer_calls.proofs.quorum.QuorumWriter.begin.Goals as goal

pub invariant_of-self : goal.invariant_of-self
invariant_of-self c = begins_ready c.args.task c.self.inside.writer.view c.begin.new.self.view c.begin.result c.self.invariant c.begin.ensures

pub returns-clause-nodes : goal.returns-clause-nodes
returns-clause-nodes c = begins_nodes c.args.task c.self.inside.writer.view c.begin.new.self.view c.begin.result c.begin.ensures ∙ ap nodes_of c.self.view_is
