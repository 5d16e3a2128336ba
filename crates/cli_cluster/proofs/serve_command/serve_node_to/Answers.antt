use Rattle.pipe_serve.specs.Sessions.{read_from, written_to}
use Rattle.pipe_serve.specs.Trails.{at_pipes}
use Rattle.cli_cluster.proofs.ServeLaws.{left_over}
use Rattle.cli_cluster.proofs.serve_command.serve_node_to.Goals as goal

pub returns-in-Stopped-clause-shared : goal.returns-in-Stopped-clause-shared
returns-in-Stopped-clause-shared g c =
    left_over g.D.DiskModel (at_pipes g.P.Ports.are_of (read_from g.S.Source.left g.S.Source.faults) (written_to g.K.Sink.taken g.K.Sink.faults))
    c.args.disk c.args.clients c.in-Ok.node c.serve_clients-end.result.node
    c.in-Ok.ensures.tells_ok c.has_sound_disk.ensures c.in-Ok.ensures.opened c.in-Ok.ensures.moments_ok (λ s. (c.in-Ok.ensures.cause_ok.steady s).0) c.serve_clients-end.ensures.shared

pub returns-in-DiskFault-clause-shared : goal.returns-in-DiskFault-clause-shared
returns-in-DiskFault-clause-shared g c =
    left_over g.D.DiskModel (at_pipes g.P.Ports.are_of (read_from g.S.Source.left g.S.Source.faults) (written_to g.K.Sink.taken g.K.Sink.faults))
    c.args.disk c.args.clients c.in-Ok.node c.serve_clients-end.result.node
    c.in-Ok.ensures.tells_ok c.has_sound_disk.ensures c.in-Ok.ensures.opened c.in-Ok.ensures.moments_ok (λ s. (c.in-Ok.ensures.cause_ok.steady s).0) c.serve_clients-end.ensures.shared

pub returns-in-OutOfMemory-clause-shared : goal.returns-in-OutOfMemory-clause-shared
returns-in-OutOfMemory-clause-shared g c =
    left_over g.D.DiskModel (at_pipes g.P.Ports.are_of (read_from g.S.Source.left g.S.Source.faults) (written_to g.K.Sink.taken g.K.Sink.faults))
    c.args.disk c.args.clients c.in-Ok.node c.serve_clients-end.result.node
    c.in-Ok.ensures.tells_ok c.has_sound_disk.ensures c.in-Ok.ensures.opened c.in-Ok.ensures.moments_ok (λ s. (c.in-Ok.ensures.cause_ok.steady s).0) c.serve_clients-end.ensures.shared
