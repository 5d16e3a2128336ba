use Rattle.std.proofs.Common.{ℕ, Bool, subst}
use Rattle.pipe_seats.specs.Calls.{EndsView}
use Rattle.pipe_seats.specs.Opened.{came_as}
use Rattle.pipe_seats.specs.Wires.{pipes_of}
use Rattle.cli_commands.specs.Uses.{read_from, written_to}
use Rattle.cli_cluster.specs.Leads.{LeadsCluster}
use Rattle.cli_cluster.proofs.LeadLaws.{leads_cluster}
use Rattle.cli_cluster.proofs.lead_command.lead_cluster.Goals as goal

pub returns : goal.returns
returns g c =
    let source = read_from g.I.Source.left g.I.Source.faults c.args.source.now c.lead-end.new.source in
    let sink = written_to g.P.Sink.taken g.P.Sink.faults g.P.Sink.kept_back c.args.sink.now c.end_lead.new.sink in
    let came : ℕ → EndsView → Type 0 = came_as g.O.Opener.are_of g.S.Source.left g.K.Sink.taken in
    subst (λ (failed : Bool). LeadsCluster came failed c.args.by.now.actor c.lead-end.new.by.actor (pipes_of c.args.seats.now) (pipes_of c.lead-end.new.seats) source sink c.end_lead.result) c.has_failed.ensures
    (leads_cluster c.lead-end.result c.has_failed.result c.end_lead.result (g.P.Sink.taken c.lead-end.new.sink) (g.P.Sink.faults c.lead-end.new.sink) (g.P.Sink.kept_back c.lead-end.new.sink) sink
    c.end_lead.ensures came c.args.by.now.actor c.lead-end.new.by.actor (pipes_of c.args.seats.now) (pipes_of c.lead-end.new.seats) source c.lead-end.ensures.led c.lead-end.ensures.made c.lead-end.ensures.piped
    c.lead-end.ensures.opened c.lead-end.ensures.resting c.lead-end.ensures.read_fault c.lead-end.ensures.no_read_fault c.lead-end.ensures.write_fault c.lead-end.ensures.no_write_fault
    c.lead-end.ensures.handed)
