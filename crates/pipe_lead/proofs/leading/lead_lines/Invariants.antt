use Rattle.std.proofs.Common.{◌≡◌, ◌≤◌, true}
use Rattle.journal_session.specs.Reader.{to_come}
use Rattle.pipe_lead.specs.Leads.{most_used}
use Rattle.pipe_lead.proofs.LeadLaws.{LedSoFar, fresh_reader}
use Rattle.pipe_lead.proofs.leading.lead_lines.Given as goal

-- each line so far was taken, and what is told of it written; nothing failed
abbrev pub invariant-loop : goal.invariant-loop
invariant-loop g l = record {
  so_far : LedSoFar l.fn.seats.log.nodes (g.A.Actor.seen l.fn.by) (g.A.Actor.seen l.by) l.fn.seats l.seats (to_come fresh_reader (g.I.Source.left l.fn.source))
      (to_come l.reader (g.I.Source.left l.source))
      (g.P.Sink.taken l.fn.sink) (g.P.Sink.taken l.sink) true l.counter l.room.used;
  few : l.room.used ≤ most_used;
  anew : l.reader.taken ≡ 0;
  read : g.I.Source.faults l.source ≡ g.I.Source.faults l.fn.source;
  wrote : g.P.Sink.faults l.sink ≡ g.P.Sink.faults l.fn.sink;
  handed : g.P.Sink.kept_back l.fn.sink ≡ 0 → g.P.Sink.kept_back l.sink ≡ 0;
}
