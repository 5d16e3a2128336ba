use Rattle.mesh_judge.proofs.MarkLaws.{no_calls_yet}
use Rattle.mesh_judge.proofs.marking.no_calls.Goals as goal

pub returns : goal.returns
returns c plan = no_calls_yet c.args.nodes plan (record { next = c.in_ok-next.next; due = c.new-due.result }) c.in_ok-next.ensures c.new-due.ensures
