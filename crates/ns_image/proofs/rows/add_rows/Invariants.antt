use Rattle.ns_image.proofs.Stepping.{IsAmid}
use Rattle.ns_image.proofs.rows.add_rows.Given as goal

-- what is left to be read goes on from the rows so far
abbrev pub invariant-loop : goal.invariant-loop
invariant-loop g l = IsAmid g.S.RowSink.has_taken l.count l.counter l.fn.sink l.sink l.root l.bytes l.last l.directory l.rest
