use Rattle.std.proofs.Common.{ℕ, List, subst}
use Rattle.list_oev.specs.Counts.{statistics}
use Rattle.list_oev.specs.Places.{IsRead}
use Rattle.list_oev.proofs.SoFar.{fresh_itself, fresh_header, no_header_read}
use Rattle.list_oev.proofs.tools.statistics_in.Goals as goal

pub statistics_of-requires : goal.statistics_of-requires
statistics_of-requires c = fresh_itself c.args.bytes.now c.in-Some.edits c.in-Some.ensures

pub returns-in-Some-clause-read : goal.returns-in-Some-clause-read
returns-in-Some-clause-read c = subst (λ (z : List ℕ). IsRead (λ start. statistics) z c.statistics_of.result) c.in-Some.ensures.same c.statistics_of.ensures

pub returns-in-None-clause-read : goal.returns-in-None-clause-read
returns-in-None-clause-read c = no_header_read (λ start. statistics) c.args.bytes.now c.no_header.result c.in-None.ensures c.no_header.ensures

pub returns-in-Some-clause-header : goal.returns-in-Some-clause-header
returns-in-Some-clause-header c = λ none. absurd (fresh_header c.args.bytes.now c.in-Some.edits c.in-Some.ensures none)
