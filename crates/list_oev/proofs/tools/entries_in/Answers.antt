use Rattle.std.proofs.Common.{ℕ, List, subst}
use Rattle.list_oev.specs.Entries.{entry_lines}
use Rattle.list_oev.specs.Places.{IsRead}
use Rattle.list_oev.proofs.SoFar.{fresh_itself, fresh_header, no_header_read}
use Rattle.list_oev.proofs.tools.entries_in.Goals as goal

pub entries_of-requires : goal.entries_of-requires
entries_of-requires c = fresh_itself c.args.bytes.now c.in-Some.edits c.in-Some.ensures

pub returns-in-Some-clause-read : goal.returns-in-Some-clause-read
returns-in-Some-clause-read c = subst (λ (z : List ℕ). IsRead entry_lines z c.entries_of.result) c.in-Some.ensures.same c.entries_of.ensures

pub returns-in-None-clause-read : goal.returns-in-None-clause-read
returns-in-None-clause-read c = no_header_read entry_lines c.args.bytes.now c.no_header.result c.in-None.ensures c.no_header.ensures

pub returns-in-Some-clause-header : goal.returns-in-Some-clause-header
returns-in-Some-clause-header c = λ none. absurd (fresh_header c.args.bytes.now c.in-Some.edits c.in-Some.ensures none)
