use Rattle.std.proofs.Common.{◌≡◌, ◌+◌, ◌-◌, ◌^◌, []}
use Rattle.list_oev.specs.Entries.{entry_tokens}
use Rattle.list_oev.specs.Steps.{IsListedSoFar}
use Rattle.list_oev.proofs.tools.entries_of.Given as goal

abbrev pub invariant-loop-writer : goal.invariant-loop-writer
invariant-loop-writer l = record { listed : IsListedSoFar entry_tokens l.fn.edits.bytes l.edits l.writer.tokens; before : l.writer.before ≡ [] }

abbrev pub decreases-loop-writer : goal.decreases-loop-writer
decreases-loop-writer l = 2 ^ 62 + 1 - l.edits.ahead.txid
