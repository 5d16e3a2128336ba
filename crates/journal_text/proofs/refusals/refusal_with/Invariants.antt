use Rattle.std.proofs.Common.{◌≡◌, drop}
use Rattle.std.specs.Prelude.{unwrap_or}
use Rattle.journal_text.specs.ReplyReading.{all_refusals, refusal_among}
use Rattle.journal_text.proofs.refusals.refusal_with.Given as goal

-- none of the causes so far is told so
abbrev pub invariant-loop-refusal : goal.invariant-loop-refusal
invariant-loop-refusal l = refusal_among (drop l.refusal-index l.refusal-items) l.number l.name l.field ≡ refusal_among (all_refusals (unwrap_or l.field 0)) l.number l.name l.field
