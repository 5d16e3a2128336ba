use Rattle.std.proofs.Common.{◌∙◌}
use Rattle.journal_step.proofs.IndexLaws.{old_told}
use Rattle.journal_step.proofs.segment_index.is_old.Goals as goal

pub returns-clause-told : goal.returns-clause-told
returns-clause-told c = λ g h. c.entry_is_old.ensures ∙ old_told c.args.opened c.args.newest c.args.committed c.args.min g c.args.segment.now h
