use Rattle.play_standby.proofs.ExactLaws.{submitted_exactly, synced_exactly, nothing_exactly, rolled_exactly, purged_exactly, closed_exactly}
use Rattle.play_standby.proofs.laws.refused_where_none_is_open.Goals as goal

pub returns-clause-submitted : goal.returns-clause-submitted
returns-clause-submitted c = submitted_exactly

pub returns-clause-synced : goal.returns-clause-synced
returns-clause-synced c = synced_exactly

pub returns-clause-nothing : goal.returns-clause-nothing
returns-clause-nothing c = nothing_exactly

pub returns-clause-rolled : goal.returns-clause-rolled
returns-clause-rolled c = rolled_exactly

pub returns-clause-purged : goal.returns-clause-purged
returns-clause-purged c = purged_exactly

pub returns-clause-closed : goal.returns-clause-closed
returns-clause-closed c = closed_exactly
