use Rattle.std.proofs.Common.{subst}
use Rattle.play_standby.specs.declared.entered.Entered.{Entered}
use Rattle.play_actor.specs.Entries.{StandsSo}
use Rattle.play_actor.proofs.takeovers.entered_node.Goals as goal

pub serving-requires : goal.serving-requires
serving-requires c = subst (λ (e : Entered). StandsSo e) c.in-Active.is c.requires

pub begin_again-requires : goal.begin_again-requires
begin_again-requires c = subst (λ (e : Entered). StandsSo e) c.in-Aborted.is c.requires

pub resting-requires : goal.resting-requires
resting-requires c = subst (λ (e : Entered). StandsSo e) c.in-EpochLimit.is c.requires

pub resting-requires-in-Behind : goal.resting-requires-in-Behind
resting-requires-in-Behind c = subst (λ (e : Entered). StandsSo e) c.in-Behind.is c.requires

pub resting-requires-in-Purged : goal.resting-requires-in-Purged
resting-requires-in-Purged c = subst (λ (e : Entered). StandsSo e) c.in-Purged.is c.requires
