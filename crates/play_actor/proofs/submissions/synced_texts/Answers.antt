use Rattle.std.proofs.Common.{subst}
use Rattle.play_standby.specs.declared.synced.Synced.{Synced}
use Rattle.play_actor.specs.Submitting.{FitsSynced}
use Rattle.play_actor.proofs.submissions.synced_texts.Goals as goal

pub logged_results-requires : goal.logged_results-requires
logged_results-requires c = subst (λ (x : Synced). FitsSynced x) c.in-Acked.is c.requires
