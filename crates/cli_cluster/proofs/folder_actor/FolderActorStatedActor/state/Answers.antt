use Rattle.std.proofs.Common.{ap, subst}
use Rattle.pipe_lead.specs.declared.lead_state.LeadState.TheVariants as state
use Rattle.pipe_lead.specs.States.{IsInState}
use Rattle.cli_cluster.proofs.StateLaws.{standby_state, broken_state}
use Rattle.cli_cluster.proofs.folder_actor.FolderActorStatedActor.state.Goals as goal

pub returns-in-Some-standby : goal.returns-in-Some-standby
returns-in-Some-standby g c =
    subst (IsInState (state.Standby c.position.result)) (ap (λ v. v.actor) c.self.view_is) (standby_state _ _ _ c.in-Some-standby.ensures c.position.ensures.position)

pub returns-in-None : goal.returns-in-None
returns-in-None g c = subst (IsInState state.Broken) (ap (λ v. v.actor) c.self.view_is) (broken_state _ c.in_default.ensures c.in-None.ensures)
