use Rattle.std.proofs.Common.{subst}
use Rattle.writer_calls.specs.declared.came.Came.{Came}
use Rattle.play_actor.specs.Came.{CameFits}
use Rattle.play_actor.proofs.actions.came_texts.Goals as goal

pub results-requires-clause-fits : goal.results-requires-clause-fits
results-requires-clause-fits c = (subst (λ (x : Came). CameFits c.args.edits x) c.in-Done.is c.requires).0

pub results-requires-clause-few : goal.results-requires-clause-few
results-requires-clause-few c = (subst (λ (x : Came). CameFits c.args.edits x) c.in-Done.is c.requires).1

pub results-requires-in-Aborted-clause-few : goal.results-requires-in-Aborted-clause-few
results-requires-in-Aborted-clause-few c = subst (λ (x : Came). CameFits c.args.edits x) c.in-Aborted.is c.requires

pub results-requires-in-EpochLimit-clause-few : goal.results-requires-in-EpochLimit-clause-few
results-requires-in-EpochLimit-clause-few c = subst (λ (x : Came). CameFits c.args.edits x) c.in-EpochLimit.is c.requires
