use Rattle.mesh_judge.proofs.PlanLaws.{ask_set}
use Rattle.mesh_judge.proofs.plans.take_copies.Goals as goal

pub returns-clause-rest : goal.returns-clause-rest
returns-clause-rest c k r = ask_set c.args.unmarked.now c.set.new.self c.in_ok-key.key.items c.args.node 0 c.args.request.now c.in_ok-key.ensures c.in_ok-set.ensures k r
