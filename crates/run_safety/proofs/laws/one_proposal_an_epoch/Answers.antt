use Rattle.run_safety.proofs.Halves.{one_proposal, proposer_owns}
use Rattle.run_safety.proofs.laws.one_proposal_an_epoch.Goals as goal

pub returns-clause-one : goal.returns-clause-one
returns-clause-one c = λ n story past run i j epoch nodes others p q x y. one_proposal n story past run i j epoch nodes others p q x y

pub returns-clause-owner : goal.returns-clause-owner
returns-clause-owner c = λ n story past run old e takeover nodes request head majority x p is at. proposer_owns n story past run old e takeover nodes request head majority x p is at
