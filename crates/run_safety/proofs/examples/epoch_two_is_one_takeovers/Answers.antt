use Rattle.run_safety.proofs.WorkedHalves.{took_two, one_takeover}
use Rattle.run_safety.proofs.examples.epoch_two_is_one_takeovers.Goals as goal

pub returns : goal.returns
returns c = record { took = took_two; one = one_takeover }
