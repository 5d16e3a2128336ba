use Rattle.run_safety.proofs.WorkedHalves.{purge_is_run, purge_is_from, first_gone, second_kept}
use Rattle.run_safety.proofs.examples.a_purge_keeps_its_segment.Goals as goal

pub returns : goal.returns
returns c = record { run = purge_is_run; from = purge_is_from; gone = first_gone; kept = second_kept }
