use Rattle.std.proofs.Common.{refl, lit≤, [], ◌∷◌, arith}
use Rattle.disk_frame.specs.Frames.{frame_bytes, broken_rule}
use Rattle.disk_frame.specs.Examples.{one_edit}
use Rattle.disk_frame.proofs.worked.an_open_frame_counts.Goals as goal

pub returns-clause-open : goal.returns-clause-open
unfolding frame_bytes broken_rule
returns-clause-open c = record {
  frames = record { batches = one_edit ∷ []; in_order = (refl, tt); bodies_are = refl; spelled = refl; there = lit≤ tt };
  tail = tt;
}

pub returns-clause-closed : goal.returns-clause-closed
returns-clause-closed c = record {
  frames = record { batches = []; in_order = tt; bodies_are = refl; spelled = refl; there = lit≤ tt };
  tail = λ e. omega (arith, e);
}

pub returns-clause-nearly_open : goal.returns-clause-nearly_open
returns-clause-nearly_open c = record {
  frames = record { batches = []; in_order = tt; bodies_are = refl; spelled = refl; there = lit≤ tt };
  tail = λ e. omega (arith, e);
}
