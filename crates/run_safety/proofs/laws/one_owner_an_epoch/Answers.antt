use Rattle.run_safety.proofs.Kept.{one_owner_an_epoch}
use Rattle.run_safety.proofs.laws.one_owner_an_epoch.Goals as goal

pub returns : goal.returns
returns c = λ n story past run xs ys x y p q head other at also is_p is_q has has_other same. one_owner_an_epoch n story past run xs ys x y p q head other at also is_p is_q has has_other same
