use Rattle.std.proofs.Common.{reverse}
use Rattle.std.proofs.lemmas.List.{reverse-append}
use Rattle.journal_history.specs.Entries.{now}
use Rattle.run_safety.proofs.Places.{Earlier-append}
use Rattle.run_safety.proofs.Oks.{newest_rises}
use Rattle.run_safety.proofs.laws.newest_never_falls.Goals as goal

pub returns : goal.returns
returns c = λ n xs ys i k run is. rw reverse-append (newest_rises n run.0 _ (rw reverse-append at run.1) i k (Earlier-append (reverse ys) (reverse xs)) now is)
