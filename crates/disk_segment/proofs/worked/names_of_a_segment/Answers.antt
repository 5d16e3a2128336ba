use Rattle.std.proofs.Common.{refl, ap, arith, List, ℕ, ◌++◌}
use Rattle.std.specs.Prelude.{codes}
use Rattle.std.proofs.lemmas.Fmt.{decimal_digit}
use Rattle.base_words.specs.Padded.{padded}
use Rattle.disk_segment.specs.Names.{name_of}
use Rattle.disk_segment.proofs.worked.names_of_a_segment.Goals as goal

pub returns-clause-in_progress : goal.returns-clause-in_progress
unfolding padded name_of
returns-clause-in_progress c = refl

pub returns-clause-final_ : goal.returns-clause-final_
unfolding padded name_of
returns-clause-final_ c = refl

pub returns-clause-record_ : goal.returns-clause-record_
unfolding padded name_of
returns-clause-record_ c = refl

pub returns-clause-under_way : goal.returns-clause-under_way
unfolding padded name_of
returns-clause-under_way c = ap (λ (l : List ℕ). codes "edits_inprogress_" ++ (padded 19 1 ++ (codes ".epoch=" ++ l))) (decimal_digit 2 (omega arith))

pub returns-clause-fresh : goal.returns-clause-fresh
unfolding padded name_of
returns-clause-fresh c = refl

pub returns-clause-fresh_record : goal.returns-clause-fresh_record
unfolding padded name_of
returns-clause-fresh_record c = refl
