use Rattle.std.proofs.Common.{refl}
use Rattle.disk_frame.specs.Frames.{broken_rule}
use Rattle.disk_frame.proofs.worked.rules_are_broken.Goals as goal

pub returns-clause-good : goal.returns-clause-good
unfolding broken_rule
returns-clause-good c = refl

pub returns-clause-none : goal.returns-clause-none
unfolding broken_rule
returns-clause-none c = refl

pub returns-clause-most : goal.returns-clause-most
unfolding broken_rule
returns-clause-most c = refl

pub returns-clause-too_many : goal.returns-clause-too_many
unfolding broken_rule
returns-clause-too_many c = refl

pub returns-clause-empty : goal.returns-clause-empty
unfolding broken_rule
returns-clause-empty c = refl

pub returns-clause-longest : goal.returns-clause-longest
unfolding broken_rule
returns-clause-longest c = refl

pub returns-clause-too_long : goal.returns-clause-too_long
unfolding broken_rule
returns-clause-too_long c = refl

pub returns-clause-later : goal.returns-clause-later
unfolding broken_rule
returns-clause-later c = refl

pub returns-clause-last : goal.returns-clause-last
unfolding broken_rule
returns-clause-last c = refl

pub returns-clause-past : goal.returns-clause-past
unfolding broken_rule
returns-clause-past c = refl
