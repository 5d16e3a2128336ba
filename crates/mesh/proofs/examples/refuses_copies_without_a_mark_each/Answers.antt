use Rattle.std.proofs.Common.{◌<◌, ◌≤◌, arith}
use Rattle.journal_core.specs.declared.request.Request.TheVariants.{Manifest}
use Rattle.mesh.specs.Marks.{same_kind, calls_to, is_copy_of, asked_in, is_request, is_late_of, IsMarked}
use Rattle.mesh.specs.Examples.{two_marks, copied_once, copied_early}
use Rattle.mesh.proofs.examples.refuses_copies_without_a_mark_each.Goals as goal

pub returns-clause-few : goal.returns-clause-few
unfolding two_marks copied_once same_kind calls_to is_copy_of asked_in is_request is_late_of
returns-clause-few c h = let e : 2 ≤ 1 = h 1 Manifest in omega (arith, e)

pub returns-clause-early : goal.returns-clause-early
unfolding two_marks copied_early same_kind calls_to is_copy_of asked_in is_request is_late_of IsMarked
returns-clause-early c h = let e : 1 < 1 = h.1.1.0 in omega (arith, e)
