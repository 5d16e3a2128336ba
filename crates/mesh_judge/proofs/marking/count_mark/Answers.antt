use Rattle.std.proofs.Common.{◌≡◌, ap, ◌∙◌}
use Rattle.journal_history.specs.declared.mark.MarkKind.TheVariants as kind
use Rattle.mesh_judge.specs.Keys.{count_of}
use Rattle.mesh_judge.proofs.Deciding.{fails, holds}
use Rattle.mesh_judge.proofs.MarkLaws.{late_set, late_passed}
use Rattle.mesh_judge.proofs.marking.count_mark.Goals as goal

pub returns-then-not-is_late : goal.returns-then-not-is_late
returns-then-not-is_late c plan h = late_passed plan c.args.mark.now c.args.late.now (fails (c.args.mark.now.kind ≡ kind.Late) c.is_late.result c.if-not-is_late.true c.is_late.ensures) h

pub returns : goal.returns
returns c plan h =
    late_set plan c.args.mark.now c.args.late.now c.set.new.self c.in_ok-key.key.items c.get-count.result
    (holds (c.args.mark.now.kind ≡ kind.Late) c.is_late.result c.if-not-is_late.false c.is_late.ensures)
    c.in_ok-key.ensures.items (c.get-count.ensures ∙ ap (count_of c.args.late.now) c.as_slice.ensures.value) c.in_ok-set.ensures h
