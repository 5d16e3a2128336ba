use Rattle.std.proofs.Common.{List, subst, sym}
use Rattle.std.proofs.lemmas.Result.{on_ok_weaker}
use Rattle.disk_segment.specs.declared.segment_row.SegmentRow.{SegmentRow}
use Rattle.journal_core.specs.Effects.{segments_after}
use Rattle.disk_effects.specs.Told.{Tells}
use Rattle.disk_effects.specs.Due.{effect_of}
use Rattle.disk_effects.proofs.ApplyLaws.{after_told}
use Rattle.disk_effects.proofs.applying.apply.Goals as goal

pub returns-clause-told : goal.returns-clause-told
returns-clause-told c = λ gs t d.
    let r = c.args.request.now in
    on_ok_weaker c.apply_by.result
    (λ e. subst (λ (rows : List SegmentRow). Tells (segments_after gs (effect_of r c.args.effect)) rows) (sym e) (after_told r c.args.effect c.args.place gs c.args.table.now t d))
    c.apply_by.ensures.rows
