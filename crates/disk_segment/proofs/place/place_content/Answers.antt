use Rattle.std.proofs.Common.{◌∙◌, sym}
use Rattle.disk_segment.proofs.Frame.{fresh_apart}
use Rattle.disk_segment.proofs.place.place_content.Goals as goal

pub place_by-requires : goal.place_by-requires
place_by-requires g c = λ same. fresh_apart c.args.start (sym (c.as_str.ensures.value ∙ c.fresh_name-fresh.ensures) ∙ same ∙ c.as_str-2.ensures.value ∙ c.progress_name-name.ensures)
