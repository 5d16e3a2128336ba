use Rattle.std.proofs.Common.{◌≡◌, ◌∙◌, ℕ, List, ap, refl, subst, sym}
use Rattle.base_disk.specs.Calls.{Effect}
use Rattle.base_files.specs.Puts.{Disturbs}
use Rattle.disk_frame.specs.Frames.{frame_bytes}
use Rattle.disk_segment.specs.Names.{name_of, InProgress, Fresh}
use Rattle.disk_segment.specs.Places.{Places}
use Rattle.disk_segment.specs.Calls.{content_of}
use Rattle.disk_segment.proofs.PlacedAgain.{frame_effect}
use Rattle.disk_segment.proofs.repeating.place_frame.Goals as goal

pub returns-clause-place : goal.returns-clause-place
returns-clause-place g c = λ t.
    let frame = frame_bytes c.args.batch.now in
    let is : c.as_slice.result.now ≡ content_of c.first.result c.args.epoch frame =
    c.as_slice.ensures ∙ (c.put_header.ensures.content ∙ ap (λ (n : ℕ). content_of n c.args.epoch frame) (sym c.first.ensures)) in
    frame_effect c.args.epoch c.args.batch.now c.first.result frame c.place_content.result (g.D.DiskModel.view c.args.disk.now)
    (g.D.DiskModel.view c.place_content.new.disk) c.first.ensures refl c.requires.frame.good
    (subst (λ (l : List ℕ). Effect (Disturbs (name_of c.first.result Fresh))
    (Places (name_of c.first.result InProgress) (name_of c.first.result Fresh) l) c.place_content.result (g.D.DiskModel.view c.args.disk.now)
    (g.D.DiskModel.view c.place_content.new.disk)) is
    (c.place_content.ensures.place t))
