-- What each effect keeps of a list of segments: its starts, and that accepted segments hold an
-- edit.
use Rattle.std.proofs.Common.{◌≡◌, ◌≢◌, ℕ, ◌≤◌, ◌^◌, true, List, [], ◌∷◌, refl}
use Rattle.std.specs.Prelude.{Some}
use Rattle.base_words.proofs.StartLaws.{put_all, without_all, found_all}
use Rattle.journal_core.specs.declared.segment.Segment.{Segment}
use Rattle.journal_core.specs.Segments.{find_segment, put_segment, remove_segment, has_edit, any_body}
use Rattle.journal_core.proofs.PlaceLaws.{by_segments}
use Rattle.disk_segment.specs.RowsTell.{IsStart, AreStarts}
use Rattle.disk_files.specs.Durable.{IsFilled, AreFilled}

pub starts_put : (g : Segment) (gs : List Segment) → 1 ≤ g.start → g.start ≤ 2 ^ 62 → AreStarts gs → AreStarts (put_segment g gs)
starts_put g gs first small are = put_all by_segments IsStart g gs (first, small) are

pub starts_remove : (start : ℕ) (gs : List Segment) → AreStarts gs → AreStarts (remove_segment start gs)
starts_remove = without_all by_segments IsStart

pub starts_of : (start : ℕ) (gs : List Segment) (g : Segment) → AreStarts gs → find_segment start gs ≡ Some g → (1 ≤ g.start) × (g.start ≤ 2 ^ 62)
starts_of = found_all by_segments IsStart

pub filled_put : (g : Segment) (gs : List Segment) → (g.accepted ≡ true → has_edit g ≡ true) → AreFilled gs → AreFilled (put_segment g gs)
filled_put = put_all by_segments IsFilled

pub filled_remove : (start : ℕ) (gs : List Segment) → AreFilled gs → AreFilled (remove_segment start gs)
filled_remove = without_all by_segments IsFilled

pub filled_of : (start : ℕ) (gs : List Segment) (g : Segment) → AreFilled gs → find_segment start gs ≡ Some g → g.accepted ≡ true → has_edit g ≡ true
filled_of = found_all by_segments IsFilled

pub any_some : (xs : List (List ℕ)) → xs ≢ [] → any_body xs ≡ true
any_some [] ne = absurd (ne refl)
any_some (x ∷ xs) ne = refl
