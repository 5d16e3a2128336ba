use Rattle.journal_core.proofs.SegmentLaws.{open_is_led}
use Rattle.journal_core.proofs.laws.open_segment_is_led.Goals as goal

pub returns : goal.returns
returns c = open_is_led
