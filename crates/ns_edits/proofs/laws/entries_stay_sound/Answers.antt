use Rattle.ns_edits.proofs.Sounds.{entries_stay_sound}
use Rattle.ns_edits.proofs.laws.entries_stay_sound.Goals as goal

pub returns : goal.returns
returns c = entries_stay_sound
