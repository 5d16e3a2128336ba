use Rattle.ns_edits.proofs.Sounds.{spaces_stay_sound}
use Rattle.ns_edits.proofs.laws.spaces_stay_sound.Goals as goal

pub returns : goal.returns
returns c = spaces_stay_sound
