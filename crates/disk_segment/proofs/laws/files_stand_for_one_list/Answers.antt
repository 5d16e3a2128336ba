use Rattle.disk_segment.proofs.HeldOnce.{found_once, one_list}
use Rattle.disk_segment.proofs.laws.files_stand_for_one_list.Goals as goal

pub returns : goal.returns
returns c = λ files gs hs is also sound starts other_sound other_starts.
    one_list gs hs sound.rising other_sound.rising starts other_starts (λ start first small. found_once files gs hs is also start first small)
