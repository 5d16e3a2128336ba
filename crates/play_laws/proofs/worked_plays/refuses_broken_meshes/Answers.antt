use Rattle.play_laws.proofs.BrokenLaws.{lost, doubled, swapped, invented, kept, asked, unmade}
use Rattle.play_laws.proofs.worked_plays.refuses_broken_meshes.Goals as goal

pub returns : goal.returns
returns c = record { lost_line = lost; doubled_line = doubled; swapped_lines = swapped; made_up = invented; undropped = kept; asking_operator = asked; wrong_epoch = unmade }
