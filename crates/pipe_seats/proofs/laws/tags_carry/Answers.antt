use Rattle.pipe_seats.proofs.TagLaws.{all_tags}
use Rattle.pipe_seats.proofs.laws.tags_carry.Goals as goal

pub returns : goal.returns
returns c = all_tags
