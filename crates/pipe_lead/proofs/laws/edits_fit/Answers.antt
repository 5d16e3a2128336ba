use Rattle.pipe_lead.proofs.WidthLaws.{fits}
use Rattle.pipe_lead.proofs.laws.edits_fit.Goals as goal

pub returns : goal.returns
returns c = fits
