use Rattle.writer_core.proofs.LeadLaws.{ok_leads}
use Rattle.writer_core.proofs.laws.ok_answers_lead.Goals as goal

pub returns : goal.returns
returns c = ok_leads
