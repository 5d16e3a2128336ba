-- Where there is a next line no read failed.
use Rattle.std.proofs.Common.{◌≡◌, ◌≢◌, ◌∙◌, None, Some, sym, ap}
use Rattle.journal_session.specs.declared.next.Next.{Next}
use Rattle.journal_session.specs.declared.next.Next.TheVariants as next
use Rattle.pipe_lead.specs.declared.lead_end.LeadEnd.TheVariants as lead_end
use Rattle.pipe_lead.specs.Leads.{end_of}

pub line_read : (of : Next) → end_of of ≡ None → of ≢ next.ReadFault
line_read of e fault = let ends : Some lead_end.ReadFault ≡ None = sym (ap end_of fault) ∙ e in cc ends
