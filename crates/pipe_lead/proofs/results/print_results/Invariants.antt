use Rattle.std.proofs.Common.{◌≡◌, take}
use Rattle.std.specs.List.{flat_map}
use Rattle.pipe_lead.specs.Leads.{result_text}
use Rattle.pipe_lead.proofs.results.print_results.Given as goal

-- the results so far are added
abbrev pub invariant-loop-listed : goal.invariant-loop-listed
invariant-loop-listed l = l.out.items ≡ flat_map result_text (take l.listed-index l.records)
