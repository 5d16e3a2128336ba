use Rattle.cli_commands.proofs.OneListing.{one_listing_of_file, one_fault_of_file, not_both}
use Rattle.qj_cli.proofs.laws.files_have_one_listing.Goals as goal

pub returns : goal.returns
returns c = record { listing = one_listing_of_file; fault = one_fault_of_file; one = not_both }
