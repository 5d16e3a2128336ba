use Rattle.std.proofs.Common.{Some, sym, subst}
use Rattle.std.specs.Prelude.{IfOk, IfErr}
use Rattle.cli_commands.specs.Tools.{shown}
use Rattle.cli_commands.specs.Commands.{IsAllowedTool}
use Rattle.cli_commands.specs.Listing.{IsListing}
use Rattle.cli_commands.specs.Found.{IsReadFault}
use Rattle.cli_commands.proofs.list_command.due_of_bytes.Goals as goal

pub due_of_listing-requires-clause-numbers : goal.due_of_listing-requires-clause-numbers
due_of_listing-requires-clause-numbers c = subst (λ t. IsAllowedTool (shown t)) c.in-Back.is c.requires.tool

pub returns-in-Oev-clause-text : goal.returns-in-Oev-clause-text
returns-in-Oev-clause-text c = subst (λ t. IfOk c.due_of_segment.result (λ text. IsListing (shown t) (Some c.args.bytes.now) text.items)) (sym c.in-Oev.is) c.due_of_segment.ensures.text

pub returns-in-Oev-clause-fault : goal.returns-in-Oev-clause-fault
returns-in-Oev-clause-fault c = subst (λ t. IfErr c.due_of_segment.result (IsReadFault (shown t) c.args.bytes.now)) (sym c.in-Oev.is) c.due_of_segment.ensures.fault

pub returns-in-Oiv-clause-text : goal.returns-in-Oiv-clause-text
returns-in-Oiv-clause-text c = subst (λ t. IfOk c.due_of_image.result (λ text. IsListing (shown t) (Some c.args.bytes.now) text.items)) (sym c.in-Oiv.is) c.due_of_image.ensures.text

pub returns-in-Oiv-clause-fault : goal.returns-in-Oiv-clause-fault
returns-in-Oiv-clause-fault c = subst (λ t. IfErr c.due_of_image.result (IsReadFault (shown t) c.args.bytes.now)) (sym c.in-Oiv.is) c.due_of_image.ensures.fault

pub returns-in-Ls-clause-text : goal.returns-in-Ls-clause-text
returns-in-Ls-clause-text c = subst (λ t. IfOk c.due_of_path.result (λ text. IsListing (shown t) (Some c.args.bytes.now) text.items)) (sym c.in-Ls.is) c.due_of_path.ensures.text

pub returns-in-Ls-clause-fault : goal.returns-in-Ls-clause-fault
returns-in-Ls-clause-fault c = subst (λ t. IfErr c.due_of_path.result (IsReadFault (shown t) c.args.bytes.now)) (sym c.in-Ls.is) c.due_of_path.ensures.fault

pub returns-in-Back-clause-text : goal.returns-in-Back-clause-text
returns-in-Back-clause-text c = subst (λ t. IfOk c.due_of_listing.result (λ text. IsListing (shown t) (Some c.args.bytes.now) text.items)) (sym c.in-Back.is) c.due_of_listing.ensures.text

pub returns-in-Back-clause-fault : goal.returns-in-Back-clause-fault
returns-in-Back-clause-fault c = subst (λ t. IfErr c.due_of_listing.result (IsReadFault (shown t) c.args.bytes.now)) (sym c.in-Back.is) c.due_of_listing.ensures.fault
