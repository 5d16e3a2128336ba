use Rattle.std.proofs.Common.{subst, sym}
use Rattle.list_oiv.specs.Listed.{IsListed}
use Rattle.cli_commands.specs.Listing.{rows_told_by}
use Rattle.cli_commands.proofs.list_command.image_told.Goals as goal

pub returns-in-Delimited : goal.returns-in-Delimited
returns-in-Delimited c = subst (λ t. IsListed (rows_told_by t) c.args.bytes.now c.list_delimited.result) (sym c.in-Delimited.is) c.list_delimited.ensures.right

pub returns-in-Sizes : goal.returns-in-Sizes
returns-in-Sizes c = subst (λ t. IsListed (rows_told_by t) c.args.bytes.now c.sizes.result) (sym c.in-Sizes.is) c.sizes.ensures.right

pub returns-in-Json : goal.returns-in-Json
returns-in-Json c = subst (λ t. IsListed (rows_told_by t) c.args.bytes.now c.json.result) (sym c.in-Json.is) c.json.ensures.right
