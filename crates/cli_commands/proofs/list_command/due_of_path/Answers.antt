use Rattle.std.proofs.Common.{ℕ, List, refl, subst}
use Rattle.ns_image.specs.Reading.{reading_of}
use Rattle.list_oiv.specs.declared.image_listing.PathListing.TheVariants.{Text, NoPath, BadBytes}
use Rattle.cli_commands.specs.Listing.{IsPathTold, LacksPath}
use Rattle.cli_commands.proofs.ListLaws.{path_due}
use Rattle.cli_commands.proofs.list_command.due_of_path.Goals as goal

pub returns-in-Text-clause-text : goal.returns-in-Text-clause-text
returns-in-Text-clause-text c = (
  c.requires,
  subst (λ (p : List ℕ). IsPathTold p c.args.bytes.now c.in-Text.text.items) c.as_bytes.ensures.value
      (path_due c.as_bytes.result.now c.args.bytes.now (Text c.in-Text.text) (reading_of c.args.bytes.now) refl c.in-Text.ensures.right),
)

pub returns-in-NoPath-clause-fault : goal.returns-in-NoPath-clause-fault
returns-in-NoPath-clause-fault c = (
  c.requires,
  subst (λ (p : List ℕ). LacksPath p c.args.bytes.now) c.as_bytes.ensures.value
      (path_due c.as_bytes.result.now c.args.bytes.now NoPath (reading_of c.args.bytes.now) refl c.in-NoPath.ensures.right),
)

pub returns-in-BadBytes-clause-fault : goal.returns-in-BadBytes-clause-fault
returns-in-BadBytes-clause-fault c =
    (c.requires, path_due c.as_bytes.result.now c.args.bytes.now (BadBytes c.in-BadBytes.place c.in-BadBytes.cause) (reading_of c.args.bytes.now) refl c.in-BadBytes.ensures.right)
