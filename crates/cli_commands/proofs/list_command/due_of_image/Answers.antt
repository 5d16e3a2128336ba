use Rattle.std.proofs.Common.{refl}
use Rattle.ns_image.specs.Reading.{reading_of}
use Rattle.list_oiv.specs.declared.image_listing.ImageListing.TheVariants.{Text}
use Rattle.cli_commands.specs.Listing.{rows_told_by}
use Rattle.cli_commands.proofs.ListLaws.{image_text, image_fault}
use Rattle.cli_commands.proofs.list_command.due_of_image.Goals as goal

pub returns-in-Text-clause-text : goal.returns-in-Text-clause-text
returns-in-Text-clause-text c = (c.requires, image_text (rows_told_by c.args.of) c.args.bytes.now (Text c.in-Text.text) (reading_of c.args.bytes.now) refl c.in-Text.ensures)

pub returns-in-BadBytes-clause-fault : goal.returns-in-BadBytes-clause-fault
returns-in-BadBytes-clause-fault c =
    (c.requires, image_fault (rows_told_by c.args.of) c.args.bytes.now c.in-BadBytes.place c.in-BadBytes.cause (reading_of c.args.bytes.now) refl c.in-BadBytes.ensures)
