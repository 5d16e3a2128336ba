use Rattle.std.proofs.Common.{subst, sym}
use Rattle.list_oev.specs.Listed.{GivesText}
use Rattle.cli_commands.specs.Listing.{told_by}
use Rattle.cli_commands.proofs.list_command.segment_told.Goals as goal

pub returns-in-List-clause-text : goal.returns-in-List-clause-text
returns-in-List-clause-text c =
    λ start edits s. subst (λ t. GivesText (told_by t start edits) c.list.result) (sym c.in-List.is) (c.list.ensures.text start edits s)

pub returns-in-Stats-clause-text : goal.returns-in-Stats-clause-text
returns-in-Stats-clause-text c =
    λ start edits s. subst (λ t. GivesText (told_by t start edits) c.stats.result) (sym c.in-Stats.is) (c.stats.ensures.text start edits s)

pub returns-in-Json-clause-text : goal.returns-in-Json-clause-text
returns-in-Json-clause-text c =
    λ start edits s. subst (λ t. GivesText (told_by t start edits) c.json.result) (sym c.in-Json.is) (c.json.ensures.text start edits s)
