use Rattle.std.proofs.Common.{◌≡◌, None, sym, subst}
use Rattle.journal_core.specs.Step.{fetch_refused}
use Rattle.journal_core.proofs.ServingLaws.{piece_fits}
use Rattle.journal_step.proofs.FetchLaws.{fetch_range}
use Rattle.journal_step.proofs.serving.fetch.Goals as goal

pub returns-clause-fits : goal.returns-clause-fits
returns-clause-fits c =
    let g = c.in-Some.segment.now in
    let range = fetch_range g c.args.from (subst (λ o. fetch_refused c.args.from o ≡ None) (sym c.in-Some.ensures.found) c.requires) in
    rw (c.in_ok-batch.ensures, c.new.ensures, c.in_ok-bodies.ensures) (piece_fits g c.args.from 256 c.in-Some.ensures.within range.0 range.1)
