use Rattle.std.proofs.Common.{subst}
use Rattle.journal_core.specs.declared.request.Request.{Request}
use Rattle.disk_effects.specs.Told.{state_with}
use Rattle.disk_recent.specs.Recent.{AsksRecent}
use Rattle.disk_node.proofs.acting.foretell.Goals as goal

pub returns-in-Fetch-clause-unread : goal.returns-in-Fetch-clause-unread
returns-in-Fetch-clause-unread g c = λ gs tells held asks. c.fetch.ensures.unread gs tells held
    (subst (λ (r : Request). AsksRecent c.args.memory.now.recent.start (state_with c.args.plan.now.front gs) r) c.in-Fetch.is asks)
