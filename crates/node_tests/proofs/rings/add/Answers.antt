use Rattle.std.proofs.Common.{sym, ◌∙◌}
use Rattle.disk_recent.proofs.Kept.{follows_last, follows_none}
use Rattle.node_tests.proofs.rings.add.Goals as goal

pub push-requires-clause-follows : goal.push-requires-clause-follows
push-requires-clause-follows g c = follows_last c.args.cache.now.edits c.in-Some.last (sym c.last.ensures ∙ c.in-Some.is)

pub push-requires-in-None-clause-follows : goal.push-requires-in-None-clause-follows
push-requires-in-None-clause-follows g c = follows_none c.args.cache.now.edits c.args.first (sym c.last.ensures ∙ c.in-None.is)
