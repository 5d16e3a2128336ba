use Rattle.disk_opening.proofs.StartLemmas.{start_added, none_added}
use Rattle.disk_opening.proofs.starts.push_start.Goals as goal

pub returns-in_ok-push-in-Some : goal.returns-in_ok-push-in-Some
returns-in_ok-push-in-Some c = let a = c.in_ok-push-in-Some.ensures.items in start_added c.args.name.now c.in-Some.start c.args.starts.now.items c.push.new.self.items c.in-Some.ensures a

pub returns-in-None : goal.returns-in-None
returns-in-None c = none_added c.args.name.now c.args.starts.now.items c.in-None.ensures
