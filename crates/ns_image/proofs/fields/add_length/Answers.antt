use Rattle.ns_image.proofs.InodeLaws.{lengths_snoc}
use Rattle.ns_image.proofs.fields.add_length.Goals as goal

pub returns-clause-good : goal.returns-clause-good
returns-clause-good c = λ h. rw c.in_ok-push.ensures.items (lengths_snoc c.args.lengths.now.items c.in_ok-size.size h c.in_ok-size.ensures.good.0 c.in_ok-size.ensures.good.1)
