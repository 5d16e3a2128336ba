use Rattle.list_oiv.specs.Sizes.{sizes}
use Rattle.list_oiv.proofs.OneAnswer.{gives_text, gives_fault}
use Rattle.list_oiv.proofs.tools.sizes.Goals as goal

pub returns-clause-text : goal.returns-clause-text
returns-clause-text c = gives_text sizes c.args.bytes.now c.answer.result c.answer.ensures.right

pub returns-clause-fault : goal.returns-clause-fault
returns-clause-fault c = gives_fault sizes c.args.bytes.now c.answer.result c.answer.ensures.right
