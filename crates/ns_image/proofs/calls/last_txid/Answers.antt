use Rattle.std.proofs.Common.{refl}
use Rattle.ns_image.proofs.CallLaws.{last_noted}
use Rattle.ns_image.proofs.calls.last_txid.Goals as goal

pub returns : goal.returns
returns c = last_noted c.args.calls.now _ refl
