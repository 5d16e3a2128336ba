use Rattle.std.proofs.Common.{◌≡◌, take}
use Rattle.play_names.specs.Tails.{least_purged}
use Rattle.play_standby.proofs.passes.least_purged.Given as goal

abbrev pub invariant-loop-heard : goal.invariant-loop-heard
invariant-loop-heard l = l.least ≡ least_purged (take l.heard-index l.told)
