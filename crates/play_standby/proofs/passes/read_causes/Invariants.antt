use Rattle.std.proofs.Common.{◌≡◌, map, take}
use Rattle.play_names.specs.Tails.{read_cause}
use Rattle.play_standby.proofs.passes.read_causes.Given as goal

abbrev pub invariant-loop-heard : goal.invariant-loop-heard
invariant-loop-heard l = l.causes ≡ map read_cause (take l.heard-index l.told)
