use Rattle.std.proofs.Common.{◌≡◌, map}
use Rattle.std.specs.List.{AllZip}
use Rattle.play_names.specs.ImageDisks.{HoldsOn}
use Rattle.play_model.specs.Actor.{images_of}
use Rattle.play_actor.specs.Kept.{end_of}
use Rattle.play_actor.specs.Shown.{keeps}
use Rattle.play_actor.proofs.cluster.lists_of.Given as goal

abbrev pub invariant-loop-player : goal.invariant-loop-player
invariant-loop-player g l =
    (l.ends ≡ map (λ p. end_of (keeps g.A.Actor.seen p)) l.yielded) × (l.records.items ≡ map (λ p. p.log.past) l.yielded) × (l.plan ≡ map (λ p. p.log.marks) l.yielded)
    × AllZip HoldsOn l.disks.items (map (λ p. images_of (keeps g.A.Actor.seen p).holds) l.yielded)
