use Rattle.std.proofs.Common.{rules, arith, ◌++◌, ◌∷◌, [], List, map, sym, subst}
use Rattle.std.specs.List.{AllZip}
use Rattle.std.proofs.lemmas.Grind.{common_steps}
use Rattle.std.proofs.lemmas.List.{map-append}
use Rattle.base_disk.specs.declared.mem_disk.MemDisk.{MemDisk}
use Rattle.ns_edits.specs.Replay.{Image}
use Rattle.play_names.specs.ImageDisks.{HoldsOn}
use Rattle.play_model.specs.Actor.{images_of}
use Rattle.play_actor.specs.Shown.{keeps}
use Rattle.play_actor.proofs.ClusterLaws.{disk_more}
use Rattle.play_actor.proofs.cluster.lists_of.Goals as goal

pub loop-player-preserved : goal.loop-player-preserved
loop-player-preserved g c =
    let l = c.loop-player in
    let kept : List Image = images_of (g.A.Actor.seen c.in-Some.player.actor).holds in (
      first_of (search rules, grind (arith, common_steps)),
      first_of (search rules, grind (arith, common_steps)),
      first_of (search rules, grind (arith, common_steps)),
      subst (λ (is : List (List Image)). AllZip HoldsOn c.push-in-loop-player-3.new.self.items is)
          (sym (map-append (λ p. images_of (keeps g.A.Actor.seen p).holds) l.yielded (c.in-Some.player ∷ [])))
          (subst (λ (ds : List MemDisk). AllZip HoldsOn ds (map (λ p. images_of (keeps g.A.Actor.seen p).holds) l.yielded ++ kept ∷ [])) (sym c.in_ok-push-4.ensures.items)
          (disk_more l.disks.items (map (λ p. images_of (keeps g.A.Actor.seen p).holds) l.yielded) c.in_ok-last.field-0.images kept l.invariant.3 c.in_ok-last.ensures.images)),
    )
