use Rattle.std.proofs.Common.{rules, refl, ap, ◌∙◌, ◌-◌, set, get_or}
use Rattle.play_pipes.specs.Ends.{put_one}
use Rattle.play_pipes.proofs.DeskLaws.{put_more}
use Rattle.play_pipes.proofs.desk.put_all.Goals as goal

pub loop-k-preserved : goal.loop-k-preserved
loop-k-preserved g c =
    let e = c.index_mut.result.now in
    let i = get_or c.args.nodes.now c.loop-k.k 0 - 1 in (
      refl,
      put_more c.args.nodes.now c.args.request.now c.loop-k.k c.args.ends.now.items c.loop-k.ends.items _ e c.requires.nodes (search rules) c.loop-k.invariant.1 c.index_mut.ensures.value
          (ap (set c.loop-k.ends.items i) (c.put.ensures ∙ ap (λ r. put_one r e) c.in-Ok.ensures)),
    )
