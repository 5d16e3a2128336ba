use Rattle.std.proofs.Common.{rules, subst, sym, ap, ◌∙◌, ◌-◌, ◌++◌, ◌∷◌, [], set, get_or, map, arith, true≢false, length, length-append}
use Rattle.std.specs.Prelude.{Ok}
use Rattle.std.proofs.lemmas.List.{map-append}
use Rattle.std.specs.List.{All}
use Rattle.std.proofs.lemmas.List.Elements.{All-push}
use Rattle.journal_core.specs.Peers.{FitsHeard}
use Rattle.play_pipes.proofs.DeskLaws.{heard_more}
use Rattle.play_pipes.proofs.desk.hear_all.Goals as goal

pub loop-k-preserved-in_default : goal.loop-k-preserved-in_default
loop-k-preserved-in_default g c =
    let inv = c.loop-k.invariant in
    let e = c.index_mut.result.now in
    let i = get_or c.args.asked.now.nodes.now c.loop-k.k 0 - 1 in
    let n = inv.1 in
    let l = length-append inv.0 (c.hear.result ∷ []) in
    let few = inv.4 in (
      inv.0 ++ c.hear.result ∷ [],
      omega (arith, l, n),
      heard_more c.args.asked.now.nodes.now c.args.asked.now.request.now c.args.asked.now.count c.loop-k.k inv.0 c.hear.result c.args.ends.now.items c.loop-k.ends.items
          _ e c.requires.nodes c.requires.few inv.1
          (search rules) inv.2 c.index_mut.ensures.value
          (ap (set c.loop-k.ends.items i) c.hear.ensures.heard),
      λ f. absurd (true≢false f),
      omega (arith, few),
      inv.5,
      inv.6,
    )

pub loop-k-preserved : goal.loop-k-preserved
loop-k-preserved g c =
    let inv = c.loop-k.invariant in
    let e = c.index_mut.result.now in
    let i = get_or c.args.asked.now.nodes.now c.loop-k.k 0 - 1 in
    let n = inv.1 in
    let l = length-append inv.0 (c.hear.result ∷ []) in (
      inv.0 ++ c.hear.result ∷ [],
      omega (arith, l, n),
      heard_more c.args.asked.now.nodes.now c.args.asked.now.request.now c.args.asked.now.count c.loop-k.k inv.0 c.hear.result c.args.ends.now.items c.loop-k.ends.items
          _ e c.requires.nodes c.requires.few inv.1
          (search rules) inv.2 c.index_mut.ensures.value
          (ap (set c.loop-k.ends.items i) c.hear.ensures.heard),
      λ f. ap (λ x. x ++ c.hear.result ∷ []) (inv.3 f) ∙ ap (λ x. map (λ h. Ok h) c.loop-k.heards.items ++ x ∷ []) c.in-Ok.is
          ∙ sym (map-append (λ h. Ok h) c.loop-k.heards.items (c.in-Ok.heard ∷ []))
          ∙ ap (map (λ h. Ok h)) (sym c.push_reserved.ensures.items),
      (let few = inv.4 in let to = ap length c.push_reserved.ensures.items in let m = length-append c.loop-k.heards.items (c.in-Ok.heard ∷ []) in omega (arith, few, to, m)),
      (let room = inv.5 in let cap = c.push_reserved.ensures.capacity in omega (arith, room, cap)),
      subst (All (λ h. FitsHeard c.args.asked.now.request.now h)) (sym c.push_reserved.ensures.items) (All-push
          (λ h. FitsHeard c.args.asked.now.request.now h) c.loop-k.heards.items c.in-Ok.heard inv.6 c.in-Ok.ensures.fits),
    )
