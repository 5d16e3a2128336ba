use Rattle.std.proofs.Common.{rules, ap, sym, subst, arith, length, length-append, [], ◌∷◌, ◌≡◌}
use Rattle.std.specs.List.{All}
use Rattle.std.proofs.lemmas.List.Elements.{All-push}
use Rattle.play_pipes.specs.Calls.{Start}
use Rattle.play_pipes.specs.Ends.{EndView}
use Rattle.play_pipes.proofs.KeptLaws.{started_more}
use Rattle.play_pipes.proofs.start.start_some.Goals as goal

pub loop-line-preserved : goal.loop-line-preserved
loop-line-preserved g c =
    let inv = c.loop-line.invariant in
    let to = c.push_reserved.ensures.items in
    let n = ap length to in
    let n₁ = length-append c.loop-line.ends.items (c.in-Ok.end ∷ []) in
    let n₂ = length-append c.loop-line.yielded (c.in-Some.line ∷ []) in
    let same = inv.5 in
    let room = inv.6 in
    let cap = c.push_reserved.ensures.capacity in (
      search rules,
      search rules,
      subst (All (λ (e : EndView). e.waiting ≡ [])) (sym to) (All-push (λ (e : EndView). e.waiting ≡ []) c.loop-line.ends.items c.in-Ok.end inv.2 (ap (λ e. e.waiting) c.in-Ok.ensures)),
      subst (All (λ (e : EndView). e.told ≡ [])) (sym to) (All-push (λ (e : EndView). e.told ≡ []) c.loop-line.ends.items c.in-Ok.end inv.3 (ap (λ e. e.told) c.in-Ok.ensures)),
      started_more {X = Start} (λ (e : EndView). e.start) (λ x.
          (g.L.Line.place x, g.L.Line.calls x)) c.loop-line.ends.items c.push_reserved.new.self.items c.in-Ok.end c.loop-line.yielded c.in-Some.line to inv.4 (ap (λ e. e.start) c.in-Ok.ensures),
      omega (arith, n, n₁, n₂, same),
      omega (arith, cap, room),
    )
