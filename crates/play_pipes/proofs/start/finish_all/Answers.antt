use Rattle.std.proofs.Common.{rules, ap, arith, length, length-append, [], ◌∷◌}
use Rattle.play_pipes.specs.Ends.{EndView}
use Rattle.play_pipes.proofs.KeptLaws.{given_more, started_more}
use Rattle.play_pipes.proofs.start.finish_all.Goals as goal

pub loop-end-preserved : goal.loop-end-preserved
loop-end-preserved g c =
    let inv = c.loop-end.invariant in
    let to = c.push_reserved.ensures.items in
    let n = ap length to in
    let n₁ = length-append c.loop-end.lines.items (c.finish.result ∷ []) in
    let n₂ = length-append c.loop-end.yielded (c.in-Some.end ∷ []) in
    let same = inv.3 in
    let room = inv.4 in
    let cap = c.push_reserved.ensures.capacity in (
      search rules,
      search rules,
      given_more g.L.Line.calls (λ (e : EndView). e.start.1) (λ
          (e : EndView). e.told) c.loop-end.lines.items c.push_reserved.new.self.items c.finish.result c.loop-end.yielded c.in-Some.end to inv.2 c.finish.ensures.calls,
      omega (arith, n, n₁, n₂, same),
      omega (arith, cap, room),
      started_more g.L.Line.place (λ (e : EndView). e.start.0) c.loop-end.lines.items c.push_reserved.new.self.items c.finish.result c.loop-end.yielded c.in-Some.end to inv.5 c.finish.ensures.place,
    )
