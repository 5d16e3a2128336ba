use Rattle.std.proofs.Common.{◌≡◌, ◌+◌, ◌++◌, ◌∷◌, [], ◌∙◌, sym, ap, arith, length, length-append}
use Rattle.play_threads.specs.Gathered.{numbered_from}
use Rattle.play_threads.proofs.ListLaws.{numbered_more}
use Rattle.play_threads.proofs.threads.jobs_of.Goals as goal

pub loop-seats-preserved : goal.loop-seats-preserved
loop-seats-preserved g c =
    let ys = c.loop-seats.yielded in
    let s = c.in-Some.seats in
    let at = c.loop-seats.invariant.0 in
    let l = length-append ys (s ∷ []) in
    let here : c.loop-seats.caller ≡ 0 + length ys = omega (arith, at) in (
      omega (arith, at, l),
      c.in_ok-push.ensures.items ∙ ap (λ xs. xs ++ (c.loop-seats.caller, s) ∷ []) c.loop-seats.invariant.1 ∙ ap (λ k. numbered_from 0 ys ++ (k, s) ∷ []) here ∙ sym (numbered_more 0 ys s),
    )
