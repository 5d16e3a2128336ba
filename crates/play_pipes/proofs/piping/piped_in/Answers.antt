use Rattle.std.proofs.Common.{◌≡◌, [], ap, ◌∙◌, sym, subst, arith, length, map}
use Rattle.std.specs.List.{All}
use Rattle.std.proofs.lemmas.List.{length-map}
use Rattle.std.proofs.lemmas.List.Elements.{All-map}
use Rattle.play_pipes.specs.Calls.{Calls, Place, Start, joined}
use Rattle.play_pipes.specs.Ends.{EndView}
use Rattle.play_pipes.proofs.KeptLaws.{parts_same}
use Rattle.play_pipes.proofs.piping.piped_in.Goals as goal

pub run-requires-clause-empty : goal.run-requires-clause-empty
run-requires-clause-empty g c =
    subst (All (λ (l : Calls). l ≡ [])) (sym (ap (λ d. d.lists) c.new-desk.ensures)) (All-map (λ (l : Calls). l ≡ []) (λ (e : EndView). e.told) c.in_ok-ends.ends.items c.in_ok-ends.ensures.told)

pub returns : goal.returns
returns g c =
    let lists = c.run.new.desk.lists in
    let ends = c.into_ends.result.items in
    let starts : map (λ (e : EndView). e.start) ends ≡ map (λ x. (g.L.Line.place x, g.L.Line.calls x)) c.args.lines.items =
    c.into_ends.ensures.starts ∙ c.in-Ok.ensures.starts ∙ ap (λ d. d.starts) c.new-desk.ensures ∙ c.in_ok-ends.ensures.starts in
    let told : map (λ (e : EndView). e.told) ends ≡ lists = c.into_ends.ensures.lists in
    let a = ap length starts in
    let b = ap length told in
    let n₁ = length-map ends (λ (e : EndView). e.start) in
    let n₂ = length-map ends (λ (e : EndView). e.told) in
    let n₃ = length-map {B = Start} c.args.lines.items (λ x. (g.L.Line.place x, g.L.Line.calls x)) in
    let both = parts_same {X = Place} {Y = Calls} (λ (e : EndView). e.start) (λ x. (g.L.Line.place x, g.L.Line.calls x)) ends c.args.lines.items starts in (
      lists,
      omega (arith, a, b, n₁, n₂, n₃),
      c.in-Ok.ensures.ran,
      c.finish_all-lines.ensures.places ∙ both.0,
      c.finish_all-lines.ensures.calls ∙ (λ i. joined (both.1 i) (told i)),
    )
