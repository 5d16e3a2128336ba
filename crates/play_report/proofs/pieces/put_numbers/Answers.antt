use Rattle.std.proofs.Common.{arith, List, ℕ, ◌≡◌, ◌++◌, [], refl, sym, ap, ◌∙◌, append_assoc, append-nil, take-append-drop}
use Rattle.std.proofs.lemmas.Bool.Decides.{nat_tests}
use Rattle.std.proofs.lemmas.List.{nil_from_length}
use Rattle.journal_text.specs.Texts.{numbers_text}
use Rattle.play_report.proofs.PartLaws.{numbers-append}
use Rattle.play_report.proofs.TakerLaws.{two, same_as}
use Rattle.play_report.proofs.pieces.put_numbers.Goals as goal

pub loop-rest-init : goal.loop-rest-init
unfolding numbers_text
loop-rest-init g c = ([], refl, g.met.T.Taker.adds_none _)

pub loop-rest-preserved : goal.loop-rest-preserved
loop-rest-preserved g c =
    let before = c.loop-rest.invariant.0 in
    let front = c.split_at.result.0.now in
    let back = c.split_at.result.1.now in
    let whole : c.loop-rest.rest.now ≡ front ++ back = rw (c.split_at.ensures.front, c.split_at.ensures.back) (sym (take-append-drop _ c.loop-rest.rest.now)) in (
      before ++ front,
      append_assoc before front back ∙ ap (λ (xs : List ℕ). before ++ xs) (sym whole) ∙ c.loop-rest.invariant.1,
      two g.T.Taker.adds g.met.T.Taker.adds_more _ _ _ _ _ _ c.loop-rest.invariant.2 c.put_few.ensures (sym (numbers-append before front)),
    )

pub returns : goal.returns
returns g c =
    let before = c.loop-rest.invariant.0 in
    let none : c.loop-rest.rest.now ≡ [] = nil_from_length c.loop-rest.rest.now (grind (arith, nat_tests, c.loop-rest-test.ensures)) in
    let all : before ≡ c.args.numbers.now = sym (append-nil before) ∙ ap (λ (xs : List ℕ). before ++ xs) (sym none) ∙ c.loop-rest.invariant.1 in
    same_as g.T.Taker.adds g.met.T.Taker.adds_more _ _ _ _ c.loop-rest.invariant.2 (ap numbers_text all)
