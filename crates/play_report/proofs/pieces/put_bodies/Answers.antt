use Rattle.std.proofs.Common.{arith, ◌∙◌, ap, ◌++◌, List, ℕ, ◌∷◌, ◌≡◌, length, sym, get_or, take, ◌+◌}
use Rattle.base_words.specs.Hex.{hex_text}
use Rattle.journal_text.specs.Texts.{bodies_text}
use Rattle.journal_text.proofs.PrintLaws.{bodies_more}
use Rattle.play_report.proofs.TakerLaws.{two}
use Rattle.play_report.proofs.pieces.put_bodies.Goals as goal

pub loop-body-init : goal.loop-body-init
unfolding bodies_text
loop-body-init g c = g.met.T.Taker.adds_none _

pub loop-body-preserved : goal.loop-body-preserved
loop-body-preserved g c =
    let i = c.loop-body.body-index in
    let bodies = c.args.bodies.now in
    let same = c.as_slice-body-items.ensures in
    let body = c.as_slice.result.now in
    let there : body ≡ get_or bodies i c.body-item.result = c.as_slice.ensures ∙ c.body-item.is ∙ ap (λ (xs : List (List ℕ)). get_or xs i c.body-item.result) same in
    let more : bodies_text (take (i + 1) bodies) ≡ bodies_text (take i bodies) ++ (32 ∷ hex_text body) =
    bodies_more bodies i c.body-item.result (omega (arith, ap length same)) ∙ ap (λ (b : List ℕ). bodies_text (take i bodies) ++ (32 ∷ hex_text b)) (sym there) in
    two g.T.Taker.adds g.met.T.Taker.adds_more _ _ _ _ _ _ c.loop-body.invariant c.put_body.ensures (sym more)
