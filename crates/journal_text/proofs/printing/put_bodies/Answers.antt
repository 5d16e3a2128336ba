use Rattle.std.proofs.Common.{arith, ◌∙◌, ap, ◌++◌, List, ℕ, ◌∷◌, ◌≡◌, length, sym, get_or, take, ◌+◌}
use Rattle.base_words.specs.Hex.{hex_text}
use Rattle.journal_text.specs.Texts.{bodies_text}
use Rattle.journal_text.proofs.PrintLaws.{body_grows, bodies_more}
use Rattle.journal_text.proofs.printing.put_bodies.Goals as goal

pub loop-body-preserved : goal.loop-body-preserved
loop-body-preserved c =
    let i = c.loop-body.body-index in
    let bodies = c.args.bodies.now in
    let same = c.as_slice-body-items.ensures in
    let body = c.as_slice.result.now in
    let there : body ≡ get_or bodies i c.body-item.result = c.as_slice.ensures ∙ c.body-item.is ∙ ap (λ (xs : List (List ℕ)). get_or xs i c.body-item.result) same in
    let more : bodies_text (take (i + 1) bodies) ≡ bodies_text (take i bodies) ++ (32 ∷ hex_text body) =
    bodies_more bodies i c.body-item.result (omega (arith, ap length same)) ∙ ap (λ (b : List ℕ). bodies_text (take i bodies) ++ (32 ∷ hex_text b)) (sym there) in
    body_grows c.args.out.now.items c.loop-body.out.items c.put.new.out.items (hex_text body) c.put_hex.new.out.items (bodies_text (take i bodies)) (bodies_text (take (i + 1) bodies))
    c.loop-body.invariant c.in_ok-put.ensures.ok c.in_ok-put_hex.ensures.ok more
