use Rattle.std.proofs.Common.{List, ℕ, ◌≡◌, ◌++◌, ◌∷◌, sym, ap, ◌∙◌, take-append-drop}
use Rattle.base_words.specs.Hex.{hex_text}
use Rattle.play_report.proofs.PartLaws.{hex-append}
use Rattle.play_report.proofs.TakerLaws.{two}
use Rattle.play_report.proofs.pieces.put_body.Goals as goal

pub returns : goal.returns
returns g c =
    let front = c.split_at.result.0.now in
    let back = c.split_at.result.1.now in
    let whole : c.args.body.now ≡ front ++ back = rw (c.split_at.ensures.front, c.split_at.ensures.back) (sym (take-append-drop _ c.args.body.now)) in
    two g.T.Taker.adds g.met.T.Taker.adds_more _ _ _ _ _ _ c.put.ensures c.put_hex.ensures
    (ap (λ (xs : List ℕ). xs ++ hex_text back) c.hex_digits-digits.ensures ∙ ap (λ (xs : List ℕ). 32 ∷ xs) (sym (hex-append front back) ∙ ap hex_text (sym whole)))
