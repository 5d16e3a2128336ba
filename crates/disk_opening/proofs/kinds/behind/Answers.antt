use Rattle.std.proofs.Common.{◌≡◌, ◌∙◌, List, ℕ, sym, ap, not, refl, take, length}
use Rattle.std.proofs.lemmas.Bool.{true≢false}
use Rattle.std.proofs.lemmas.List.{take_at}
use Rattle.std.proofs.lemmas.Slice.Eq.{bytes_eq-Decides}
use Rattle.disk_opening.proofs.kinds.behind.Goals as goal

pub returns-then-ne : goal.returns-then-ne
returns-then-ne c rest is =
    let same : c.split_at.result.0.now ≡ c.args.front.now = c.split_at.ensures.front ∙ ap (λ (l : List ℕ). take (length c.args.front.now) l) is
    ∙ take_at c.args.front.now rest (length c.args.front.now) refl in
    true≢false (sym c.if-ne.true ∙ c.ne.ensures ∙ ap not ((bytes_eq-Decides c.split_at.result.0.now c.args.front.now).1 same))
