use Rattle.std.proofs.Common.{ℕ, List, ◌++◌, sym, ap, subst, ◌∙◌}
use Rattle.edit_codec.specs.Saying.{Boundary}
use Rattle.edit_codec.proofs.SayNumbers.{same_bytes}
use Rattle.edit_codec.proofs.SayWords.{split_whole, split_bound}
use Rattle.edit_codec.proofs.reading_text.read_edit.Goals as goal

pub read_called_edit-requires : goal.read_called_edit-requires
read_called_edit-requires c = subst Boundary (sym c.split_word.ensures.rest) (split_bound c.args.text.now)

pub returns-then-eq : goal.returns-then-eq
returns-then-eq c =
    let word_is = same_bytes _ _ (sym c.eq.ensures ∙ c.if-eq.true) in
    c.read_called_edit.ensures c.args.text.now (sym (split_whole c.args.text.now)
    ∙ (λ i. sym c.split_word.ensures.word i ++ sym c.split_word.ensures.rest i)
    ∙ ap (λ (w : List ℕ). w ++ c.split_word.result.1.now) (word_is ∙ c.as_slice.ensures))
