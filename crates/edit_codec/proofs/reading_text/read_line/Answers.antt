use Rattle.std.proofs.Common.{◌≡◌, ℕ, List, Ok, subst, sym, ◌∙◌}
use Rattle.std.proofs.lemmas.Bool.{eqb-true}
use Rattle.std.proofs.lemmas.Result.{err_from_is_err_and}
use Rattle.edit_ops.specs.Records.{kind_of, fields_of}
use Rattle.edit_ops.specs.Sources.{Fails}
use Rattle.edit_codec.specs.OpRead.{op_read}
use Rattle.edit_codec.specs.Saying.{words_group}
use Rattle.edit_codec.proofs.SayEdits.{no_verb, line_misses, no_more, is_line}
use Rattle.edit_codec.proofs.SayWords.{split_whole}
use Rattle.edit_codec.proofs.reading_text.read_line.Goals as goal
use Rattle.base_words.proofs.Lists.{some_there}

pub returns-in-None : goal.returns-in-None
returns-in-None c = no_verb c.args.words.now (λ k m e. c.in-None.ensures.none k m (e ∙ sym c.split_word.ensures.word))

pub returns-in_err-op : goal.returns-in_err-op
returns-in_err-op c =
    let p = err_from_is_err_and c.from_residual.result c.from_residual.ensures.1 in
    rw (p.1, p.2) (line_misses c.args.words.now c.in-Some.kind c.in_err-op.field-0.0 (c.in-Some.ensures.found.1 ∙ c.split_word.ensures.word)
    (subst (λ (w : List ℕ). Fails c.in_err-op.field-0.0 (op_read words_group c.in-Some.kind w)) c.split_word.ensures.rest c.in_err-op.ensures))

pub returns-then-not-is_empty : goal.returns-then-not-is_empty
returns-then-not-is_empty c =
    no_more c.args.words.now c.in-Some.kind (kind_of c.in_ok-op.op) (fields_of c.in_ok-op.op) c.read_op.new.source.rest.now (c.in-Some.ensures.found.1 ∙ c.split_word.ensures.word)
    (subst (λ (w : List ℕ). op_read words_group c.in-Some.kind w ≡ Ok ((kind_of c.in_ok-op.op, fields_of c.in_ok-op.op), c.read_op.new.source.rest.now)) c.split_word.ensures.rest c.in_ok-op.ensures)
    (some_there c.read_op.new.source.rest.now (sym c.is_empty.ensures ∙ c.if-not-is_empty.true))

pub returns : goal.returns
returns c =
    is_line c.args.words.now c.in-Some.kind c.in_ok-op.op c.read_op.new.source.rest.now c.in-Some.ensures.found.0 (c.in-Some.ensures.found.1 ∙ c.split_word.ensures.word) (split_whole c.args.words.now)
    (subst (λ (w : List ℕ). op_read words_group c.in-Some.kind w ≡ Ok ((kind_of c.in_ok-op.op, fields_of c.in_ok-op.op), c.read_op.new.source.rest.now)) c.split_word.ensures.rest c.in_ok-op.ensures)
    (eqb-true _ _ (sym c.is_empty.ensures ∙ c.if-not-is_empty.false))
