use Rattle.std.proofs.Common.{◌≡◌, ◌∙◌, sym, ap, take, drop, arith}
use Rattle.std.specs.List.{list_all}
use Rattle.std.specs.Char.{is_ascii_graphic}
use Rattle.edit_ops.specs.Rules.{told_length}
use Rattle.edit_ops.proofs.ReadFields.{number_found, text_found}
use Rattle.edit_codec.proofs.record_source.take_text.Goals as goal

pub returns : goal.returns
returns c = λ t is.
    let told : c.from-len.result ≡ told_length c.args.bytes.now = c.from-len.ensures ∙ (number_found _ _ _ c.in-Some.ensures).1 in
    text_found t c.args.bytes.now _ _ c.from-len.result told
    (omega (arith, c.split_at.ensures.back_len))
    (omega (arith, is))
    (ap (list_all is_ascii_graphic) c.in_ok-from_slice.ensures ∙ sym c.is_printable.ensures ∙ c.if-not-is_printable.false)
    (c.in_ok-from_slice.ensures ∙ c.split_at-2.ensures.front ∙ ap (take c.from-len.result) c.split_at.ensures.back)
    (c.split_at-2.ensures.back ∙ ap (drop c.from-len.result) c.split_at.ensures.back)
