use Rattle.std.proofs.Common.{◌∙◌, arith, sym}
use Rattle.play_script.proofs.EditLaws.{one_more_before, found_text, found_last, found_none}
use Rattle.play_script.proofs.edits.split_edit.Goals as goal

pub returns-then-is_separator-clause-texts : goal.returns-then-is_separator-clause-texts
returns-then-is_separator-clause-texts c =
    found_text c.args.text.now c.loop-word.rest.now c.in-Some.word.now c.in-Some.others.now c.before_space.result.now c.loop-word.invariant.0 c.in-Some.ensures.words
    (sym c.is_separator.ensures ∙ c.if-is_separator.true) c.before_space.ensures

pub loop-word-preserved : goal.loop-word-preserved
loop-word-preserved c = (
  one_more_before c.args.text.now c.loop-word.rest.now c.in-Some.word.now c.in-Some.others.now c.loop-word.invariant.0 c.in-Some.ensures.words (sym c.is_separator.ensures ∙ c.if-is_separator.false),
  omega (arith, c.loop-word.invariant.1, c.in-Some.ensures.shorter),
)

pub returns-then-is_separator-2-clause-texts : goal.returns-then-is_separator-2-clause-texts
returns-then-is_separator-2-clause-texts c =
    found_last c.args.text.now c.loop-word.rest.now c.before_space-then-is_separator-2.result.now c.loop-word.invariant.0 c.in_default.ensures.words
    (sym c.is_separator-2.ensures ∙ c.if-is_separator-2.true) c.before_space-then-is_separator-2.ensures

pub returns-else-is_separator-2-clause-texts : goal.returns-else-is_separator-2-clause-texts
returns-else-is_separator-2-clause-texts c = found_none c.args.text.now c.loop-word.rest.now c.loop-word.invariant.0 c.in_default.ensures.words
    (sym c.is_separator-2.ensures ∙ c.if-is_separator-2.false)
