use Rattle.std.proofs.Common.{sym, ◌∙◌}
use Rattle.base_words.specs.Words.{words_of, first_word}
use Rattle.play_script.specs.Rules.{kind_of}
use Rattle.play_script.proofs.KindLaws.{count_after, line_reads}
use Rattle.play_script.proofs.MemoryLaws.{line_takes}
use Rattle.play_script.proofs.line_reading.read_line.Goals as goal

pub read_operands-requires : goal.read_operands-requires
read_operands-requires c =
    count_after c.in-Some.kind (words_of c.args.line.now) (first_word (words_of c.args.line.now)) (words_of c.in-Some-operands.text.now) c.in-Some-operands.ensures.0 c.in-Some-operands.ensures.1

pub returns-clause-read : goal.returns-clause-read
returns-clause-read c =
    line_reads c.args.said.now c.args.line.now c.in-Some.kind (words_of c.in-Some-operands.text.now) _
    (sym (c.in-Some.ensures ∙ (λ i. kind_of (c.named.ensures i) (c.first_word.ensures i)))) c.in-Some-operands.ensures.0
    c.in-Some-operands.ensures.1
    c.read_operands.ensures.read

pub returns-clause-memory : goal.returns-clause-memory
returns-clause-memory c =
    line_takes c.args.said.now c.args.line.now c.in-Some.kind (words_of c.in-Some-operands.text.now) _
    (sym (c.in-Some.ensures ∙ (λ i. kind_of (c.named.ensures i) (c.first_word.ensures i)))) c.in-Some-operands.ensures.0
    c.in-Some-operands.ensures.1
    c.read_operands.ensures.memory
