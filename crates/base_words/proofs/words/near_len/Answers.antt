use Rattle.std.proofs.Common.{length, sym, arith}
use Rattle.std.proofs.lemmas.Bool.{ne_eqb, eq-eqb}
use Rattle.std.proofs.lemmas.List.Sums.{position_or_len_is}
use Rattle.base_words.specs.Words.{is_space}
use Rattle.base_words.proofs.words.near_len.Goals as goal

pub returns-then-byte-eq32-clause-value : goal.returns-then-byte-eq32-clause-value
returns-then-byte-eq32-clause-value c =
    sym (position_or_len_is (is_space) c.args.text.now c.loop-i.i 0 (omega arith) (λ k lt. ne_eqb _ 32 (c.loop-i.invariant k lt)) (λ lt. eq-eqb _ 32 c.if-byte-eq32.true))

pub returns-clause-value : goal.returns-clause-value
returns-clause-value c =
    sym (position_or_len_is (is_space) c.args.text.now (length c.args.text.now) 0 (omega arith) (λ k lt. ne_eqb _ 32 (c.loop-i.invariant k (omega arith))) (λ lt. absurd (omega arith)))
