use Rattle.std.proofs.Common.{◌≡◌, ◌≢◌, ◌<◌, ◌/◌, [], arith, length, rules}
use Rattle.std.specs.Prelude.{IfOk, IfSome}
use Rattle.std.proofs.lemmas.Bool.Decides.{nat_tests}
use Rattle.std.proofs.lemmas.List.{length-take, nil_from_length}
use Rattle.journal_text.proofs.BodyLaws.{no_word, copied, copied_memory}
use Rattle.journal_text.proofs.words.copy_body.Goals as goal

pub returns-then-is_empty-clause-body : goal.returns-then-is_empty-clause-body
returns-then-is_empty-clause-body c =
    let none : length c.args.word.now ≡ 0 = grind (arith, nat_tests, c.is_empty.ensures, c.if-is_empty.true) in
    no_word c.args.word.now (nil_from_length c.args.word.now none)

pub returns-clause-body : goal.returns-clause-body
returns-clause-body c =
    let some : IfOk c.copy_of.result (λ o. IfSome o (λ b. b ≢ [])) = search rules in
    copied c.copy_of.result c.args.word.now _ (rw c.if-not-read_hex.false at c.read_hex.ensures)
    (omega (arith, c.requires.most, length-take (length c.args.word.now / 2) c.read_hex.new.bytes)) c.copy_of.ensures some

pub returns-clause-memory : goal.returns-clause-memory
returns-clause-memory c =
    let some : 0 < length c.args.word.now = grind (arith, nat_tests, c.is_empty.ensures, c.if-is_empty.false) in
    copied_memory c.copy_of.result c.args.word.now _ (rw c.if-not-read_hex.false at c.read_hex.ensures)
    (omega (arith, c.requires.most, length-take (length c.args.word.now / 2) c.read_hex.new.bytes)) some
